-- Whole answers with the rows that they need, tried at the table t.
use Rattle.std.specs.Prelude.{◌≡◌, refl, List, [], ◌∷◌, map, take, false, true, Some, None, pos, codes}
use Rattle.sql_cases.proofs.Types.{Null, Int, Text, Add, Or, L, H, Name, Table}
use Rattle.ldv_value.specs.declared.value.Cmp.TheVariants.{Eq, Lt, Gt}
use Rattle.sql_model.specs.declared.expr.Fold.TheVariants.{Count as CountOf, Sum, Max}
use Rattle.sql_model.specs.QueryAnswer as answers
use Rattle.sql_model.specs.Needs.{needed_by, sorted_needs}
use Rattle.sql_cases.proofs.TermQueries.{query_refusal, answer, hidden_rows}
use Rattle.sql_cases.proofs.TermReplies.{Computes, query_accepted}
use Rattle.sql_cases.proofs.TermStatements.{TermQuery, query_of}
use Rattle.sql_cases.proofs.Terms.{Not, Both, IsNull, Count, Aggregate, folds_over}
use Rattle.sql_model.proofs.WorkedTables.{table_t}
use Rattle.sql_cases.proofs.WorkedTerms.{column_of, k, g, v, g_name, number, text, compared, t, t_twice, selected, distinct, joined_all, grouped, ordered, query, needed, Answers}

abbrev db : List Table
db = table_t 5 ∷ []

-- SELECT k FROM t WHERE v > 100
abbrev over_100 : TermQuery
over_100 = query (selected (k ∷ []) t (compared Gt v (number 100) ∷ []))

over_100_computes : Computes over_100
over_100_computes = record {
  refusal = λ d i. query_refusal (folds_over i) over_100 d;
  rows = λ d i. answer (folds_over i) over_100 d;
  hidden = λ d i. hidden_rows (folds_over i) over_100 d;
}

no_row : Answers over_100 db [] []
no_row = query_accepted over_100 over_100_computes db refl

-- SELECT DISTINCT x.g FROM t x JOIN t y ON x.v = y.v
abbrev twins : TermQuery
twins = query
    (distinct
    (selected (column_of (codes "x") (codes "g") ∷ []) t_twice
    (compared Eq (column_of (codes "x") (codes "v")) (column_of (codes "y") (codes "v")) ∷ [])))

twins_computes : Computes twins
twins_computes = record {
  refusal = λ d i. query_refusal (folds_over i) twins d;
  rows = λ d i. answer (folds_over i) twins d;
  hidden = λ d i. hidden_rows (folds_over i) twins d;
}

distinct_join : Answers twins db
    ((Text (codes "a") ∷ []) ∷ (Text (codes "b") ∷ []) ∷ (Text (codes "c") ∷ []) ∷ [])
    (needed L 0 ∷ needed L 1 ∷ needed L 2 ∷ needed L 4 ∷ [])
distinct_join = query_accepted twins twins_computes db refl

-- its first row, 'a', comes from the rows 0 and 1 and, by the join, from 4
united_lineage :
    sorted_needs (map (needed_by L) (answers.lineage_of (take 1 (answers.answer (query_of twins) db))))
    ≡ needed L 0 ∷ needed L 1 ∷ needed L 4 ∷ []
united_lineage = λ i. sorted_needs
    (map (needed_by L) (answers.lineage_of (take 1 (twins_computes.rows db i))))

-- SELECT COUNT(*), SUM(v) FROM t WHERE k > 9
abbrev counts : TermQuery
counts = query
    (selected (Count CountOf ∷ Aggregate Sum v ∷ []) t
    (compared Gt k (number 9) ∷ []))

counts_computes : Computes counts
counts_computes = record {
  refusal = λ d i. query_refusal (folds_over i) counts d;
  rows = λ d i. answer (folds_over i) counts d;
  hidden = λ d i. hidden_rows (folds_over i) counts d;
}

over_no_rows : Answers counts db ((Int (pos 0) ∷ Null ∷ []) ∷ []) []
over_no_rows = query_accepted counts counts_computes db refl

-- SELECT SUM(v + 9223372036854775787) FROM t WHERE g = 'a'
abbrev large_sum : TermQuery
large_sum = query
    (selected (Aggregate Sum (Both Add v (number 9223372036854775787)) ∷ []) t
    (compared Eq g (text (codes "a")) ∷ []))

large_sum_computes : Computes large_sum
large_sum_computes = record {
  refusal = λ d i. query_refusal (folds_over i) large_sum d;
  rows = λ d i. answer (folds_over i) large_sum d;
  hidden = λ d i. hidden_rows (folds_over i) large_sum d;
}

sum_outside_64_bits : Answers large_sum db ((Null ∷ []) ∷ []) (needed L 0 ∷ needed L 1 ∷ [])
sum_outside_64_bits = query_accepted large_sum large_sum_computes db refl

-- SELECT v FROM t WHERE k = 1
abbrev pub first_v : TermQuery
first_v = query (selected (v ∷ []) t (compared Eq k (number 1) ∷ []))

pub first_v_computes : Computes first_v
first_v_computes = record {
  refusal = λ d i. query_refusal (folds_over i) first_v d;
  rows = λ d i. answer (folds_over i) first_v d;
  hidden = λ d i. hidden_rows (folds_over i) first_v d;
}

one_row : Answers first_v db ((Int (pos 10) ∷ []) ∷ []) (needed L 0 ∷ [])
one_row = query_accepted first_v first_v_computes db refl

-- SELECT g FROM t GROUP BY g HAVING COUNT(*) < 2
abbrev small_groups : TermQuery
small_groups = query
    (grouped (selected (g ∷ []) t []) (g_name ∷ [])
    (Some (compared Lt (Count CountOf) (number 2))))

small_groups_computes : Computes small_groups
small_groups_computes = record {
  refusal = λ d i. query_refusal (folds_over i) small_groups d;
  rows = λ d i. answer (folds_over i) small_groups d;
  hidden = λ d i. hidden_rows (folds_over i) small_groups d;
}

rejected_groups : Answers small_groups db ((Text (codes "c") ∷ []) ∷ [])
    (needed H 0 ∷ needed H 1 ∷ needed H 2 ∷ needed H 3 ∷ needed L 4 ∷ [])
rejected_groups = query_accepted small_groups small_groups_computes db refl

-- SELECT v, k FROM t ORDER BY v DESC LIMIT 2
abbrev largest : TermQuery
largest = ordered (selected (v ∷ k ∷ []) t [])
    (record { key = Name (codes "v"); descending = true } ∷ []) (Some (Int (pos 2)))

largest_computes : Computes largest
largest_computes = record {
  refusal = λ d i. query_refusal (folds_over i) largest d;
  rows = λ d i. answer (folds_over i) largest d;
  hidden = λ d i. hidden_rows (folds_over i) largest d;
}

first_two : Answers largest db
    ((Int (pos 20) ∷ Int (pos 2) ∷ []) ∷ (Int (pos 10) ∷ Int (pos 1) ∷ []) ∷ [])
    (needed L 0 ∷ needed L 1 ∷ [])
first_two = query_accepted largest largest_computes db refl

-- SELECT DISTINCT v FROM t ORDER BY v LIMIT 2
abbrev least_values : TermQuery
least_values = ordered (distinct (selected (v ∷ []) t []))
    (record { key = Name (codes "v"); descending = false } ∷ []) (Some (Int (pos 2)))

least_values_computes : Computes least_values
least_values_computes = record {
  refusal = λ d i. query_refusal (folds_over i) least_values d;
  rows = λ d i. answer (folds_over i) least_values d;
  hidden = λ d i. hidden_rows (folds_over i) least_values d;
}

first_two_distinct : Answers least_values db ((Null ∷ []) ∷ (Int (pos 5) ∷ []) ∷ [])
    (needed H 0 ∷ needed H 1 ∷ needed L 2 ∷ needed L 3 ∷ needed H 4 ∷ [])
first_two_distinct = query_accepted least_values least_values_computes db refl

-- SELECT g FROM t WHERE k < 3 UNION ALL SELECT g FROM t WHERE k = 1 UNION SELECT g FROM t WHERE k = 5
abbrev unions : TermQuery
unions = record {
  cores = selected (g ∷ []) t (compared Lt k (number 3) ∷ [])
      ∷ joined_all (selected (g ∷ []) t (compared Eq k (number 1) ∷ []))
      ∷ selected (g ∷ []) t (compared Eq k (number 5) ∷ []) ∷ [];
  order = [];
  limit = None;
}

unions_computes : Computes unions
unions_computes = record {
  refusal = λ d i. query_refusal (folds_over i) unions d;
  rows = λ d i. answer (folds_over i) unions d;
  hidden = λ d i. hidden_rows (folds_over i) unions d;
}

united_from_the_left : Answers unions db ((Text (codes "a") ∷ []) ∷ (Text (codes "c") ∷ []) ∷ [])
    (needed L 0 ∷ needed L 1 ∷ needed L 4 ∷ [])
united_from_the_left = query_accepted unions unions_computes db refl

-- SELECT k FROM t WHERE NOT v > 5: unknown where v is NULL
abbrev not_over_5 : TermQuery
not_over_5 = query (selected (k ∷ []) t (Not (compared Gt v (number 5)) ∷ []))

not_over_5_computes : Computes not_over_5
not_over_5_computes = record {
  refusal = λ d i. query_refusal (folds_over i) not_over_5 d;
  rows = λ d i. answer (folds_over i) not_over_5 d;
  hidden = λ d i. hidden_rows (folds_over i) not_over_5 d;
}

unknown_is_not_true : Answers not_over_5 db
    ((Int (pos 3) ∷ []) ∷ [])
    (needed L 2 ∷ [])
unknown_is_not_true = query_accepted not_over_5 not_over_5_computes db refl

-- SELECT k FROM t WHERE v IS NULL OR v > 15
abbrev null_or_large : TermQuery
null_or_large = query (selected (k ∷ []) t (Both Or (IsNull v false) (compared Gt v (number 15)) ∷ []))

null_or_large_computes : Computes null_or_large
null_or_large_computes = record {
  refusal = λ d i. query_refusal (folds_over i) null_or_large d;
  rows = λ d i. answer (folds_over i) null_or_large d;
  hidden = λ d i. hidden_rows (folds_over i) null_or_large d;
}

null_or_true : Answers null_or_large db
    ((Int (pos 2) ∷ [])
    ∷ (Int (pos 4) ∷ []) ∷ [])
    (needed L 1 ∷ needed L 3 ∷ [])
null_or_true = query_accepted null_or_large null_or_large_computes db refl

-- SELECT g, COUNT(v), SUM(v), MAX(v) FROM t GROUP BY g: NULL is not counted
abbrev sums : TermQuery
sums = query
    (grouped (selected (g ∷ Aggregate CountOf v ∷ Aggregate Sum v ∷ Aggregate Max v ∷ []) t [])
    (g_name ∷ []) None)

sums_computes : Computes sums
sums_computes = record {
  refusal = λ d i. query_refusal (folds_over i) sums d;
  rows = λ d i. answer (folds_over i) sums d;
  hidden = λ d i. hidden_rows (folds_over i) sums d;
}

groups_in_order : Answers sums db
    ((Text (codes "a") ∷ Int (pos 2) ∷ Int (pos 30) ∷ Int (pos 20) ∷ [])
    ∷ (Text (codes "b") ∷ Int (pos 1) ∷ Int (pos 5) ∷ Int (pos 5) ∷ [])
    ∷ (Text (codes "c") ∷ Int (pos 1) ∷ Int (pos 10) ∷ Int (pos 10) ∷ []) ∷ [])
    (needed L 0 ∷ needed L 1 ∷ needed L 2 ∷ needed L 3 ∷ needed L 4 ∷ [])
groups_in_order = query_accepted sums sums_computes db refl

-- SELECT v, k FROM t ORDER BY v: rows of the same v keep their order
abbrev by_v : TermQuery
by_v = ordered (selected (v ∷ k ∷ []) t [])
    (record { key = Name (codes "v"); descending = false } ∷ []) None

by_v_computes : Computes by_v
by_v_computes = record {
  refusal = λ d i. query_refusal (folds_over i) by_v d;
  rows = λ d i. answer (folds_over i) by_v d;
  hidden = λ d i. hidden_rows (folds_over i) by_v d;
}

ties_keep_order : Answers by_v db
    ((Null ∷ Int (pos 4) ∷ [])
    ∷ (Int (pos 5) ∷ Int (pos 3) ∷ [])
    ∷ (Int (pos 10) ∷ Int (pos 1) ∷ [])
    ∷ (Int (pos 10) ∷ Int (pos 5) ∷ [])
    ∷ (Int (pos 20) ∷ Int (pos 2) ∷ []) ∷ [])
    (needed L 0 ∷ needed L 1 ∷ needed L 2 ∷ needed L 3 ∷ needed L 4 ∷ [])
ties_keep_order = query_accepted by_v by_v_computes db refl
