-- Refused queries, tried at the table t. None of them needs a row.
use Rattle.std.specs.Prelude.{◌≡◌, refl, List, [], ◌∷◌, None, Some, codes}
use Rattle.sql_cases.proofs.Types.{Null, Refused, Syntax, NoTable, NoColumn, TypeClash, Table}
use Rattle.ldv_value.specs.declared.value.Cmp.TheVariants.{Eq, Gt}
use Rattle.sql_model.specs.declared.expr.Fold.TheVariants.{Count as CountOf, Sum}
use Rattle.sql_model.specs.Needs.{need_of}
use Rattle.sql_model.specs.Statements.{reply_of}
use Rattle.sql_cases.proofs.TermQueries.{query_refusal, answer, hidden_rows}
use Rattle.sql_cases.proofs.TermReplies.{Computes, query_refused}
use Rattle.sql_cases.proofs.TermStatements.{TermQuery}
use Rattle.sql_cases.proofs.Terms.{Count, Aggregate, folds_over}
use Rattle.sql_model.proofs.WorkedTables.{table_t, source}
use Rattle.sql_cases.proofs.WorkedTerms.{column, column_of, k, g, v, g_name, number, compared, t, t_twice, selected, grouped, ordered, query, Refuses}

-- a text that has no reading
no_statement : (db : List Table) → reply_of None db ≡ Refused Syntax
unfolding reply_of
no_statement db = refl

no_statement_needs : (db : List Table) → need_of None db ≡ []
unfolding need_of
no_statement_needs db = refl

-- SELECT z FROM u
abbrev missing : TermQuery
missing = query (selected (column (codes "z") ∷ []) (source (codes "u") (codes "u") ∷ []) [])

missing_computes : Computes missing
missing_computes = record {
  refusal = λ d i. query_refusal (folds_over i) missing d;
  rows = λ d i. answer (folds_over i) missing d;
  hidden = λ d i. hidden_rows (folds_over i) missing d;
}

no_table : Refuses missing NoTable
no_table = query_refused missing missing_computes (table_t 5 ∷ []) NoTable refl

-- SELECT k FROM t x, t y
abbrev of_two : TermQuery
of_two = query (selected (k ∷ []) t_twice [])

of_two_computes : Computes of_two
of_two_computes = record {
  refusal = λ d i. query_refusal (folds_over i) of_two d;
  rows = λ d i. answer (folds_over i) of_two d;
  hidden = λ d i. hidden_rows (folds_over i) of_two d;
}

column_of_two_sources : Refuses of_two NoColumn
column_of_two_sources = query_refused of_two of_two_computes (table_t 5 ∷ []) NoColumn refl

-- SELECT g, v FROM t GROUP BY g
abbrev outside : TermQuery
outside = query
    (grouped (selected (g ∷ v ∷ []) t [])
    (g_name ∷ []) None)

outside_computes : Computes outside
outside_computes = record {
  refusal = λ d i. query_refusal (folds_over i) outside d;
  rows = λ d i. answer (folds_over i) outside d;
  hidden = λ d i. hidden_rows (folds_over i) outside d;
}

ungrouped_column : Refuses outside NoColumn
ungrouped_column = query_refused outside outside_computes (table_t 5 ∷ []) NoColumn refl

-- SELECT k FROM t WHERE g = 1
abbrev mixed : TermQuery
mixed = query (selected (k ∷ []) t (compared Eq g (number 1) ∷ []))

mixed_computes : Computes mixed
mixed_computes = record {
  refusal = λ d i. query_refusal (folds_over i) mixed d;
  rows = λ d i. answer (folds_over i) mixed d;
  hidden = λ d i. hidden_rows (folds_over i) mixed d;
}

text_against_number : Refuses mixed TypeClash
text_against_number = query_refused mixed mixed_computes (table_t 5 ∷ []) TypeClash refl

-- SELECT k FROM t WHERE COUNT(*) > 1
abbrev counted : TermQuery
counted = query (selected (k ∷ []) t (compared Gt (Count CountOf) (number 1) ∷ []))

counted_computes : Computes counted
counted_computes = record {
  refusal = λ d i. query_refusal (folds_over i) counted d;
  rows = λ d i. answer (folds_over i) counted d;
  hidden = λ d i. hidden_rows (folds_over i) counted d;
}

aggregate_in_where : Refuses counted TypeClash
aggregate_in_where = query_refused counted counted_computes (table_t 5 ∷ []) TypeClash refl

-- SELECT COUNT(*) FROM t x, t y
abbrev count_of_two : TermQuery
count_of_two = query (selected (Count CountOf ∷ []) t_twice [])

count_of_two_computes : Computes count_of_two
count_of_two_computes = record {
  refusal = λ d i. query_refusal (folds_over i) count_of_two d;
  rows = λ d i. answer (folds_over i) count_of_two d;
  hidden = λ d i. hidden_rows (folds_over i) count_of_two d;
}

count_over_two_sources : Refuses count_of_two TypeClash
count_over_two_sources = query_refused count_of_two count_of_two_computes (table_t 5 ∷ []) TypeClash refl

-- SELECT SUM(1) FROM t x JOIN t y ON x.k = y.k
abbrev sum_of_two : TermQuery
sum_of_two = query
    (selected (Aggregate Sum (number 1) ∷ []) t_twice
    (compared Eq (column_of (codes "x") (codes "k")) (column_of (codes "y") (codes "k")) ∷ []))

sum_of_two_computes : Computes sum_of_two
sum_of_two_computes = record {
  refusal = λ d i. query_refusal (folds_over i) sum_of_two d;
  rows = λ d i. answer (folds_over i) sum_of_two d;
  hidden = λ d i. hidden_rows (folds_over i) sum_of_two d;
}

sum_over_two_sources : Refuses sum_of_two TypeClash
sum_over_two_sources = query_refused sum_of_two sum_of_two_computes (table_t 5 ∷ []) TypeClash refl

-- SELECT k FROM t LIMIT ?, with NULL
abbrev null_limit : TermQuery
null_limit = ordered (selected (k ∷ []) t []) [] (Some Null)

null_limit_computes : Computes null_limit
null_limit_computes = record {
  refusal = λ d i. query_refusal (folds_over i) null_limit d;
  rows = λ d i. answer (folds_over i) null_limit d;
  hidden = λ d i. hidden_rows (folds_over i) null_limit d;
}

limit_no_number : Refuses null_limit TypeClash
limit_no_number = query_refused null_limit null_limit_computes (table_t 5 ∷ []) TypeClash refl
