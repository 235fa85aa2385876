-- Changes, with their needed rows, the tables after them and their row versions, tried at the table t.
use Rattle.std.proofs.Common.{List, [], ◌∷◌, ◌++◌, map, refl, pos}
use Rattle.std.specs.Prelude.{ℕ, Some, None, codes}
use Rattle.sql_cases.proofs.Types.{Null, Int, Text, Catalog, Add, L, K, Changed, Refused, NotNull, KeyTaken, Full, Table, TableRow}
use Rattle.ldv_value.specs.declared.value.Cmp.TheVariants.{Eq, Lt}
use Rattle.sql_model.specs.Scope.{catalog_of}
use Rattle.sql_cases.proofs.ChangesByParts.{insert_by_terms, update_by_terms, delete_by_terms}
use Rattle.sql_cases.proofs.TermChanges.{made_of, updated, insert_parts, update_parts, delete_parts}
use Rattle.sql_cases.proofs.TermReplies.{query_accepted}
use Rattle.sql_cases.proofs.TermStatements.{TermInsert, TermUpdate, TermDelete, TheInsert, TheUpdate, TheDelete}
use Rattle.sql_cases.proofs.Terms.{Term, Both, over, folds_over}
use Rattle.sql_cases.proofs.WorkedAnswers.{first_v, first_v_computes}
use Rattle.sql_model.proofs.WorkedTables.{rows_of_t, columns_of_t, table_row, table_t}
use Rattle.sql_cases.proofs.WorkedTerms.{k, v, number, text, compared, set, needed, new, next, nothing, Answers, Leaves}

-- the schemas of the table t
abbrev catalog : Catalog
catalog = catalog_of (table_t 5 ∷ [])

-- the table t with other rows and another next number
abbrev t_of : List TableRow → ℕ → Table
t_of rows next =
    record {
      name = codes "t";
      schema = record { columns = columns_of_t; key = 0 ∷ []; foreign = [] };
      rows = rows;
      next = next;
    }

-- the rows of t with other keys
abbrev keyed : ℕ → ℕ → ℕ → ℕ → ℕ → List TableRow
keyed a b c d e =
    table_row 0 (Int (pos a)) (Text (codes "a")) (Int (pos 10))
    ∷ table_row 1 (Int (pos b)) (Text (codes "a")) (Int (pos 20))
    ∷ table_row 2 (Int (pos c)) (Text (codes "b")) (Int (pos 5))
    ∷ table_row 3 (Int (pos d)) (Text (codes "b")) Null
    ∷ table_row 4 (Int (pos e)) (Text (codes "c")) (Int (pos 10))
    ∷ []

-- INSERT INTO t VALUES row, ..
abbrev rows_in : List (List Term) → TermInsert
rows_in rows = record { table = codes "t"; columns = None; rows = rows }

-- INSERT INTO t (name) VALUES (term)
abbrev one_in : List ℕ → Term → TermInsert
one_in name term = record { table = codes "t"; columns = Some (name ∷ []); rows = (term ∷ []) ∷ [] }

-- t with 11 for the first v
abbrev t_after_first : Table
t_after_first =
    t_of (table_row 0 (Int (pos 1)) (Text (codes "a")) (Int (pos 11))
    ∷ table_row 1 (Int (pos 2)) (Text (codes "a")) (Int (pos 20))
    ∷ table_row 2 (Int (pos 3)) (Text (codes "b")) (Int (pos 5))
    ∷ table_row 3 (Int (pos 4)) (Text (codes "b")) Null
    ∷ table_row 4 (Int (pos 5)) (Text (codes "c")) (Int (pos 10))
    ∷ []) 5

-- UPDATE t SET v = v + 1 WHERE k = 1
abbrev first_up : TermUpdate
first_up =
    record {
      table = codes "t";
      sets = set (codes "v") (Both Add v (number 1)) ∷ [];
      pick = Some (compared Eq k (number 1));
    }

one_updated : Leaves (TheUpdate first_up) (table_t 5) (Changed 1) (needed L 0 ∷ []) t_after_first
    (λ versions. next versions 0 ∷ [])
one_updated =
    update_by_terms first_up (table_t 5) refl refl
    (λ i. update_parts (folds_over i) (made_of first_up catalog (table_t 5)) first_up catalog (table_t 5))
    (λ i. update_parts over (updated (folds_over i) first_up catalog (table_t 5)) first_up catalog
    (table_t 5))

-- SELECT v FROM t WHERE k = 1, after that
seen_after : Answers first_v (t_after_first ∷ []) ((Int (pos 11) ∷ []) ∷ []) (needed L 0 ∷ [])
seen_after = query_accepted first_v first_v_computes (t_after_first ∷ []) refl

-- INSERT INTO t VALUES (3, 'z', 1)
abbrev third : TermInsert
third = rows_in ((number 3 ∷ text (codes "z") ∷ number 1 ∷ []) ∷ [])

key_of_a_row : Leaves (TheInsert third) (table_t 5) (Refused (KeyTaken (codes "t") (Int (pos 3) ∷ [])))
    (needed K 2 ∷ []) (table_t 5)
    nothing
key_of_a_row = insert_by_terms third (table_t 5) refl refl
    (λ i. insert_parts (folds_over i) third catalog (table_t 5))

-- UPDATE t SET k = k + 1 WHERE k < 6
abbrev all_up : TermUpdate
all_up = record {
  table = codes "t";
  sets = set (codes "k") (Both Add k (number 1)) ∷ [];
  pick = Some (compared Lt k (number 6));
}

keys_shifted : Leaves (TheUpdate all_up) (table_t 5) (Changed 5)
    (needed L 0 ∷ needed L 1 ∷ needed L 2 ∷ needed L 3 ∷ needed L 4 ∷ []) (t_of (keyed 2 3 4 5 6) 5)
    (λ versions. map (next versions) (0 ∷ 1 ∷ 2 ∷ 3 ∷ 4 ∷ []))
keys_shifted =
    update_by_terms all_up (table_t 5) refl refl
    (λ i. update_parts (folds_over i) (made_of all_up catalog (table_t 5)) all_up catalog (table_t 5))
    (λ i. update_parts over (updated (folds_over i) all_up catalog (table_t 5)) all_up catalog (table_t 5))

-- UPDATE t SET k = k + 1 WHERE k < 4
abbrev some_up : TermUpdate
some_up =
    record {
      table = codes "t";
      sets = set (codes "k") (Both Add k (number 1)) ∷ [];
      pick = Some (compared Lt k (number 4));
    }

shifted_onto_a_key : Leaves (TheUpdate some_up) (table_t 5)
    (Refused (KeyTaken (codes "t") (Int (pos 4) ∷ [])))
    (needed L 0 ∷ needed L 1 ∷ needed L 2 ∷ needed K 3 ∷ []) (table_t 5)
    nothing
shifted_onto_a_key =
    update_by_terms some_up (table_t 5) refl refl
    (λ i. update_parts (folds_over i) (made_of some_up catalog (table_t 5)) some_up catalog (table_t 5))
    (λ i. update_parts over (updated (folds_over i) some_up catalog (table_t 5)) some_up catalog
    (table_t 5))

-- the row (9, 'n', 1), under this number
abbrev ninth : ℕ → TableRow
ninth number = table_row number (Int (pos 9)) (Text (codes "n")) (Int (pos 1))

-- t with it, and without it again
abbrev t_with_ninth : Table
t_with_ninth = t_of (rows_of_t ++ ninth 5 ∷ []) 6

abbrev t_without_ninth : Table
t_without_ninth = t_of rows_of_t 6

-- INSERT INTO t VALUES (9, 'n', 1)
abbrev ninth_in : TermInsert
ninth_in = rows_in ((number 9 ∷ text (codes "n") ∷ number 1 ∷ []) ∷ [])

one_inserted : Leaves (TheInsert ninth_in) (table_t 5) (Changed 1) [] t_with_ninth
    (λ versions. new 5 ∷ [])
one_inserted = insert_by_terms ninth_in (table_t 5) refl refl
    (λ i. insert_parts (folds_over i) ninth_in catalog (table_t 5))

-- DELETE FROM t WHERE k = 9, after that
abbrev ninth_out : TermDelete
ninth_out = record { table = codes "t"; pick = Some (compared Eq k (number 9)) }

one_deleted : Leaves (TheDelete ninth_out) t_with_ninth (Changed 1) (needed L 5 ∷ []) t_without_ninth
    (λ versions. next versions 5 ∷ [])
one_deleted = delete_by_terms ninth_out t_with_ninth refl refl
    (λ i. delete_parts (folds_over i) ninth_out catalog t_with_ninth)

-- and the INSERT again: a number isn't given twice
inserted_again : Leaves (TheInsert ninth_in) t_without_ninth (Changed 1) []
    (t_of (rows_of_t ++ ninth 6 ∷ []) 7)
    (λ versions. new 6 ∷ [])
inserted_again = insert_by_terms ninth_in t_without_ninth refl refl
    (λ i. insert_parts (folds_over i) ninth_in catalog t_without_ninth)

-- INSERT INTO t VALUES (9, 'n', 1), (10, 'n', 1), where one number is left
abbrev two_in : TermInsert
two_in = rows_in
    ((number 9 ∷ text (codes "n") ∷ number 1 ∷ [])
    ∷ (number 10 ∷ text (codes "n") ∷ number 1 ∷ []) ∷ [])

two_too_many : Leaves (TheInsert two_in) (table_t 4294967294) (Refused Full) [] (table_t 4294967294)
    nothing
two_too_many = insert_by_terms two_in (table_t 4294967294) refl refl
    (λ i. insert_parts (folds_over i) two_in catalog (table_t 4294967294))

abbrev t_full : Table
t_full = t_of (rows_of_t ++ ninth 4294967294 ∷ []) 4294967295

-- INSERT INTO t VALUES (9, 'n', 1) takes it
last_number : Leaves (TheInsert ninth_in) (table_t 4294967294) (Changed 1) [] t_full
    (λ versions. new 4294967294 ∷ [])
last_number = insert_by_terms ninth_in (table_t 4294967294) refl refl
    (λ i. insert_parts (folds_over i) ninth_in catalog (table_t 4294967294))

-- INSERT INTO t VALUES (10, 'n', 1), after that
abbrev tenth_in : TermInsert
tenth_in = rows_in ((number 10 ∷ text (codes "n") ∷ number 1 ∷ []) ∷ [])

no_number_left : Leaves (TheInsert tenth_in) t_full (Refused Full) [] t_full
    nothing
no_number_left = insert_by_terms tenth_in t_full refl refl
    (λ i. insert_parts (folds_over i) tenth_in catalog t_full)

-- INSERT INTO t (g) VALUES ('q')
abbrev keyless : TermInsert
keyless = one_in (codes "g") (text (codes "q"))

null_for_not_null : Leaves (TheInsert keyless) (table_t 5) (Refused NotNull) [] (table_t 5)
    nothing
null_for_not_null = insert_by_terms keyless (table_t 5) refl refl
    (λ i. insert_parts (folds_over i) keyless catalog (table_t 5))

-- INSERT INTO t (k) VALUES (1)
abbrev first_again : TermInsert
first_again = one_in (codes "k") (number 1)

first_key_taken : Leaves (TheInsert first_again) (table_t 5)
    (Refused (KeyTaken (codes "t") (Int (pos 1) ∷ []))) (needed K 0 ∷ []) (table_t 5)
    nothing
first_key_taken = insert_by_terms first_again (table_t 5) refl refl
    (λ i. insert_parts (folds_over i) first_again catalog (table_t 5))

-- INSERT INTO t VALUES (9, 'n', 1), (9, 'n', 1): no row that was there has the key
abbrev twice_in : TermInsert
twice_in = rows_in
    ((number 9 ∷ text (codes "n") ∷ number 1 ∷ [])
    ∷ (number 9 ∷ text (codes "n") ∷ number 1 ∷ []) ∷ [])

key_twice : Leaves (TheInsert twice_in) (table_t 5) (Refused (KeyTaken (codes "t") (Int (pos 9) ∷ [])))
    [] (table_t 5) nothing
key_twice = insert_by_terms twice_in (table_t 5) refl refl
    (λ i. insert_parts (folds_over i) twice_in catalog (table_t 5))

-- INSERT INTO t (v, k) VALUES (7, 8)
abbrev reversed_in : TermInsert
reversed_in = record {
  table = codes "t";
  columns = Some (codes "v" ∷ codes "k" ∷ []);
  rows = (number 7 ∷ number 8 ∷ []) ∷ [];
}

columns_by_name : Leaves (TheInsert reversed_in) (table_t 5) (Changed 1) []
    (t_of (rows_of_t ++ table_row 5 (Int (pos 8)) Null (Int (pos 7)) ∷ []) 6) (λ versions. new 5 ∷ [])
columns_by_name = insert_by_terms reversed_in (table_t 5) refl refl
    (λ i. insert_parts (folds_over i) reversed_in catalog (table_t 5))

-- UPDATE t SET k = v, v = k WHERE k = 2: both from the old row
abbrev swapped : TermUpdate
swapped = record {
  table = codes "t";
  sets = set (codes "k") v ∷ set (codes "v") k ∷ [];
  pick = Some (compared Eq k (number 2));
}

from_the_old_row : Leaves (TheUpdate swapped) (table_t 5) (Changed 1) (needed L 1 ∷ [])
    (t_of (table_row 0 (Int (pos 1)) (Text (codes "a")) (Int (pos 10))
    ∷ table_row 1 (Int (pos 20)) (Text (codes "a")) (Int (pos 2))
    ∷ table_row 2 (Int (pos 3)) (Text (codes "b")) (Int (pos 5))
    ∷ table_row 3 (Int (pos 4)) (Text (codes "b")) Null
    ∷ table_row 4 (Int (pos 5)) (Text (codes "c")) (Int (pos 10))
    ∷ []) 5)
    (λ versions. next versions 1 ∷ [])
from_the_old_row =
    update_by_terms swapped (table_t 5) refl refl
    (λ i. update_parts (folds_over i) (made_of swapped catalog (table_t 5)) swapped catalog (table_t 5))
    (λ i. update_parts over (updated (folds_over i) swapped catalog (table_t 5)) swapped catalog
    (table_t 5))

-- UPDATE t SET k = v: refused for the row 3, and all matched rows are needed
abbrev null_keys : TermUpdate
null_keys = record { table = codes "t"; sets = set (codes "k") v ∷ []; pick = None }

null_from_a_row : Leaves (TheUpdate null_keys) (table_t 5) (Refused NotNull)
    (needed L 0 ∷ needed L 1 ∷ needed L 2 ∷ needed L 3 ∷ needed L 4 ∷ []) (table_t 5) nothing
null_from_a_row =
    update_by_terms null_keys (table_t 5) refl refl
    (λ i. update_parts (folds_over i) (made_of null_keys catalog (table_t 5)) null_keys catalog (table_t 5))
    (λ i. update_parts over (updated (folds_over i) null_keys catalog (table_t 5)) null_keys catalog
    (table_t 5))

-- DELETE FROM t
abbrev all_out : TermDelete
all_out = record { table = codes "t"; pick = None }

all_deleted : Leaves (TheDelete all_out) (table_t 5) (Changed 5)
    (needed L 0 ∷ needed L 1 ∷ needed L 2 ∷ needed L 3 ∷ needed L 4 ∷ []) (t_of [] 5)
    (λ versions. map (next versions) (0 ∷ 1 ∷ 2 ∷ 3 ∷ 4 ∷ []))
all_deleted = delete_by_terms all_out (table_t 5) refl refl
    (λ i. delete_parts (folds_over i) all_out catalog (table_t 5))
