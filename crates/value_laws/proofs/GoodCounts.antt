-- The number of rows that a statement inserts or matches has 64 bits.
use Rattle.std.proofs.Common.{◌≡◌, ℕ, suc, ◌+◌, ◌<◌, ◌≤◌, ◌^◌, arith, List, [], ◌∷◌, refl, sym, ap, ◌∙◌, subst, Bool, true, false}
use Rattle.std.specs.Prelude.{Option, Some, None, filter, length, nat_lt, option_map, is_none, ◌||◌, if◌then◌else◌}
use Rattle.std.specs.List.{list_all}
use Rattle.std.proofs.lemmas.Bool.{ltb-true, ltb-false, leb-true}
use Rattle.ldv_value.proofs.Booleans.{and-parts, or-parts}
use Rattle.ldv_value.proofs.Lists.{found-all}
use Rattle.ldv_value.specs.Limits.{max_next}
use Rattle.ldv_value.specs.Sorted.{precedes_first, is_strictly_sorted}
use Rattle.sql_laws.specs.Types.{Catalog, NotNull, Full, Insert, Statement, TheInsert, Table, TableRow}
use Rattle.sql_laws.proofs.ChangedTables.{check-parts, else-parts, if-none}
use Rattle.sql_model.proofs.NewNumbers.{row_precedes, is_under}
use Rattle.sql_model.proofs.Equations.{table_schema, schema_found}
use Rattle.sql_model.proofs.ValidTables.{table-parts}
use Rattle.sql_model.specs.Changes.{table_after, lacks_value, key_clash, key_refusal, is_full, or_else, refusal_if, change_refusal}
use Rattle.sql_model.specs.Refusals.{is_missing, check_refusal}
use Rattle.sql_model.specs.Scope.{is_table, table_at, catalog_of}
use Rattle.sql_model.specs.Statements.{target, matched_count}
use Rattle.sql_model.specs.Tables.{is_valid_table}

-- ---- rows that are numbered below a number are no more than it

abbrev BeginsAt : ℕ → List TableRow → Type 0
BeginsAt low [] = Unit {0}
BeginsAt low (row ∷ rows) = low ≤ row.number

next_begins : (row : TableRow) (rows : List TableRow) → precedes_first row_precedes row rows ≡ true
    → BeginsAt (suc row.number) rows
next_begins row [] is = tt
next_begins row (next ∷ rows) is =
    let less : row.number < next.number = ltb-true row.number next.number is in
    let above : suc row.number ≤ next.number = omega (arith, less) in
    above

count_from : (low next : ℕ) (rows : List TableRow) → low ≤ next → BeginsAt low rows
    → is_strictly_sorted row_precedes rows ≡ true
    → list_all (is_under next) rows ≡ true
    → low + length rows ≤ next
count_from low next [] fit begins sorted under = omega (arith, fit)
count_from low next (row ∷ rows) fit begins sorted under =
    let here = and-parts (is_under next row) (list_all (is_under next) rows) under in
    let order = and-parts (precedes_first row_precedes row rows) (is_strictly_sorted row_precedes rows) sorted in
    let less : row.number < next = ltb-true row.number next here.0 in
    let above : suc row.number ≤ next = omega (arith, less) in
    let rest : suc row.number + length rows ≤ next = count_from (suc row.number) next rows above (next_begins row rows order.0) order.1 here.1 in
    let long : length (row ∷ rows) ≡ suc (length rows) = refl in
    let low_first : low ≤ row.number = begins in
    omega (arith, rest, long, low_first)

table_count : (t : Table) → is_valid_table t ≡ true → length t.rows ≤ 4294967295
table_count t valid =
    let parts = table-parts t valid in
    let both = and-parts (is_strictly_sorted row_precedes t.rows) (list_all (is_under t.next) t.rows) parts.numbers in
    let begins : BeginsAt 0 t.rows = from_zero t.rows in
    let count : 0 + length t.rows ≤ t.next = count_from 0 t.next t.rows (omega arith) begins both.0 both.1 in
    let room : t.next ≤ 4294967295 = leb-true t.next 4294967295 parts.next in
    omega (arith, count, room)
  where
    from_zero : (rows : List TableRow) → BeginsAt 0 rows
    from_zero [] = tt
    from_zero (row ∷ rows) = let low : 0 ≤ row.number = omega arith in low

-- ---- rows that match

module _ (p : TableRow → Bool) where
  filter_by : (b : Bool) (row : TableRow) (some rows : List TableRow) → length some ≤ length rows
      → length (if b then row ∷ some else some) ≤ length (row ∷ rows)
  filter_by true row some rows fit =
      let short : length (row ∷ some) ≡ suc (length some) = refl in
      let long : length (row ∷ rows) ≡ suc (length rows) = refl in
      omega (arith, short, long, fit)
  filter_by false row some rows fit =
      let long : length (row ∷ rows) ≡ suc (length rows) = refl in
      omega (arith, long, fit)

  filter_count : (rows : List TableRow) → length (filter p rows) ≤ length rows
  filter_count [] = omega arith
  filter_count (row ∷ rows) = filter_by (p row) row (filter p rows) rows (filter_count rows)

match_count : (t : Table) (p : TableRow → Bool) → is_valid_table t ≡ true → length (filter p t.rows) < 2 ^ 64
match_count t p valid =
    let some : length (filter p t.rows) ≤ length t.rows = filter_count p t.rows in
    let all : length t.rows ≤ 4294967295 = table_count t valid in
    let short : length (filter p t.rows) < 18446744073709551616 = omega (arith, some, all) in
    short

-- ---- the table of a statement

module _ (db : List Table) (valid : list_all is_valid_table db ≡ true) where
  -- what an UPDATE or a DELETE matches in the table of a name
  pub matched_small : (s : Statement) (p : Table → TableRow → Bool) (name : List ℕ)
      → ((t : Table) → matched_count s (catalog_of db) (Some t) ≡ length (filter (p t) t.rows))
      → matched_count s (catalog_of db) (table_at name db) < 2 ^ 64
  matched_small s p name counts = by (table_at name db) refl
    where
      by : (o : Option Table) → table_at name db ≡ o → matched_count s (catalog_of db) o < 2 ^ 64
      by None found = let none : 0 < 18446744073709551616 = omega arith in none
      by (Some t) found =
          let here : is_valid_table t ≡ true = found-all (is_table name) is_valid_table db t valid found in
          subst (λ (n : ℕ). n < 2 ^ 64) (sym (counts t)) (match_count t (p t) here)

  -- rows that an accepted INSERT inserts are numbered within the limit
  full_small : (insert : Insert) (o : Option Table) → table_at insert.table db ≡ o
      → check_refusal (TheInsert insert) (catalog_of db) ≡ None
      → change_refusal (TheInsert insert) (catalog_of db) o ≡ None
      → length insert.rows < 2 ^ 64
  full_small insert None found check change =
      let catalog : Catalog = catalog_of db in
      let missing : is_missing catalog insert.table ≡ true = ap is_none (schema_found insert.table db ∙ ap (option_map table_schema) found) in
      let lacks = (check-parts (TheInsert insert) catalog check).0 in
      let there : is_missing catalog insert.table ≡ false = (or-parts (is_missing catalog insert.table) false (or-parts (is_missing catalog insert.table || false) false lacks).0).0 in
      let wrong : true ≡ false = sym missing ∙ there in
      cc
  full_small insert (Some t) found check change =
      let s : Statement = TheInsert insert in
      let catalog : Catalog = catalog_of db in
      let key = key_refusal t (key_clash (table_after s catalog t)) in
      let one = else-parts (refusal_if (lacks_value s catalog t) NotNull) (or_else key (refusal_if (is_full s t) Full)) change in
      let two = else-parts key (refusal_if (is_full s t) Full) one.1 in
      let full : nat_lt max_next (t.next + length insert.rows) ≡ false = if-none (is_full s t) Full two.1 in
      let room : t.next + length insert.rows ≤ 4294967295 = ltb-false 4294967295 (t.next + length insert.rows) full in
      let short : length insert.rows < 18446744073709551616 = omega (arith, room) in
      short

  pub inserted_small : (insert : Insert) → check_refusal (TheInsert insert) (catalog_of db) ≡ None
      → change_refusal (TheInsert insert) (catalog_of db) (target (TheInsert insert) db) ≡ None
      → length insert.rows < 2 ^ 64
  inserted_small insert check change = full_small insert (table_at insert.table db) refl check change
