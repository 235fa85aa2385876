-- The rows that WHERE matches if all of them have one key.
use Rattle.std.proofs.Common.{◌≡◌, ℕ, ◌<◌, Bool, true, List, [], ◌∷◌, map, length, ap, sym, ◌∙◌, Option, Some, None}
use Rattle.std.specs.Prelude.{filter, find}
use Rattle.std.specs.List.{AllByRecursion}
use Rattle.std.specs.Option.{option_map, option_to_list}
use Rattle.predicates.proofs.Lists.{kept_twice}
use Rattle.sql_model.proofs.UniqueKeys.{values_in}
use Rattle.sql_model.specs.Tables.{are_keys_unique}
use Rattle.sql_model.specs.References.{has_key}
use Rattle.table_store.proofs.StandingRows.{slot-there, slot-has, none-twice, only-one}
use Rattle.table_store.specs.Histories.{RowHistory, rows_now, slot_of_row}
use Rattle.table_store.specs.RowOrder.{AreInOrder}
use Rattle.dml_versions.specs.inner.Finding.{found_row, found_at, found_from}
use Rattle.dml_versions.specs.Types.{TableRow, Value}

-- what is found is what is in the slot of the row that has the key
module _ (slots : List RowHistory) (next : ℕ) (sorted : AreInOrder slots next) (key : List ℕ) (values : List Value) (test : TableRow → Bool)
    (keyed : (row : TableRow) → test row ≡ true → has_key key values row ≡ true) (some : 0 < length key)
    (unique : are_keys_unique key (values_in (rows_now slots)) ≡ true) where
  abbrev by_key : Option TableRow
  by_key = find (has_key key values) (rows_now slots)

  everywhere : (rows : List TableRow) → AllByRecursion (λ row. test row ≡ true → has_key key values row ≡ true) rows
  everywhere [] = tt
  everywhere (row ∷ rows) = (keyed row, everywhere rows)

  only : filter test (rows_now slots) ≡ filter test (option_to_list by_key)
  only =
      sym (kept_twice test (has_key key values) (rows_now slots) (everywhere (rows_now slots)))
      ∙ ap (filter test) (sym (only-one key values (rows_now slots) (none-twice key (values_in (rows_now slots)) some unique)))

  pub found-none : by_key ≡ None → found_from test slots 0 ≡ []
  found-none none = ap (map (found_row slots)) (only ∙ ap (λ (o : Option TableRow). filter test (option_to_list o)) none)

  pub slot-some : (number : ℕ) → Some number ≡ option_map (λ row. row.number) by_key → None ≡ slot_of_row number slots → ⊥
  slot-some number is none = slot-there slots next sorted (has_key key values) number is none

  pub slot-found : (number slot : ℕ) → Some number ≡ option_map (λ row. row.number) by_key → Some slot ≡ slot_of_row number slots
      → found_at test slots slot ≡ found_from test slots 0
  slot-found number slot is at =
      ap (λ (o : Option TableRow). map (found_row slots) (filter test (option_to_list o))) (sym (slot-has slots next sorted (has_key key values) number is (Some slot) at))
      ∙ sym (ap (map (found_row slots)) only)
