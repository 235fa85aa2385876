-- The rows that are found slot by slot.
use Rattle.std.proofs.Common.{◌≡◌, ℕ, ◌+◌, inl, inr, Bool, true, false, cond, List, [], ◌∷◌, ◌++◌, map, length, get_or, drop, refl, ap, sym, ◌∙◌, arith, Option, Some, None, append-nil}
use Rattle.std.specs.Prelude.{filter, IsSome}
use Rattle.std.specs.Option.{option_map, option_to_list}
use Rattle.std.proofs.lemmas.Bool.{cases_lt}
use Rattle.std.proofs.lemmas.List.{get_or_past, map-append}
use Rattle.std.proofs.Math.ListN.{drop_of_length-le}
use Rattle.ldv_value.proofs.Lists.{filter-append}
use Rattle.row_version.specs.History.{current_values}
use Rattle.table_store.proofs.StandingRows.{not-there}
use Rattle.table_store.proofs.TableLaws.{left_more}
use Rattle.table_store.specs.Histories.{RowHistory, no_history, row_of, row_now, rows_now}
use Rattle.dml_versions.specs.inner.Finding.{found_row, found_at, found_from, version_of}
use Rattle.dml_versions.specs.Types.{TableRow, Value}
use Rattle.dml_versions.specs.declared.found.Found.{Found}

-- the rows of the slots from one on
pub rows-step : (slots : List RowHistory) (at : ℕ) → rows_now (drop at slots) ≡ option_to_list (row_now (get_or slots at no_history)) ++ rows_now (drop (at + 1) slots)
rows-step slots at = elim (cases_lt at (length slots)) [
  | inl within ↦ left_more row_now slots at within
  | inr past ↦
      let here : drop at slots ≡ [] = drop_of_length-le slots past in
      let next : drop (at + 1) slots ≡ [] = drop_of_length-le slots (omega arith) in
      ap rows_now here
      ∙ sym (λ j. option_to_list (row_now (get_or_past slots at no_history past j)) ++ rows_now (next j))
]

module _ (test : TableRow → Bool) (slots : List RowHistory) where
  -- what is found in a slot, and in those after it
  pub found-step : (at : ℕ) → found_from test slots at ≡ found_at test slots at ++ found_from test slots (at + 1)
  found-step at =
      let here : List TableRow = option_to_list (row_now (get_or slots at no_history)) in
      let more : List TableRow = rows_now (drop (at + 1) slots) in
      ap (λ (rows : List TableRow). map (found_row slots) (filter test rows)) (rows-step slots at)
      ∙ ap (map (found_row slots)) (filter-append test here more)
      ∙ map-append (found_row slots) (filter test here) (filter test more)

-- ---- the row of a slot

stands_by : (now : Option (List Value)) (own number : ℕ) → Some number ≡ option_map (λ row. row.number) (row_of own now) → IsSome now
stands_by None own number is = cc
stands_by (Some values) own number is = refl

row_by : (now : Option (List Value)) (own number : ℕ) (values : List Value) → Some number ≡ option_map (λ row. row.number) (row_of own now) → Some values ≡ now
    → row_of own now ≡ Some (record { number = number; values = values })
row_by None own number values is held = cc
row_by (Some old) own number values is held =
    let a : number ≡ own = cc in
    let b : values ≡ old = cc in
    λ j. Some (record { number = sym a j; values = sym b j })

module _ (slots : List RowHistory) (slot : ℕ) where
  abbrev here : RowHistory
  here = get_or slots slot no_history

  -- a row that has a number stands
  pub slot-stands : (number : ℕ) → Some number ≡ option_map (λ row. row.number) (row_now here) → IsSome (current_values here.changes)
  slot-stands number is = stands_by (current_values here.changes) here.number number is

  -- and is that number with the values
  pub row-here : (number : ℕ) (values : List Value) → Some number ≡ option_map (λ row. row.number) (row_now here) → Some values ≡ current_values here.changes
      → row_now here ≡ Some (record { number = number; values = values })
  row-here number values is held = row_by (current_values here.changes) here.number number values is held

  module _ (test : TableRow → Bool) (old : List Found) where
    -- no row stands in it
    pub found-gone : None ≡ option_map (λ row. row.number) (row_now here) → old ≡ old ++ found_at test slots slot
    found-gone is =
        sym (ap (λ (o : Option TableRow). old ++ map (found_row slots) (filter test (option_to_list o))) (not-there (row_now here) is) ∙ append-nil old)

    module _ (number : ℕ) (values : List Value) (is : Some number ≡ option_map (λ row. row.number) (row_now here)) (held : Some values ≡ current_values here.changes) where
      abbrev row : TableRow
      row = record { number = number; values = values }

      found_is : old ++ found_at test slots slot ≡ old ++ map (found_row slots) (cond (test row) (row ∷ []) [])
      found_is = ap (λ (o : Option TableRow). old ++ map (found_row slots) (filter test (option_to_list o))) (row_by (current_values here.changes) here.number number values is held)

      -- its row isn't matched
      pub found-missed : test row ≡ false → old ≡ old ++ found_at test slots slot
      found-missed miss = sym (found_is ∙ ap (λ (b : Bool). old ++ map (found_row slots) (cond b (row ∷ []) [])) miss ∙ append-nil old)

      -- its row is matched
      pub found-met : test row ≡ true → (version : ℕ) → version ≡ version_of slots number → (new : List Found)
          → new ≡ old ++ record { number = number; version = version; values = values } ∷ [] → new ≡ old ++ found_at test slots slot
      found-met hit version at new made =
          made
          ∙ (λ j. old ++ record { number = number; version = at j; values = values } ∷ [])
          ∙ sym (found_is ∙ ap (λ (b : Bool). old ++ map (found_row slots) (cond b (row ∷ []) [])) hit)
