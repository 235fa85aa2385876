-- A walk over the live rows, by their bits.
use Rattle.std.proofs.Common.{◌≡◌, ◌∙◌, sym, ap, refl, ℕ, zero, suc, ◌+◌, ◌-◌, ◌<◌, false, List, [], ◌∷◌, ◌++◌, drop, get_or, append_assoc, append-nil, arith, Option, Some, None}
use Rattle.std.specs.Prelude.{is_some, IsSome}
use Rattle.std.specs.List.{cons_option}
use Rattle.std.specs.Option.{option_to_list}
use Rattle.std.proofs.lemmas.List.{drop-drop, get_or-drop}
use Rattle.lanes.specs.Sets.{member, IsNext}
use Rattle.row_version.specs.History.{current_values}
use Rattle.table_store.specs.Histories.{RowHistory, no_history, row_now, row_of, rows_now}
use Rattle.table_store.specs.Types.{TableRow, Value}

-- ---- one row

gone_by : (number : ℕ) (now : Option (List Value)) → is_some now ≡ false → row_of number now ≡ None
gone_by number None is = refl
gone_by number (Some values) is = cc

gone : (row : RowHistory) → is_some (current_values row.changes) ≡ false → row_now row ≡ None
gone row is = gone_by row.number (current_values row.changes) is

stands_by : (number : ℕ) (now : Option (List Value)) (values : List Value) → Some values ≡ now → ◌≡◌ {A = List TableRow} (record { number = number; values = values } ∷ []) (option_to_list (row_of number now))
stands_by number now values is = ap (λ (o : Option (List Value)). option_to_list (row_of number o)) is

-- the row of a slot that stands
pub row_stands : (row : RowHistory) (number : ℕ) (values : List Value) (made new : List TableRow) → number ≡ row.number → Some values ≡ current_values row.changes
    → new ≡ made ++ record { number = number; values = values } ∷ [] → new ≡ made ++ option_to_list (row_now row)
row_stands row number values made new same now is =
    is ∙ ap (λ (n : ℕ). made ++ record { number = n; values = values } ∷ []) same
    ∙ ap (λ (l : List TableRow). made ++ l) (stands_by row.number (current_values row.changes) values now)

-- ---- slots

module _ (slots : List RowHistory) (words : List ℕ) (members : (n : ℕ) → member words n ≡ is_some (current_values (get_or slots n no_history).changes)) where
  -- the next slot of the set has a row that stands
  pub next_stands : (at slot : ℕ) → IsNext words at (Some slot) → IsSome (current_values (get_or slots slot no_history).changes)
  next_stands at slot next = sym (members slot) ∙ next.1

-- rows that don't stand are passed over
passed : (n : ℕ) (slots : List RowHistory) → ((m : ℕ) → m < n → is_some (current_values (get_or slots m no_history).changes) ≡ false) → rows_now slots ≡ rows_now (drop n slots)
passed zero slots none = refl
passed (suc n) [] none = refl
passed (suc n) (row ∷ slots) none =
    ap (λ (o : Option TableRow). cons_option o (rows_now slots)) (gone row (none zero (omega arith)))
    ∙ passed n slots (λ m below. none (suc m) (omega (arith, below)))

first : (slots : List RowHistory) → rows_now slots ≡ option_to_list (row_now (get_or slots 0 no_history)) ++ rows_now (drop 1 slots)
first [] = refl
first (row ∷ slots) = joined (row_now row)
  where
    joined : (o : Option TableRow) → cons_option o (rows_now slots) ≡ option_to_list o ++ rows_now slots
    joined None = refl
    joined (Some it) = refl

rows_now-none : (slots : List RowHistory) → ((m : ℕ) → is_some (current_values (get_or slots m no_history).changes) ≡ false) → rows_now slots ≡ []
rows_now-none [] none = refl
rows_now-none (row ∷ slots) none =
    ap (λ (o : Option TableRow). cons_option o (rows_now slots)) (gone row (none zero)) ∙ rows_now-none slots (λ m. none (suc m))

module _ (slots : List RowHistory) (words : List ℕ) (members : (n : ℕ) → member words n ≡ is_some (current_values (get_or slots n no_history).changes)) where
  gone_at : (at m : ℕ) → member words (at + m) ≡ false → is_some (current_values (get_or (drop at slots) m no_history).changes) ≡ false
  gone_at at m out =
      ap (λ (row : RowHistory). is_some (current_values row.changes)) (get_or-drop at slots m no_history) ∙ sym (members (at + m)) ∙ out

  -- the rows from a slot on are that of the next one that stands, and those after it
  next_row : (at slot : ℕ) → IsNext words at (Some slot) → rows_now (drop at slots) ≡ option_to_list (row_now (get_or slots slot no_history)) ++ rows_now (drop (slot + 1) slots)
  next_row at slot next =
      let n : ℕ = slot - at in
      let reach : at + n ≡ slot = omega (arith, next.0) in
      passed n (drop at slots) (λ m below. gone_at at m (next.2 (at + m) (omega arith) (omega (arith, below, reach))))
      ∙ ap rows_now (drop-drop n at slots)
      ∙ ap (λ (k : ℕ). rows_now (drop k slots)) reach
      ∙ first (drop slot slots)
      ∙ (λ j. option_to_list (row_now (here j)) ++ rows_now (rest j))
    where
      here : get_or (drop slot slots) 0 no_history ≡ get_or slots slot no_history
      here = let same : slot + 0 ≡ slot = omega arith in get_or-drop slot slots 0 no_history ∙ ap (λ (k : ℕ). get_or slots k no_history) same

      rest : drop 1 (drop slot slots) ≡ drop (slot + 1) slots
      rest = drop-drop 1 slot slots

  pub walked_on : (made new all : List TableRow) (at slot after : ℕ) → IsNext words at (Some slot) → new ≡ made ++ option_to_list (row_now (get_or slots slot no_history))
      → after ≡ slot + 1 → made ++ rows_now (drop at slots) ≡ all → new ++ rows_now (drop after slots) ≡ all
  walked_on made new all at slot after next is step so_far =
      (λ j. is j ++ rows_now (drop (step j) slots))
      ∙ append_assoc made (option_to_list (row_now (get_or slots slot no_history))) (rows_now (drop (slot + 1) slots))
      ∙ ap (λ (l : List TableRow). made ++ l) (sym (next_row at slot next)) ∙ so_far

  pub walked_end : (made all : List TableRow) (at : ℕ) → IsNext words at None → made ++ rows_now (drop at slots) ≡ all → made ≡ all
  walked_end made all at none so_far =
      sym (append-nil made)
      ∙ ap (λ (l : List TableRow). made ++ l) (sym (rows_now-none (drop at slots) (λ m. gone_at at m (none (at + m) (omega arith))))) ∙ so_far

pub ruleset walk_rules = (next_stands, walked_on, walked_end)
