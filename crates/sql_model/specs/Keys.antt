-- Lists of values that are the same, and keys of rows.
use Rattle.std.specs.Prelude.{ℕ, List, [], ◌∷◌, length, map, ◌==◌, Bool, false, not, ◌&&◌, ◌||◌}
use Rattle.std.specs.List.{list_any}
use Rattle.std.specs.Ordering.{is_eq}
use Rattle.std.specs.Cmp.Lexicographic.{slice_cmp}
use Rattle.ldv_value.specs.Order.{order}
use Rattle.sql_model.specs.Types.{Value, RowKey}
use Rattle.ldv_value.specs.Cells.{value_at}

-- the same value at each place
abbrev pub same_values : List Value → List Value → Bool
same_values a b = is_eq (slice_cmp order a b)

-- some item is the same as a later one
abbrev pub repeats : {X : Type 0} → (X → X → Bool) → List X → Bool
repeats same [] = false
repeats same (x ∷ xs) = list_any (same x) xs || repeats same xs

-- the same as the first item, where there is one
abbrev pub matches_first : {X : Type 0} → (X → X → Bool) → X → List X → Bool
matches_first same x [] = false
matches_first same x (y ∷ ys) = same x y

-- some item is the same as the next one
abbrev pub has_same_neighbours : {X : Type 0} → (X → X → Bool) → List X → Bool
has_same_neighbours same [] = false
has_same_neighbours same (x ∷ xs) = matches_first same x xs || has_same_neighbours same xs

-- a row's values at some places
abbrev pub values_at : List ℕ → List Value → List Value
values_at places row = map (value_at row) places

abbrev pub key_at : List ℕ → List Value → RowKey
key_at places row = record { values = values_at places row }

-- two rows have the same values in the key's columns; without a key column there is no key
abbrev pub has_two_of_a_key : List ℕ → List (List Value) → Bool
has_two_of_a_key places rows = not (length places == 0) && repeats same_values (map (values_at places) rows)
