-- The cells of a column of numbers, read as values.
use Rattle.std.proofs.Common.{◌≡◌, ℕ, zero, suc, List, [], ◌∷◌, ◌++◌, length, map, get_or, set, refl, ap}
use Rattle.std.specs.Prelude.{ℤ, Option, Some, None}
use Rattle.column_store.specs.Types.{Value, Null}
use Rattle.ldv_value.specs.Cells.{int_value}

pub ints_get : (cells : List (Option ℤ)) (slot : ℕ) → get_or (map int_value cells) slot Null ≡ int_value (get_or cells slot None)
ints_get [] slot = refl
ints_get (c ∷ cells) zero = refl
ints_get (c ∷ cells) (suc slot) = ints_get cells slot

pub ints_len : (cells : List (Option ℤ)) → length (map int_value cells) ≡ length cells
ints_len [] = refl
ints_len (c ∷ cells) = ap suc (ints_len cells)

pub ints_push : (cells : List (Option ℤ)) (cell : Option ℤ) → map int_value (cells ++ cell ∷ []) ≡ map int_value cells ++ int_value cell ∷ []
ints_push [] cell = refl
ints_push (c ∷ cells) cell = ap (λ (l : List Value). int_value c ∷ l) (ints_push cells cell)

pub ints_set : (cells : List (Option ℤ)) (slot : ℕ) (cell : Option ℤ) → map int_value (set cells slot cell) ≡ set (map int_value cells) slot (int_value cell)
ints_set [] slot cell = refl
ints_set (c ∷ cells) zero cell = refl
ints_set (c ∷ cells) (suc slot) cell = ap (λ (l : List Value). int_value c ∷ l) (ints_set cells slot cell)

pub ruleset cell_rules = (ints_get, ints_len, ints_push, ints_set)
