-- Cells of a column of numbers as a list.
use Rattle.std.proofs.Common.{◌≡◌, ℕ, zero, suc, ◌<◌, ◌≤◌, Bool, true, false, List, [], ◌∷◌, ◌++◌, length, get_or, set, refl, ap, sym, ◌∙◌, arith}
use Rattle.std.specs.Prelude.{ℤ, pos, Option, Some, None, is_none, slice_get}
use Rattle.column_store.specs.IntCells.{cell_of, cells_of}

pub cells_len : (values : List ℤ) (nulls : List Bool) → length values ≡ length nulls → length (cells_of values nulls) ≡ length nulls
cells_len [] [] same = refl
cells_len [] (n ∷ nulls) same = cc
cells_len (v ∷ values) [] same = cc
cells_len (v ∷ values) (n ∷ nulls) same = ap suc (cells_len values nulls (omega (arith, same)))

pub cell_at : (values : List ℤ) (nulls : List Bool) (slot : ℕ) → length values ≡ length nulls → slot < length nulls
    → get_or (cells_of values nulls) slot None ≡ cell_of (get_or values slot (pos 0)) (get_or nulls slot false)
cell_at [] [] slot same within = absurd (omega (arith, within))
cell_at [] (n ∷ nulls) slot same within = cc
cell_at (v ∷ values) [] slot same within = cc
cell_at (v ∷ values) (n ∷ nulls) zero same within = refl
cell_at (v ∷ values) (n ∷ nulls) (suc slot) same within = cell_at values nulls slot (omega (arith, same)) (omega (arith, within))

pub cells_push : (values : List ℤ) (nulls : List Bool) (value : ℤ) (null : Bool) → length values ≡ length nulls
    → cells_of (values ++ value ∷ []) (nulls ++ null ∷ []) ≡ cells_of values nulls ++ cell_of value null ∷ []
cells_push [] [] value null same = refl
cells_push [] (n ∷ nulls) value null same = cc
cells_push (v ∷ values) [] value null same = cc
cells_push (v ∷ values) (n ∷ nulls) value null same = ap (λ l. cell_of v n ∷ l) (cells_push values nulls value null (omega (arith, same)))

pub cells_set : (values : List ℤ) (nulls : List Bool) (slot : ℕ) (value : ℤ) (null : Bool) → length values ≡ length nulls
    → cells_of (set values slot value) (set nulls slot null) ≡ set (cells_of values nulls) slot (cell_of value null)
cells_set [] [] slot value null same = refl
cells_set [] (n ∷ nulls) slot value null same = cc
cells_set (v ∷ values) [] slot value null same = cc
cells_set (v ∷ values) (n ∷ nulls) zero value null same = refl
cells_set (v ∷ values) (n ∷ nulls) (suc slot) value null same = ap (λ l. cell_of v n ∷ l) (cells_set values nulls slot value null (omega (arith, same)))

-- the word of a number is that number
pub number_at : (values : List ℤ) (nulls : List Bool) (n : ℕ) (number : ℤ) → length values ≡ length nulls → get_or (cells_of values nulls) n None ≡ Some number → slice_get values n ≡ Some number
number_at [] [] n number same is = cc
number_at [] (b ∷ nulls) n number same is = cc
number_at (v ∷ values) [] n number same is = cc
number_at (v ∷ values) (true ∷ nulls) zero number same is = cc
number_at (v ∷ values) (false ∷ nulls) zero number same is = is
number_at (v ∷ values) (b ∷ nulls) (suc n) number same is = number_at values nulls n number (omega (arith, same)) is

cell_null : (value : ℤ) (null : Bool) → null ≡ is_none (cell_of value null)
cell_null value true = refl
cell_null value false = refl

-- the bit of a cell says whether it is NULL
pub null_at : (values : List ℤ) (nulls : List Bool) (n : ℕ) → length values ≡ length nulls → n < length nulls → get_or nulls n false ≡ is_none (get_or (cells_of values nulls) n None)
null_at values nulls n same within = cell_null (get_or values n (pos 0)) (get_or nulls n false) ∙ ap is_none (sym (cell_at values nulls n same within))

pub ruleset cell_rules = (cells_len, cell_at, cells_push, cells_set)
