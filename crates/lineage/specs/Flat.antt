-- Rows of one width, laid one after the other.
use Rattle.std.specs.Prelude.{◌≡◌, ℕ, zero, suc, List, [], ◌∷◌, length, take, drop}

pub record SlotRows : Type 0 where
  pub width : ℕ
  pub rows : List (List ℕ)

-- a number of rows of a width
abbrev pub rows_in : ℕ → ℕ → List ℕ → List (List ℕ)
rows_in zero width slots = []
rows_in (suc count) width slots = take width slots ∷ rows_in count width (drop width slots)

abbrev pub rows_of_width : ℕ → List (List ℕ) → SlotRows
rows_of_width width rows = record { width = width; rows = rows }

abbrev pub HasLength : ℕ → List ℕ → Type 0
HasLength width row = length row ≡ width
