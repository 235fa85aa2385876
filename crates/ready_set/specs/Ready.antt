-- Which numbers are in a set, and their sorted list.
use Rattle.std.specs.Prelude.{ℕ, zero, suc, ◌+◌, ◌%◌, List, [], ◌∷◌, length, find, nat_lt, Bool, false}
use Rattle.std.specs.Prelude.{slice_index, slice_index_or, if◌then◌else◌, Option, Some, None}

-- what contracts see of a set
pub record ReadyView : Type 0 where
  -- of each number made so far, from 0 on, whether it is in the set
  pub flags : List Bool
  -- how many numbers there may be before more memory is needed
  pub room : ℕ

-- the numbers in the set, sorted, where the first flag is that of a number
abbrev pub numbers_from : ℕ → List Bool → List ℕ
numbers_from n [] = []
numbers_from n (flag ∷ flags) = if flag then n ∷ numbers_from (n + 1) flags else numbers_from (n + 1) flags

abbrev pub numbers : List Bool → List ℕ
numbers flags = numbers_from 0 flags

-- how many numbers below a number are in the set
abbrev pub count_below : List Bool → ℕ → ℕ
count_below flags zero = 0
count_below flags (suc n) = count_below flags n + (if slice_index_or flags n false then 1 else 0)

-- ---- one of the numbers, where there are any

abbrev pub or_least : Option ℕ → List ℕ → ℕ
or_least (Some number) numbers = number
or_least None numbers = slice_index numbers 0

-- the least one above a number, or else the least
abbrev pub next_round : ℕ → List ℕ → ℕ
next_round last numbers = or_least (find (nat_lt last) numbers) numbers

-- the one at an index of the sorted list, counted round
abbrev pub at_round : List ℕ → ℕ → ℕ
at_round numbers k = slice_index numbers (k % length numbers)
