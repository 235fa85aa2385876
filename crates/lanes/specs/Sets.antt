-- Sets of numbers, kept as words of 64 bits: bit i of word j is the number 64 * j + i.
use Rattle.std.specs.Prelude.{◌≡◌, ◌==◌, ℕ, ◌*◌, ◌/◌, ◌%◌, ◌<◌, ◌≤◌, Bool, true, false, not, ◌&&◌, ◌||◌}
use Rattle.std.specs.Prelude.{List, Option, Some, None, length, slice_index, count_by}
use Rattle.std.specs.List.{range_with_len}
use Rattle.std.specs.Int.{bit_at}

-- whether a number is in the set; past the last word none is
abbrev pub member : List ℕ → ℕ → Bool
member words n = bit_at (slice_index words (n / 64)) (n % 64) == 1

abbrev pub IsUnion : List ℕ → List ℕ → List ℕ → Type 0
IsUnion a b new = (n : ℕ) → member new n ≡ (member a n || member b n)

abbrev pub IsIntersection : List ℕ → List ℕ → List ℕ → Type 0
IsIntersection a b new = (n : ℕ) → member new n ≡ (member a n && member b n)

-- what is in a and not in b
abbrev pub IsDifference : List ℕ → List ℕ → List ℕ → Type 0
IsDifference a b new = (n : ℕ) → member new n ≡ (member a n && not (member b n))

-- the number of members
abbrev pub size : List ℕ → ℕ
size words = count_by (member words) (range_with_len 0 (64 * length words))

-- the least member of at least a number, or none where there is no such member
abbrev pub IsNext : List ℕ → ℕ → Option ℕ → Type 0
IsNext words from None = (n : ℕ) → from ≤ n → member words n ≡ false
IsNext words from (Some least) =
    (from ≤ least) × (member words least ≡ true) × ((n : ℕ) → from ≤ n → n < least → member words n ≡ false)

-- the lowest bit that is set in a word, from a bit on, or none where there is no such bit
abbrev pub IsLowest : ℕ → ℕ → Option ℕ → Type 0
IsLowest word from None = (i : ℕ) → from ≤ i → i < 64 → bit_at word i ≡ 0
IsLowest word from (Some lowest) =
    (from ≤ lowest) × (lowest < 64) × (bit_at word lowest ≡ 1)
    × ((i : ℕ) → from ≤ i → i < lowest → bit_at word i ≡ 0)
