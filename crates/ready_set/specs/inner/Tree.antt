-- A binary tree of counts, kept in one list. Node 1 is the root, and the children of node i are nodes 2 i and
-- 2 i + 1. If its capacity is n leaves, they are the nodes from n on.
use Rattle.std.specs.Prelude.{◌≡◌, ◌≢◌, ◌==◌, ℕ, zero, suc, ◌+◌, ◌*◌, ◌^◌, ◌<◌, ◌≤◌, List, length}
use Rattle.std.specs.Prelude.{slice_index, Bool, map}
use Rattle.std.specs.List.{range_with_len}

-- a leaf counts at most one, and each other node what its children count together
pub record IsTree (room : ℕ) (counts : List ℕ) : Type 0 where
  pub long : length counts ≡ 2 * room
  pub sums : (i : ℕ) → 0 < i → i < room
      → slice_index counts i ≡ slice_index counts (2 * i) + slice_index counts (2 * i + 1)
  pub leaves : (i : ℕ) → room ≤ i → slice_index counts i ≤ 1

-- one leaf has this count, and the others are as they were
pub record SetsLeaf (room leaf count : ℕ) (old new : List ℕ) : Type 0 where
  pub tree : IsTree room new
  pub at_leaf : slice_index new leaf ≡ count
  pub others : (i : ℕ) → room ≤ i → i ≢ leaf → slice_index new i ≡ slice_index old i

-- the leaves in a tree with twice the room, and none after them
pub record IsWidened (room : ℕ) (old new : List ℕ) : Type 0 where
  pub tree : IsTree (2 * room) new
  pub copied : (i : ℕ) → i < room → slice_index new (2 * room + i) ≡ slice_index old (room + i)
  pub none : (i : ℕ) → 3 * room ≤ i → slice_index new i ≡ 0

-- the sum of the counts before an index
abbrev pub sum_before : List ℕ → ℕ → ℕ
sum_before counts zero = 0
sum_before counts (suc i) = sum_before counts i + slice_index counts i

-- of each number made, whether its leaf is counted
abbrev pub flags_of : List ℕ → ℕ → ℕ → List Bool
flags_of counts room made = map (λ n. slice_index counts (room + n) == 1) (range_with_len 0 made)

-- a whole tree, in which no leaf is counted whose number isn't made
pub record IsKept (counts : List ℕ) (room height made : ℕ) : Type 0 where
  pub tree : IsTree room counts
  pub power : room ≡ 2 ^ height
  pub low : height ≤ 30
  pub within : made ≤ room
  pub unmade : (i : ℕ) → room + made ≤ i → slice_index counts i ≡ 0
