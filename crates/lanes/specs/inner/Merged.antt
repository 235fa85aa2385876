-- Words merged from the words of two sets, one by one.
use Rattle.std.specs.Prelude.{◌≡◌, ℕ, ◌≤◌, ◌<◌, List, slice_index, bit_and}
use Rattle.std.specs.Int.{bit_not, w64}

abbrev pub without : ℕ → ℕ → ℕ
without a b = bit_and a (bit_not w64 b)

-- the words below an index are merged, and those from there on are as they were
pub record IsMergedTo (merge : ℕ → ℕ → ℕ) (old other new : List ℕ) (place : ℕ) : Type 0 where
  pub merged : (k : ℕ) → k < place → slice_index new k ≡ merge (slice_index old k) (slice_index other k)
  pub kept : (k : ℕ) → place ≤ k → slice_index new k ≡ slice_index old k
