-- A leaf is set: the counts above it are computed anew, one node after another.
use Rattle.std.proofs.Common.{◌≡◌, ◌≢◌, ℕ, zero, suc, ◌+◌, ◌*◌, ◌<◌, ◌≤◌, List, length, get_or, sym, subst, arith, inl, inr}
use Rattle.std.proofs.lemmas.Bool.{cases_eq, cases_lt}
use Rattle.std.proofs.lemmas.Nat.{mul-le}
use Rattle.std.proofs.Math.Nat.{le-mul_of_pos_right}
use Rattle.ready_set.specs.inner.Tree.{IsTree}

-- ---- no count is large

module _ (room node : ℕ) (counts : List ℕ)
    (sums : (i : ℕ) → node < i → i < room → get_or counts i 0 ≡ get_or counts (2 * i) 0 + get_or counts (2 * i + 1) 0)
    (leaves : (i : ℕ) → room ≤ i → get_or counts i 0 ≤ 1) where
  -- the deeper a node, the fewer leaves are below it
  shares : (fuel i : ℕ) → 2 * room ≤ i + fuel → node < i → i < 2 * room → get_or counts i 0 * i < 2 * room
  shares zero i far above below = absurd (omega arith)
  shares (suc fuel) i far above below = elim (cases_lt i room) [
    | inl inner ↦
        let first : get_or counts (2 * i) 0 * (2 * i) < 2 * room = shares fuel (2 * i) (omega arith) (omega arith) (omega arith) in
        let second : get_or counts (2 * i + 1) 0 * (2 * i + 1) < 2 * room = shares fuel (2 * i + 1) (omega arith) (omega arith) (omega arith) in
        let both : (get_or counts (2 * i) 0 + get_or counts (2 * i + 1) 0) * i < 2 * room = omega (arith, first, second) in
        subst (λ (n : ℕ). n * i < 2 * room) (sym (sums i above inner)) both
    | inr leaf ↦ omega (arith, mul-le (get_or counts i 0) i 1 i (leaves i leaf) (omega arith))
  ]

  pub count_small : (i : ℕ) → node < i → i < 2 * room → get_or counts i 0 < 2 * room
  count_small i above below =
      let some : zero < i = omega arith in
      omega (arith, shares (2 * room) i (omega arith) above below, le-mul_of_pos_right {m = i} (get_or counts i 0) some)

-- ---- counting anew

-- each count but that of one node is right
pub record IsRecounted (room leaf count : ℕ) (old : List ℕ) (node : ℕ) (now : List ℕ) : Type 0 where
  pub near : 2 * node ≤ leaf
  pub long : length now ≡ 2 * room
  pub sums : (i : ℕ) → 0 < i → i < room → i ≢ node
      → get_or now i 0 ≡ get_or now (2 * i) 0 + get_or now (2 * i + 1) 0
  pub at_leaf : get_or now leaf 0 ≡ count
  pub others : (i : ℕ) → room ≤ i → i ≢ leaf → get_or now i 0 ≡ get_or old i 0

-- the sum of two children fits
pub recount_small : (room leaf count : ℕ) (old : List ℕ) (node : ℕ) (now : List ℕ) → IsTree room old → count ≤ 1
    → IsRecounted room leaf count old node now → room ≤ leaf → leaf < 2 * room → 0 < node
    → get_or now (2 * node) 0 + get_or now (2 * node + 1) 0 < 4 * room
recount_small room leaf count old node now tree one far low high some =
    let left : get_or now (2 * node) 0 < 2 * room = small (2 * node) (omega arith) (omega (arith, far.near)) in
    let right : get_or now (2 * node + 1) 0 < 2 * room = small (2 * node + 1) (omega arith) (omega (arith, far.near)) in
    omega (arith, left, right)
  where
    leaf_one : (i : ℕ) → room ≤ i → get_or now i 0 ≤ 1
    leaf_one i from = elim (cases_eq i leaf) [
      | inl same ↦ subst (λ (k : ℕ). get_or now k 0 ≤ 1) (sym same) (omega (arith, far.at_leaf, one))
      | inr other ↦ omega (arith, far.others i from other, tree.leaves i from)
    ]

    small : (i : ℕ) → node < i → i < 2 * room → get_or now i 0 < 2 * room
    small = count_small room node now (λ i above inner. far.sums i (omega arith) inner (omega arith)) leaf_one

-- ---- twice the room

-- the leaves of some numbers are copied
pub record IsCopied (room : ℕ) (counts wide : List ℕ) (number : ℕ) : Type 0 where
  pub tree : IsTree (2 * room) wide
  pub copied : (i : ℕ) → i < number → get_or wide (2 * room + i) 0 ≡ get_or counts (room + i) 0
  pub none : (i : ℕ) → 2 * room + number ≤ i → get_or wide i 0 ≡ 0
