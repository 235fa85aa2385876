-- The ways through a tree: from a leaf up, and from the root down.
use Rattle.std.proofs.Common.{◌≡◌, ℕ, zero, suc, ◌+◌, ◌-◌, ◌*◌, ◌/◌, ◌%◌, ◌^◌, ◌<◌, ◌≤◌, List, get_or, sym, ap, subst, ◌∙◌, arith, inl, inr}
use Rattle.std.proofs.lemmas.Bool.{cases_eq, cases_lt}
use Rattle.std.proofs.lemmas.Nat.{pow-add, pow_pos, mul-le}
use Rattle.std.proofs.Math.Nat.{pow-suc}
use Rattle.std.proofs.Math.Pow.{pow_mono}
use Rattle.ready_set.specs.inner.Tree.{IsTree, sum_before}

pow-suc-two : (k : ℕ) → 2 ^ suc k ≡ 2 * 2 ^ k
pow-suc-two k = pow-suc 2 k ∙ omega arith

pub twice_one : (k : ℕ) → 2 ^ (k + 1) ≡ 2 * 2 ^ k
twice_one k = let one : k + 1 ≡ suc k = omega arith in ap (λ (n : ℕ). 2 ^ n) one ∙ pow-suc-two k

-- ---- sums of counts

pub sum_more : (counts : List ℕ) (a n : ℕ) → sum_before counts a ≤ sum_before counts (a + n)
sum_more counts a zero = let none : a + 0 ≡ a = omega arith in omega (arith, ap (sum_before counts) none)
sum_more counts a (suc n) =
    let next : a + suc n ≡ suc (a + n) = omega arith in
    omega (arith, ap (sum_before counts) next, sum_more counts a n)

-- at most one for each leaf
pub sum_few : (room : ℕ) (counts : List ℕ) → ((i : ℕ) → room ≤ i → get_or counts i 0 ≤ 1) → (n : ℕ)
    → sum_before counts (room + n) ≤ sum_before counts room + n
sum_few room counts leaves zero = let none : room + 0 ≡ room = omega arith in omega (arith, ap (sum_before counts) none)
sum_few room counts leaves (suc n) =
    let next : room + suc n ≡ suc (room + n) = omega arith in
    omega (arith, ap (sum_before counts) next, sum_few room counts leaves n, leaves (room + n) (omega arith))

module _ (height : ℕ) (counts : List ℕ) (tree : IsTree (2 ^ height) counts) where
  -- a node counts the leaves below it
  pub below_node : (h d i : ℕ) → h + d ≡ height → 2 ^ d ≤ i → i < 2 * 2 ^ d
      → sum_before counts (i * 2 ^ h) + get_or counts i 0 ≡ sum_before counts ((i + 1) * 2 ^ h)
  below_node zero d i is from within =
      let here : i * 1 ≡ i = omega arith in
      let next : (i + 1) * 1 ≡ suc i = omega arith in
      ap (λ (k : ℕ). sum_before counts k + get_or counts i 0) here ∙ sym (ap (sum_before counts) next)
  below_node (suc h) d i is from within =
      let deeper : h + suc d ≡ height = omega (arith, is) in
      let wider : 2 ^ suc d ≡ 2 * 2 ^ d = pow-suc-two d in
      let inside : 2 ^ suc d ≤ 2 ^ height = pow_mono {i = suc d} {j = height} (omega (arith, is)) in
      let some : 0 < i = omega (arith, pow_pos d, from) in
      let left : sum_before counts (2 * i * 2 ^ h) + get_or counts (2 * i) 0 ≡ sum_before counts ((2 * i + 1) * 2 ^ h) =
      below_node h (suc d) (2 * i) deeper (omega (arith, wider, from)) (omega (arith, wider, within)) in
      let right : sum_before counts ((2 * i + 1) * 2 ^ h) + get_or counts (2 * i + 1) 0 ≡ sum_before counts ((2 * i + 1 + 1) * 2 ^ h) =
      below_node h (suc d) (2 * i + 1) deeper (omega (arith, wider, from)) (omega (arith, wider, within)) in
      let first : i * 2 ^ suc h ≡ 2 * i * 2 ^ h = ap (λ (w : ℕ). i * w) (pow-suc-two h) ∙ omega arith in
      let last : (i + 1) * 2 ^ suc h ≡ (2 * i + 1 + 1) * 2 ^ h = ap (λ (w : ℕ). (i + 1) * w) (pow-suc-two h) ∙ omega arith in
      omega (arith, left, right, ap (sum_before counts) first, ap (sum_before counts) last, tree.sums i some (omega (arith, wider, inside, within)))

  -- the root counts all leaves
  pub root_counts : sum_before counts (2 ^ height) + get_or counts 1 0 ≡ sum_before counts (2 * 2 ^ height)
  root_counts =
      let is : height + 0 ≡ height = omega arith in
      let all : sum_before counts (1 * 2 ^ height) + get_or counts 1 0 ≡ sum_before counts ((1 + 1) * 2 ^ height) =
      below_node height 0 1 is (omega arith) (omega arith) in
      let first : 1 * 2 ^ height ≡ 2 ^ height = omega arith in
      let last : (1 + 1) * 2 ^ height ≡ 2 * 2 ^ height = omega arith in
      omega (arith, all, ap (sum_before counts) first, ap (sum_before counts) last)

-- ---- from a leaf up

-- what is counted so far, at a node so many levels above the leaves
pub record IsOnWayUp (height : ℕ) (counts : List ℕ) (leaf level node total : ℕ) : Type 0 where
  pub before : sum_before counts (node * 2 ^ level) + total ≡ sum_before counts leaf
  pub row : (d : ℕ) → d + level ≡ height → (2 ^ d ≤ node) × (node < 2 * 2 ^ d)

pub up_start : (height : ℕ) (counts : List ℕ) (leaf : ℕ) → 2 ^ height ≤ leaf → leaf < 2 * 2 ^ height
    → IsOnWayUp height counts leaf 0 leaf 0
up_start height counts leaf from within = record {
  before = let here : leaf * 1 ≡ leaf = omega arith in omega (arith, ap (sum_before counts) here);
  row = λ d is.
      let same : height ≡ d = omega (arith, is) in
      subst (λ (k : ℕ). (2 ^ k ≤ leaf) × (leaf < 2 * 2 ^ k)) same (from, within);
}

module _ (height : ℕ) (counts : List ℕ) (leaf level node total left : ℕ) (tree : IsTree (2 ^ height) counts)
    (far : IsOnWayUp height counts leaf level node total) (below : level < height)
    (right_child : node % 2 ≡ 1 → left ≡ get_or counts (node - 1) 0) (left_child : node % 2 ≡ 0 → left ≡ 0) where
  abbrev above : ℕ
  above = height - level - 1

  rows : above + 1 + level ≡ height
  rows = omega (arith, below)

  up_row : (d : ℕ) → d + (level + 1) ≡ height → (2 ^ d ≤ node / 2) × (node / 2 < 2 * 2 ^ d)
  up_row d is =
      let here : (2 ^ (d + 1) ≤ node) × (node < 2 * 2 ^ (d + 1)) = far.row (d + 1) (omega (arith, is)) in
      (omega (arith, here.0, twice_one d), omega (arith, here.1, twice_one d))

  up_before : sum_before counts (node / 2 * 2 ^ (level + 1)) + (total + left) ≡ sum_before counts leaf
  up_before = elim (cases_eq (node % 2) 0) [
    | inl even ↦
        let half : node ≡ 2 * (node / 2) = omega (arith, even) in
        let same : node / 2 * 2 ^ (level + 1) ≡ node * 2 ^ level =
        ap (λ (w : ℕ). node / 2 * w) (twice_one level) ∙ (let moved : node / 2 * (2 * 2 ^ level) ≡ 2 * (node / 2) * 2 ^ level = omega arith in moved) ∙ sym (ap (λ (n : ℕ). n * 2 ^ level) half) in
        omega (arith, ap (sum_before counts) same, far.before, left_child even)
    | inr not_even ↦
        let odd : node % 2 ≡ 1 = omega (arith, not_even) in
        let half : node ≡ 2 * (node / 2) + 1 = omega (arith, odd) in
        let row : (2 ^ (above + 1) ≤ node) × (node < 2 * 2 ^ (above + 1)) = far.row (above + 1) rows in
        let sibling : sum_before counts (2 * (node / 2) * 2 ^ level) + get_or counts (2 * (node / 2)) 0 ≡ sum_before counts ((2 * (node / 2) + 1) * 2 ^ level) =
        below_node height counts tree level (above + 1) (2 * (node / 2)) (omega (arith, rows)) (omega (arith, row.0, twice_one above, half)) (omega (arith, row.1, half)) in
        let moved : node / 2 * 2 ^ (level + 1) ≡ 2 * (node / 2) * 2 ^ level = ap (λ (w : ℕ). node / 2 * w) (twice_one level) ∙ omega arith in
        let here : node * 2 ^ level ≡ (2 * (node / 2) + 1) * 2 ^ level = ap (λ (n : ℕ). n * 2 ^ level) half in
        let place : node - 1 ≡ 2 * (node / 2) = omega (arith, half) in
        omega (arith, sibling, ap (sum_before counts) moved, ap (sum_before counts) here, ap (λ (n : ℕ). get_or counts n 0) place, far.before, right_child odd)
  ]

  pub up_step : IsOnWayUp height counts leaf (level + 1) (node / 2) (total + left)
  up_step = record { before = up_before; row = up_row }

  -- no more leaves are counted than there are
  pub up_small : (n : ℕ) → leaf ≡ 2 ^ height + n → total + left ≤ n
  up_small n is =
      let row : (2 ^ above ≤ node / 2) × (node / 2 < 2 * 2 ^ above) = up_row above (omega (arith, rows)) in
      let whole : 2 ^ height ≡ 2 ^ above * 2 ^ (level + 1) =
      (let parts : height ≡ above + (level + 1) = omega (arith, rows) in ap (λ (k : ℕ). 2 ^ k) parts) ∙ pow-add 2 above (level + 1) in
      let from : 2 ^ height ≤ node / 2 * 2 ^ (level + 1) = omega (arith, whole, mul-le (2 ^ above) (2 ^ (level + 1)) (node / 2) (2 ^ (level + 1)) row.0 (omega arith)) in
      let rest : 2 ^ height + (node / 2 * 2 ^ (level + 1) - 2 ^ height) ≡ node / 2 * 2 ^ (level + 1) = omega (arith, from) in
      let least : sum_before counts (2 ^ height) ≤ sum_before counts (node / 2 * 2 ^ (level + 1)) =
      omega (arith, sum_more counts (2 ^ height) (node / 2 * 2 ^ (level + 1) - 2 ^ height), ap (sum_before counts) rest) in
      omega (arith, least, up_before, sum_few (2 ^ height) counts tree.leaves n, ap (sum_before counts) is)

-- there is such a node
pub up_within : (height : ℕ) (counts : List ℕ) (leaf level node total : ℕ) → IsOnWayUp height counts leaf level node total
    → level ≤ height → node < 2 * 2 ^ height
up_within height counts leaf level node total far high =
    let row : (2 ^ (height - level) ≤ node) × (node < 2 * 2 ^ (height - level)) = far.row (height - level) (omega arith) in
    omega (arith, row.1, pow_mono {i = height - level} {j = height} (omega arith))

pub up_end : (height : ℕ) (counts : List ℕ) (leaf level node total : ℕ) → IsOnWayUp height counts leaf level node total
    → level ≡ height → sum_before counts (2 ^ height) + total ≡ sum_before counts leaf
up_end height counts leaf level node total far end =
    let row : (1 ≤ node) × (node < 2) = far.row 0 (omega (arith, end)) in
    let root : node ≡ 1 = omega (arith, row.0, row.1) in
    let first : node * 2 ^ level ≡ 2 ^ height = ap (λ (n : ℕ). n * 2 ^ level) root ∙ (let one : 1 * 2 ^ level ≡ 2 ^ level = omega arith in one) ∙ ap (λ (k : ℕ). 2 ^ k) end in
    omega (arith, far.before, ap (sum_before counts) first)

-- ---- from the root down

-- the leaf is below a node of a level, so many counted leaves after the first one there
pub record IsOnWayDown (height : ℕ) (counts : List ℕ) (k level node before : ℕ) : Type 0 where
  pub from : 2 ^ level ≤ node
  pub within : node < 2 * 2 ^ level
  pub fewer : before < get_or counts node 0
  pub sums : (h : ℕ) → h + level ≡ height
      → sum_before counts (2 ^ height) + k ≡ sum_before counts (node * 2 ^ h) + before

pub down_start : (height : ℕ) (counts : List ℕ) (k : ℕ) → k < get_or counts 1 0 → IsOnWayDown height counts k 0 1 k
down_start height counts k few = record {
  from = omega arith;
  within = omega arith;
  fewer = few;
  sums = λ h is.
      let all : 1 * 2 ^ h ≡ 2 ^ height = (let one : 1 * 2 ^ h ≡ 2 ^ h = omega arith in one) ∙ (let same : h ≡ height = omega (arith, is) in ap (λ (n : ℕ). 2 ^ n) same) in
      omega (arith, ap (sum_before counts) all);
}

-- above the last level a node has both children
pub down_inner : (height : ℕ) (counts : List ℕ) (k level node before : ℕ) → IsOnWayDown height counts k level node before
    → level < height → node < 2 ^ height
down_inner height counts k level node before far below =
    omega (arith, twice_one level, far.within, pow_mono {i = level + 1} {j = height} (omega arith))

module _ (height : ℕ) (counts : List ℕ) (k level node before next rest : ℕ) (tree : IsTree (2 ^ height) counts)
    (far : IsOnWayDown height counts k level node before) (below : level < height)
    (left : before < get_or counts (2 * node) 0 → (next ≡ 2 * node) × (rest ≡ before))
    (right : get_or counts (2 * node) 0 ≤ before → (next ≡ 2 * node + 1) × (rest + get_or counts (2 * node) 0 ≡ before)) where
  children : get_or counts node 0 ≡ get_or counts (2 * node) 0 + get_or counts (2 * node + 1) 0
  children = tree.sums node (omega (arith, pow_pos level, far.from)) (down_inner height counts k level node before far below)

  wider : (h n : ℕ) → n * 2 ^ (h + 1) ≡ 2 * n * 2 ^ h
  wider h n = ap (λ (w : ℕ). n * w) (twice_one h) ∙ omega arith

  goes_left : (next ≡ 2 * node) × (rest ≡ before) → before < get_or counts (2 * node) 0 → IsOnWayDown height counts k (level + 1) next rest
  goes_left is fewer = record {
    from = omega (arith, twice_one level, far.from, is.0);
    within = omega (arith, twice_one level, far.within, is.0);
    fewer = omega (arith, fewer, is.1, ap (λ (n : ℕ). get_or counts n 0) is.0);
    sums = λ h up.
        let was : sum_before counts (2 ^ height) + k ≡ sum_before counts (node * 2 ^ (h + 1)) + before = far.sums (h + 1) (omega (arith, up)) in
        omega (arith, was, ap (sum_before counts) (wider h node), ap (λ (n : ℕ). sum_before counts (n * 2 ^ h)) is.0, is.1);
  }

  goes_right : (next ≡ 2 * node + 1) × (rest + get_or counts (2 * node) 0 ≡ before) → IsOnWayDown height counts k (level + 1) next rest
  goes_right is = record {
    from = omega (arith, twice_one level, far.from, is.0);
    within = omega (arith, twice_one level, far.within, is.0);
    fewer = omega (arith, far.fewer, children, is.1, ap (λ (n : ℕ). get_or counts n 0) is.0);
    sums = λ h up.
        let was : sum_before counts (2 ^ height) + k ≡ sum_before counts (node * 2 ^ (h + 1)) + before = far.sums (h + 1) (omega (arith, up)) in
        let sibling : sum_before counts (2 * node * 2 ^ h) + get_or counts (2 * node) 0 ≡ sum_before counts ((2 * node + 1) * 2 ^ h) =
        below_node height counts tree h (level + 1) (2 * node) up (omega (arith, twice_one level, far.from)) (omega (arith, twice_one level, far.within)) in
        omega (arith, was, sibling, ap (sum_before counts) (wider h node), ap (λ (n : ℕ). sum_before counts (n * 2 ^ h)) is.0, is.1);
  }

  pub down_step : IsOnWayDown height counts k (level + 1) next rest
  down_step = elim (cases_lt before (get_or counts (2 * node) 0)) [
    | inl fewer ↦ goes_left (left fewer) fewer
    | inr more ↦ goes_right (right more)
  ]

-- at a leaf
pub record IsFound (height : ℕ) (counts : List ℕ) (k leaf : ℕ) : Type 0 where
  pub from : 2 ^ height ≤ leaf
  pub within : leaf < 2 * 2 ^ height
  pub counted : get_or counts leaf 0 ≡ 1
  pub before : sum_before counts (2 ^ height) + k ≡ sum_before counts leaf

pub down_end : (height : ℕ) (counts : List ℕ) (k level node before : ℕ) → IsTree (2 ^ height) counts
    → IsOnWayDown height counts k level node before → level ≡ height → IsFound height counts k node
down_end height counts k level node before tree far end =
    let same : 2 ^ level ≡ 2 ^ height = ap (λ (n : ℕ). 2 ^ n) end in
    let leaf : 2 ^ height ≤ node = omega (arith, far.from, same) in
    let one : node * 1 ≡ node = omega arith in
    let was : sum_before counts (2 ^ height) + k ≡ sum_before counts (node * 1) + before = far.sums 0 (omega (arith, end)) in
    record {
      from = leaf;
      within = omega (arith, far.within, same);
      counted = omega (arith, far.fewer, tree.leaves node leaf);
      before = omega (arith, was, ap (sum_before counts) one, far.fewer, tree.leaves node leaf);
    }
