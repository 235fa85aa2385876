-- The order of the report is total, and sorted nodes are in this order.
use Rattle.std.proofs.Common.{◌≡◌, ◌∙◌, ap, subst, refl, ℕ, List, [], ◌∷◌}
use Rattle.std.specs.Prelude.{fold}
use Rattle.std.specs.List.{AllByRecursion}
use Rattle.std.specs.List.Sorted.{IsStrictlySortedBy}
use Rattle.std.specs.Cmp.{IsTotalOrder}
use Rattle.std.specs.Cmp.Lexicographic.{slice_cmp}
use Rattle.std.specs.Ordering.{nat_cmp, ordering_then, ordering_reverse, match_ordering}
use Rattle.std.specs.declared.cmp.Ordering.{Ordering}
use Rattle.std.specs.declared.cmp.Ordering.TheVariants.{Less, Equal, Greater}
use Rattle.std.proofs.lemmas.Cmp.{nat_cmp_total, nat_list_cmp_total, on_total, then_total}
use Rattle.reach.specs.Types.{Node, Path, Process, Row, Ask, Reply}
use Rattle.reach.specs.Order.{node_cmp}
use Rattle.reach.specs.Found.{with_node, in_order}

-- ---- a total order

-- a node as its kind, a text and two numbers
record Rank : Type 0 where
  kind : ℕ
  text : List ℕ
  number : ℕ
  version : ℕ

abbrev rank : Node → Rank
rank (Path path) = record { kind = 0; text = path; number = 0; version = 0 }
rank (Process process) = record { kind = 1; text = []; number = process; version = 0 }
rank (Row member) = record { kind = 2; text = member.table; number = member.row; version = member.version }
rank (Ask statement) = record { kind = 3; text = []; number = statement; version = 0 }
rank (Reply statement) = record { kind = 4; text = []; number = statement; version = 0 }

abbrev rank_cmp : Rank → Rank → Ordering
rank_cmp a b =
    ordering_then (nat_cmp a.kind b.kind)
    (ordering_then (slice_cmp nat_cmp a.text b.text) (ordering_then (nat_cmp a.number b.number) (nat_cmp a.version b.version)))

rank_total : IsTotalOrder rank_cmp
rank_total =
    then_total (on_total (λ (r : Rank). r.kind) nat_cmp_total)
    (then_total (on_total (λ (r : Rank). r.text) nat_list_cmp_total)
    (then_total (on_total (λ (r : Rank). r.number) nat_cmp_total) (on_total (λ (r : Rank). r.version) nat_cmp_total)))

then_equal : (o : Ordering) → ordering_then o Equal ≡ o
then_equal Less = refl
then_equal Equal = refl
then_equal Greater = refl

ranked : (a b : Node) → rank_cmp (rank a) (rank b) ≡ node_cmp a b
ranked (Path a) (Path b) = then_equal (slice_cmp nat_cmp a b)
ranked (Process a) (Process b) = then_equal (nat_cmp a b)
ranked (Row a) (Row b) = refl
ranked (Ask a) (Ask b) = then_equal (nat_cmp a b)
ranked (Reply a) (Reply b) = then_equal (nat_cmp a b)
ranked a b = refl

pub node_total : IsTotalOrder node_cmp
node_total = subst (λ (cmp : Node → Node → Ordering). IsTotalOrder cmp) (λ j a b. ranked a b j) (on_total rank rank_total)

-- ---- nodes in order

-- what is above all nodes and the one that is put in is above all of them
above_put : (x k : Node) (ns : List Node) → node_cmp x k ≡ Less → AllByRecursion (λ y. node_cmp x y ≡ Less) ns
    → AllByRecursion (λ y. node_cmp x y ≡ Less) (with_node ns k)
above_put x k [] less all = (less, tt)
above_put x k (y ∷ ys) less all = by (node_cmp k y) (above_put x k ys less all.1)
  where
    by : (o : Ordering) → AllByRecursion (λ y. node_cmp x y ≡ Less) (with_node ys k)
        → AllByRecursion (λ y. node_cmp x y ≡ Less) (match_ordering o (k ∷ y ∷ ys) (y ∷ ys) (y ∷ with_node ys k))
    by Less rest = (less, all)
    by Equal rest = all
    by Greater rest = (all.0, rest)

above_all : (x y : Node) (ns : List Node) → node_cmp x y ≡ Less → AllByRecursion (λ z. node_cmp y z ≡ Less) ns
    → AllByRecursion (λ z. node_cmp x z ≡ Less) ns
above_all x y [] less all = tt
above_all x y (z ∷ zs) less all = (node_total.trans x y z less all.0, above_all x y zs less all.1)

placed_sorted : (ns : List Node) (k : Node) → IsStrictlySortedBy node_cmp ns → IsStrictlySortedBy node_cmp (with_node ns k)
unfolding IsStrictlySortedBy
placed_sorted [] k sorted = (tt, tt)
placed_sorted (y ∷ ys) k sorted = by (node_cmp k y) refl (placed_sorted ys k sorted.1)
  where
    by : (o : Ordering) → node_cmp k y ≡ o → IsStrictlySortedBy node_cmp (with_node ys k)
        → IsStrictlySortedBy node_cmp (match_ordering o (k ∷ y ∷ ys) (y ∷ ys) (y ∷ with_node ys k))
    by Less is rest = ((is, above_all k y ys is sorted.0), sorted)
    by Equal is rest = sorted
    by Greater is rest = (above_put y k ys (node_total.antisymm y k ∙ ap ordering_reverse is) sorted.0, rest)

all_sorted : (acc ns : List Node) → IsStrictlySortedBy node_cmp acc → IsStrictlySortedBy node_cmp (fold with_node acc ns)
all_sorted acc [] sorted = sorted
all_sorted acc (k ∷ ns) sorted = all_sorted (with_node acc k) ns (placed_sorted acc k sorted)

pub in_order_sorted : (ns : List Node) → IsStrictlySortedBy node_cmp (in_order ns)
unfolding IsStrictlySortedBy
in_order_sorted ns = all_sorted [] ns tt
