-- Keys are in the order of the nodes that they name.
use Rattle.std.proofs.Common.{◌≡◌, ◌∙◌, sym, refl, List, [], ◌∷◌, map, Bor}
use Rattle.std.specs.List.{AllByRecursion}
use Rattle.std.specs.List.Sorted.{IsStrictlySortedBy}
use Rattle.std.specs.declared.cmp.Ordering.{Ordering}
use Rattle.std.specs.declared.cmp.Ordering.TheVariants.{Less}
use Rattle.reach.specs.Lent.{lent_node}
use Rattle.reach.specs.Order.{node_cmp}
use Rattle.trace_graph.specs.Lent.{node_of}
use Rattle.trace_graph.specs.declared.key.NodeKey.{NodeKey}
use Rattle.trace_graph.specs.declared.key.NodeKey.TheVariants as keys
use Rattle.trace_graph.specs.contracts.key.NodeKeyOrd.TheImpl as key_order
use Rattle.trace_graph.proofs.Repeats.{key_cmp}

pub key_ordered : (a b : NodeKey) → key_cmp a b ≡ node_cmp (node_of a) (node_of b)
key_ordered (keys.Path a) (keys.Path b) = refl
key_ordered (keys.Path a) (keys.Process b) = refl
key_ordered (keys.Path a) (keys.Row b r v) = refl
key_ordered (keys.Path a) (keys.Ask b) = refl
key_ordered (keys.Path a) (keys.Reply b) = refl
key_ordered (keys.Process a) (keys.Path b) = refl
key_ordered (keys.Process a) (keys.Process b) = refl
key_ordered (keys.Process a) (keys.Row b r v) = refl
key_ordered (keys.Process a) (keys.Ask b) = refl
key_ordered (keys.Process a) (keys.Reply b) = refl
key_ordered (keys.Row a r v) (keys.Path b) = refl
key_ordered (keys.Row a r v) (keys.Process b) = refl
key_ordered (keys.Row a q u) (keys.Row b r v) = refl
key_ordered (keys.Row a r v) (keys.Ask b) = refl
key_ordered (keys.Row a r v) (keys.Reply b) = refl
key_ordered (keys.Ask a) (keys.Path b) = refl
key_ordered (keys.Ask a) (keys.Process b) = refl
key_ordered (keys.Ask a) (keys.Row b r v) = refl
key_ordered (keys.Ask a) (keys.Ask b) = refl
key_ordered (keys.Ask a) (keys.Reply b) = refl
key_ordered (keys.Reply a) (keys.Path b) = refl
key_ordered (keys.Reply a) (keys.Process b) = refl
key_ordered (keys.Reply a) (keys.Row b r v) = refl
key_ordered (keys.Reply a) (keys.Ask b) = refl
key_ordered (keys.Reply a) (keys.Reply b) = refl

-- of keys where they lie
abbrev pub lent_cmp : Bor NodeKey → Bor NodeKey → Ordering
lent_cmp a b = key_cmp a.now b.now

pub lent_ordered : (a b : Bor NodeKey) → lent_cmp a b ≡ node_cmp (lent_node a) (lent_node b)
lent_ordered a b = key_ordered a.now b.now

-- sorted keys name sorted nodes
above : (k : Bor NodeKey) (ks : List (Bor NodeKey)) → AllByRecursion (λ y. lent_cmp k y ≡ Less) ks
    → AllByRecursion (λ y. node_cmp (lent_node k) y ≡ Less) (map lent_node ks)
above k [] all = tt
above k (x ∷ xs) all = (sym (lent_ordered k x) ∙ all.0, above k xs all.1)

pub keys_sorted : (ks : List (Bor NodeKey)) → IsStrictlySortedBy lent_cmp ks → IsStrictlySortedBy node_cmp (map lent_node ks)
unfolding IsStrictlySortedBy
keys_sorted [] sorted = tt
keys_sorted (k ∷ ks) sorted = (above k ks sorted.0, keys_sorted ks sorted.1)
