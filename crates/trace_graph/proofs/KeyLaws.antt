-- Keys are the same if and only if the nodes that they name are.
use Rattle.std.proofs.Common.{◌≡◌, ◌∙◌, ap, refl, ◌+◌, Bool, true, false, not, cond, ◌||◌, List, [], ◌∷◌, ◌++◌, map}
use Rattle.std.specs.Prelude.{if◌then◌else◌}
use Rattle.std.specs.List.{list_any, position_or_len}
use Rattle.std.proofs.lemmas.List.{map-append}
use Rattle.indexmap.specs.IndexSet.{insert_key}
use Rattle.trace_graph.specs.Graph.{same_node}
use Rattle.trace_graph.specs.inner.Building.{with_node}
use Rattle.trace_graph.specs.Lent.{node_of}
use Rattle.trace_graph.specs.declared.key.NodeKey.{NodeKey}
use Rattle.trace_graph.specs.declared.key.NodeKey.TheVariants as keys
use Rattle.trace_graph.specs.contracts.key.NodeKeyPartialEq.TheImpl as key_eq

abbrev pub same_key : NodeKey → NodeKey → Bool
same_key = (key_eq.ghosts).eq

pub key_same : (a b : NodeKey) → same_key a b ≡ same_node (node_of a) (node_of b)
key_same (keys.Path a) (keys.Path b) = refl
key_same (keys.Path a) (keys.Process b) = refl
key_same (keys.Path a) (keys.Row b r v) = refl
key_same (keys.Path a) (keys.Ask b) = refl
key_same (keys.Path a) (keys.Reply b) = refl
key_same (keys.Process a) (keys.Path b) = refl
key_same (keys.Process a) (keys.Process b) = refl
key_same (keys.Process a) (keys.Row b r v) = refl
key_same (keys.Process a) (keys.Ask b) = refl
key_same (keys.Process a) (keys.Reply b) = refl
key_same (keys.Row a r v) (keys.Path b) = refl
key_same (keys.Row a r v) (keys.Process b) = refl
key_same (keys.Row a q u) (keys.Row b r v) = refl
key_same (keys.Row a r v) (keys.Ask b) = refl
key_same (keys.Row a r v) (keys.Reply b) = refl
key_same (keys.Ask a) (keys.Path b) = refl
key_same (keys.Ask a) (keys.Process b) = refl
key_same (keys.Ask a) (keys.Row b r v) = refl
key_same (keys.Ask a) (keys.Ask b) = refl
key_same (keys.Ask a) (keys.Reply b) = refl
key_same (keys.Reply a) (keys.Path b) = refl
key_same (keys.Reply a) (keys.Process b) = refl
key_same (keys.Reply a) (keys.Row b r v) = refl
key_same (keys.Reply a) (keys.Ask b) = refl
key_same (keys.Reply a) (keys.Reply b) = refl

any_key : (ks : List NodeKey) (k : NodeKey) → list_any (same_key k) ks ≡ list_any (same_node (node_of k)) (map node_of ks)
any_key [] k = refl
any_key (x ∷ xs) k = λ j. key_same k x j || any_key xs k j

-- a key that is inserted
pub numbered : (ks : List NodeKey) (k : NodeKey) → map node_of (insert_key same_key ks k) ≡ with_node (map node_of ks) (node_of k)
numbered ks k = by (list_any (same_key k) ks) (any_key ks k)
  where
    by : (b : Bool) → b ≡ list_any (same_node (node_of k)) (map node_of ks)
        → map node_of (if b then ks else ks ++ k ∷ []) ≡ with_node (map node_of ks) (node_of k)
    by true is = ap (λ (c : Bool). if c then map node_of ks else map node_of ks ++ node_of k ∷ []) is
    by false is =
        map-append node_of ks (k ∷ [])
        ∙ ap (λ (c : Bool). if c then map node_of ks else map node_of ks ++ node_of k ∷ []) is

-- its place
pub key_place : (ks : List NodeKey) (k : NodeKey) → position_or_len (same_key k) ks ≡ position_or_len (same_node (node_of k)) (map node_of ks)
key_place [] k = refl
key_place (x ∷ xs) k = λ j. cond (not (key_same k x j)) (1 + key_place xs k j) 0
