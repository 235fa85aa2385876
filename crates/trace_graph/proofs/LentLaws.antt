-- A graph whose nodes are keys.
use Rattle.std.proofs.Common.{◌≡◌, ◌∙◌, sym, ap, subst, refl, ℕ, ◌+◌, ◌<◌, Bool, not, cond, List, [], ◌∷◌, map, length, Some, None, IsTrue}
use Rattle.std.specs.Prelude.{nat_lt, position}
use Rattle.std.specs.List.{position_or_len}
use Rattle.std.proofs.lemmas.List.{length-map}
use Rattle.trace_graph.specs.Types.{Node, Event, Edge}
use Rattle.trace_graph.specs.Links.{links_of}
use Rattle.trace_graph.specs.Graph.{Parts, graph_of, are_between}
use Rattle.trace_graph.specs.Lent.{node_of, lent_parts}
use Rattle.trace_graph.specs.declared.key.NodeKey.{NodeKey}
use Rattle.trace_graph.specs.declared.lent.LentGraph.{LentGraph}
use Rattle.trace_graph.proofs.GraphLaw.{between}

-- what is between nodes is between their keys
pub key_within : (keys : List NodeKey) (nodes : List Node) (place : ℕ) → map node_of keys ≡ nodes → place < length nodes → place < length keys
key_within keys nodes place named within =
    subst (λ (n : ℕ). place < n) (ap (λ (l : List Node). length l) (sym named) ∙ length-map keys node_of) within

pub keys_between : (keys : List NodeKey) (nodes : List Node) (edges others : List Edge) → map node_of keys ≡ nodes → edges ≡ others
    → IsTrue (are_between (length nodes) others) → IsTrue (are_between (length keys) edges)
keys_between keys nodes edges others named same inside =
    subst (λ (n : ℕ). IsTrue (are_between n edges)) (ap (λ (l : List Node). length l) (sym named) ∙ length-map keys node_of)
    (subst (λ (es : List Edge). IsTrue (are_between (length nodes) es)) (sym same) inside)

-- the edges of a lent graph are between places of its keys
pub lent_between : (graph : LentGraph) (events : List Event) → lent_parts graph ≡ graph_of events
    → IsTrue (are_between (length graph.nodes.items) graph.edges.items)
lent_between graph events is =
    keys_between graph.nodes.items (graph_of events).nodes graph.edges.items (graph_of events).edges
    (ap (λ (p : Parts). p.nodes) is) (ap (λ (p : Parts). p.edges) is) (between (links_of events))

-- a node is at the place of its key
front_same : (q : Node → Bool) (ks : List NodeKey) → position_or_len q (map node_of ks) ≡ position_or_len (λ k. q (node_of k)) ks
front_same q [] = refl
front_same q (k ∷ ks) = ap (λ (n : ℕ). cond (not (q (node_of k))) (1 + n) 0) (front_same q ks)

pub place_same : (q : Node → Bool) (ks : List NodeKey) → position q (map node_of ks) ≡ position (λ k. q (node_of k)) ks
place_same q ks = λ j.
    cond (nat_lt (front_same q ks j) (length-map ks node_of j)) (Some (front_same q ks j)) None
