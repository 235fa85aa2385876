-- The graph that grows link by link is the graph of the links.
use Rattle.std.proofs.Common.{◌≡◌, ◌∙◌, sym, ap, subst, refl, ℕ, true, List, [], ◌∷◌, ◌++◌, map, length, IsTrue}
use Rattle.std.specs.Prelude.{nat_lt}
use Rattle.std.specs.List.{AllByRecursion}
use Rattle.std.proofs.lemmas.Bool.{lt-ltb}
use Rattle.std.proofs.lemmas.List.{append_assoc}
use Rattle.ldv_value.proofs.Lists.{append-nil}
use Rattle.ldv_value.proofs.Booleans.{and-from}
use Rattle.run_model.specs.ValidTrace.{made_after}
use Rattle.trace_graph.specs.Types.{Node, Event}
use Rattle.trace_graph.specs.Links.{Link, event_links, links_after, links_of}
use Rattle.trace_graph.specs.Graph.{Parts, same_node, same_ends, distinct_items, nodes_of, edge_of, graph_by, graph_of, is_between, are_between}
use Rattle.trace_graph.specs.inner.Building.{with_link, with_links, with_events, no_parts}
use Rattle.trace_graph.proofs.Distinct.{distinct_apart}
use Rattle.trace_graph.proofs.PlaceLaws.{place_within}
use Rattle.trace_graph.proofs.EdgeLaws.{AreThere, source_there, target_there, nodes_more, edges_more}
use Rattle.trace_graph.proofs.LinkLists.{with_more}
use Rattle.trace_graph.proofs.GraphFacts.{once_there}

-- one link more
grown_by : (done : List Link) (l : Link) → with_link (graph_by done) l ≡ graph_by (done ++ l ∷ [])
unfolding with_link
grown_by done l = λ j. record {
  nodes = sym (nodes_more done l) j;
  edges = edges_more done l (once_there done) (distinct_apart same_ends done) j;
}

grown : (done ls : List Link) → with_links (graph_by done) ls ≡ graph_by (done ++ ls)
grown done [] = ap graph_by (sym (append-nil done))
grown done (l ∷ ls) =
    ap (λ (parts : Parts). with_links parts ls) (grown_by done l) ∙ grown (done ++ l ∷ []) ls
    ∙ ap graph_by (append_assoc done (l ∷ []) ls)

events_linked : (parts : Parts) (made : ℕ) (es : List Event) → with_events parts made es ≡ with_links parts (links_after made es)
events_linked parts made [] = refl
events_linked parts made (e ∷ es) =
    events_linked (with_links parts (event_links made e)) (made_after made e.act) es
    ∙ sym (with_more parts (event_links made e) (links_after (made_after made e.act) es))

pub built : (events : List Event) → with_events no_parts 1 events ≡ graph_of events
built events = events_linked no_parts 1 events ∙ grown [] (links_of events)

-- each edge is between places of nodes
edges_between : (nodes : List Node) (links xs : List Link) → AllByRecursion (AreThere nodes) xs
    → are_between (length nodes) (map (edge_of nodes links) xs) ≡ true
edges_between nodes links [] once_there = refl
edges_between nodes links (x ∷ xs) once_there =
    let edge = edge_of nodes links x in
    let source : nat_lt edge.source (length nodes) ≡ true =
    lt-ltb edge.source (length nodes) (place_within (same_node x.source) nodes (source_there nodes x once_there.0)) in
    let target : nat_lt edge.target (length nodes) ≡ true =
    lt-ltb edge.target (length nodes) (place_within (same_node x.target) nodes (target_there nodes x once_there.0)) in
    and-from (is_between (length nodes) edge) (are_between (length nodes) (map (edge_of nodes links) xs))
    (and-from (nat_lt edge.source (length nodes)) (nat_lt edge.target (length nodes)) source target)
    (edges_between nodes links xs once_there.1)

pub between : (links : List Link) → IsTrue (are_between (length (graph_by links).nodes) (graph_by links).edges)
between links = edges_between (nodes_of links) links (distinct_items same_ends links) (once_there links)

-- so are those of what was built
pub built_between : (parts : Parts) (events : List Event) → parts ≡ with_events no_parts 1 events
    → IsTrue (are_between (length parts.nodes) parts.edges)
built_between parts events is =
    subst (λ (p : Parts). IsTrue (are_between (length p.nodes) p.edges)) (sym (is ∙ built events)) (between (links_of events))
