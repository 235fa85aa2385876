-- Nodes repeat if their keys do, and edges repeat if their places do.
use Rattle.std.proofs.Common.{◌≡◌, ◌∙◌, sym, ap, refl, ℕ, List, map, Bor}
use Rattle.std.specs.Prelude.{◌&&◌}
use Rattle.std.specs.Cmp.{unsigned_tied}
use Rattle.std.specs.Cmp.Lexicographic.{slice_cmp}
use Rattle.std.specs.Ordering.{nat_cmp, ordering_then, is_eq, eq_by_cmp}
use Rattle.std.specs.declared.cmp.Ordering.{Ordering}
use Rattle.std.proofs.lemmas.Map.Text.{is_eq-slice_cmp}
use Rattle.sql_model.specs.Keys.{repeats}
use Rattle.sql_model.proofs.Seen.{repeats_map}
use Rattle.trace_graph.specs.Types.{Node, Edge}
use Rattle.trace_graph.specs.Lent.{node_of}
use Rattle.trace_graph.specs.Graph.{same_node}
use Rattle.trace_graph.specs.WellFormed.{places_of, same_places}
use Rattle.trace_graph.specs.declared.key.NodeKey.{NodeKey}
use Rattle.trace_graph.specs.declared.key.NodeKey.TheVariants as keys
use Rattle.trace_graph.specs.contracts.key.NodeKeyOrd.TheImpl as key_order
use Rattle.ldv_value.proofs.Orderings.{then-tied}

-- ---- keys

abbrev pub key_cmp : NodeKey → NodeKey → Ordering
key_cmp = (key_order.ghosts).cmp

row_tied : (a b : Bor (List ℕ)) (q r u v : ℕ)
    → is_eq (ordering_then (slice_cmp nat_cmp a.now b.now) (ordering_then (nat_cmp q r) (nat_cmp u v)))
    ≡ same_node (node_of (keys.Row a q u)) (node_of (keys.Row b r v))
row_tied a b q r u v =
    then-tied (slice_cmp nat_cmp a.now b.now) (ordering_then (nat_cmp q r) (nat_cmp u v))
    ∙ (λ j. is_eq-slice_cmp a.now b.now j && (then-tied (nat_cmp q r) (nat_cmp u v) ∙ (λ i. unsigned_tied q r i && unsigned_tied u v i)) j)

key_tied : (a b : NodeKey) → eq_by_cmp key_cmp a b ≡ same_node (node_of a) (node_of b)
key_tied (keys.Path a) (keys.Path b) = is_eq-slice_cmp a.now b.now
key_tied (keys.Path a) (keys.Process b) = refl
key_tied (keys.Path a) (keys.Row b r v) = refl
key_tied (keys.Path a) (keys.Ask b) = refl
key_tied (keys.Path a) (keys.Reply b) = refl
key_tied (keys.Process a) (keys.Path b) = refl
key_tied (keys.Process a) (keys.Process b) = unsigned_tied a b
key_tied (keys.Process a) (keys.Row b r v) = refl
key_tied (keys.Process a) (keys.Ask b) = refl
key_tied (keys.Process a) (keys.Reply b) = refl
key_tied (keys.Row a r v) (keys.Path b) = refl
key_tied (keys.Row a r v) (keys.Process b) = refl
key_tied (keys.Row a q u) (keys.Row b r v) = row_tied a b q r u v
key_tied (keys.Row a r v) (keys.Ask b) = refl
key_tied (keys.Row a r v) (keys.Reply b) = refl
key_tied (keys.Ask a) (keys.Path b) = refl
key_tied (keys.Ask a) (keys.Process b) = refl
key_tied (keys.Ask a) (keys.Row b r v) = refl
key_tied (keys.Ask a) (keys.Ask b) = unsigned_tied a b
key_tied (keys.Ask a) (keys.Reply b) = refl
key_tied (keys.Reply a) (keys.Path b) = refl
key_tied (keys.Reply a) (keys.Process b) = refl
key_tied (keys.Reply a) (keys.Row b r v) = refl
key_tied (keys.Reply a) (keys.Ask b) = refl
key_tied (keys.Reply a) (keys.Reply b) = unsigned_tied a b

pub nodes_repeat : (ks : List NodeKey) (nodes : List Node) → map node_of ks ≡ nodes
    → repeats (eq_by_cmp key_cmp) ks ≡ repeats same_node nodes
nodes_repeat ks nodes is =
    (λ i. repeats (λ a b. key_tied a b i) ks)
    ∙ sym (repeats_map same_node node_of ks)
    ∙ ap (repeats same_node) is

-- ---- places

abbrev place_cmp : ℕ × ℕ → ℕ × ℕ → Ordering
place_cmp a b = ordering_then (nat_cmp a.0 b.0) (nat_cmp a.1 b.1)

place_tied : (a b : Edge) → eq_by_cmp place_cmp (places_of a) (places_of b) ≡ same_places a b
place_tied a b =
    then-tied (nat_cmp a.source b.source) (nat_cmp a.target b.target)
    ∙ (λ j. unsigned_tied a.source b.source j && unsigned_tied a.target b.target j)

pub places_repeat : (places : List (ℕ × ℕ)) (edges : List Edge) → places ≡ map places_of edges
    → repeats (eq_by_cmp place_cmp) places ≡ repeats same_places edges
places_repeat places edges is =
    ap (repeats (eq_by_cmp place_cmp)) is
    ∙ repeats_map (eq_by_cmp place_cmp) places_of edges
    ∙ (λ i. repeats (λ a b. place_tied a b i) edges)
