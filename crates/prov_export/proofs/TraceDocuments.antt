-- The document of a trace's graph is read as that graph, and gives the same reports as the trace.
use Rattle.std.proofs.Common.{◌≡◌, refl, sym, ap, subst, ℕ, ◌≤◌, List, [], ◌∷◌, length, Bool, true, false, cond, inl, inr, IsTrue}
use Rattle.std.specs.Prelude.{Some, None, option_map, Contains, ◌⊎◌, nat_lt}
use Rattle.std.specs.List.{AllByRecursion, position_or_len}
use Rattle.std.proofs.lemmas.Bool.{ltb-true}
use Rattle.ldv_value.specs.Limits.{max_steps, input_limit}
use Rattle.ldv_value.specs.Names.{path_test}
use Rattle.run_model.specs.declared.event.Event.{Event}
use Rattle.run_model.specs.TypedPackage.{TypedEvent}
use Rattle.run_model.specs.ValidTrace.{ValidTrace}
use Rattle.reach.specs.Depends.{depends_of}
use Rattle.reach.proofs.Members.{in_nil, in_cons}
use Rattle.trace_graph.specs.Graph.{same_node, graph_of}
use Rattle.trace_graph.specs.WellFormed.{IsWellFormed}
use Rattle.trace_graph.proofs.WellFormedParts.{edges_between}
use Rattle.trace_graph.proofs.WellFormedTraces as traces
use Rattle.prov_export.specs.Types.{Node, Path, Edge}
use Rattle.prov_export.specs.Document.{prov_text}
use Rattle.prov_export.specs.Dependence.{nodes_report, depends_report}
use Rattle.prov_export.specs.Laws.{IsTypedGraph, depends_by, TraceLaw}
use Rattle.prov_export.proofs.Dependence.{depends_same}
use Rattle.prov_export.proofs.Lengths.{nodes_within, edges_within}
use Rattle.prov_export.proofs.ReadBack.{round_trip_law}
use Rattle.prov_export.proofs.TypedTraces.{nodes_typed}

edge_ends : (limit : ℕ) (es : List Edge) → AllByRecursion (λ (e : Edge). e.last ≤ limit) es → (e : Edge) → Contains es e → e.last ≤ limit
edge_ends limit [] all e is = absurd (in_nil e is)
edge_ends limit (x ∷ xs) all e is = by (in_cons x xs e is) (edge_ends limit xs all.1 e)
  where
    by : (x ≡ e) ⊎ Contains xs e → (Contains xs e → e.last ≤ limit) → e.last ≤ limit
    by (inl same) rest = subst (λ (d : Edge). d.last ≤ limit) same all.0
    by (inr more) rest = rest more

module _ (start : List ℕ) (steps : ℕ) (events : List Event) (met : IsTrue (path_test start)) (valid : ValidTrace start steps events) (low : steps ≤ max_steps) where
  formed : IsWellFormed (graph_of events)
  formed = traces.well_formed_law start steps events met valid low

  depends_at_end : (path : List ℕ) → depends_report (graph_of events) path ≡ depends_by events steps path
  depends_at_end path = by (nat_lt (position_or_len (same_node (Path path)) (graph_of events).nodes) (length (graph_of events).nodes)) refl
    where
      by : (b : Bool) → nat_lt (position_or_len (same_node (Path path)) (graph_of events).nodes) (length (graph_of events).nodes) ≡ b
          → option_map (λ p. nodes_report (depends_of (graph_of events) p max_steps)) (cond b (Some (position_or_len (same_node (Path path)) (graph_of events).nodes)) None)
          ≡ option_map (λ p. nodes_report (depends_of (graph_of events) p steps)) (cond b (Some (position_or_len (same_node (Path path)) (graph_of events).nodes)) None)
      by true is =
          let p : ℕ = position_or_len (same_node (Path path)) (graph_of events).nodes in
          let within = ltb-true p (length (graph_of events).nodes) is in
          ap (λ (nodes : List Node). Some (nodes_report nodes))
          (sym (depends_same (graph_of events) p steps max_steps (edges_between (graph_of events) formed) within
          (edge_ends steps (graph_of events).edges (traces.end_law start steps events met valid)) low))
      by false is = refl

  typed_graph : AllByRecursion TypedEvent events → length (prov_text (graph_of events)) ≤ input_limit → IsTypedGraph (graph_of events)
  typed_graph typed short =
      let nodes = nodes_typed events (start, steps, met, valid) typed in record {
        nodes_fit = nodes_within (graph_of events) formed nodes short;
        edges_fit = edges_within (graph_of events) short;
        nodes = nodes;
      }

pub trace_law : TraceLaw
trace_law start steps events met valid low typed short =
    let graph = typed_graph start steps events met valid low typed short in
    (round_trip_law (graph_of events) graph (formed start steps events met valid low), depends_at_end start steps events met valid low)
