-- The report on a path lists the nodes from which chains of edges lead to it.
use Rattle.std.proofs.Common.{◌≡◌, ℕ, ◌<◌, List, length, refl, sym, ap, ◌∙◌, subst, inl, inr}
use Rattle.std.specs.Prelude.{Some, None, option_map}
use Rattle.std.proofs.lemmas.List.Quantifiers.{position-Some}
use Rattle.ldv_value.proofs.Cases.{cases-option}
use Rattle.trace_graph.proofs.GraphLaw.{between}
use Rattle.trace_graph.specs.Graph.{Parts, same_node, graph_of, place_of}
use Rattle.trace_graph.specs.Links.{links_of}
use Rattle.reach.specs.Depends.{depends_of}
use Rattle.reach.specs.ReachLaws.{DependsLaw}
use Rattle.inspect.specs.Types.{Event, Path}
use Rattle.inspect.specs.DependsReports.{depends_at, depends_report}
use Rattle.inspect.specs.DependsSources.{ListsSources, SourcesLaw}

pub lists_sources : DependsLaw → SourcesLaw
lists_sources law events time path text is =
    let graph : Parts = graph_of events in
    elim (cases-option (place_of graph path)) [
      | inl none ↦ let never : None ≡ Some text = sym (ap (option_map (depends_at events time)) none) ∙ is in cc
      | inr some ↦
          let place : ℕ = some.0 in
          let within : place < length graph.nodes = (position-Some (same_node (Path path)) graph.nodes place (Path path) some.1).0 in
          let told : Some (depends_at events time place) ≡ Some text = sym (ap (option_map (depends_at events time)) some.1) ∙ is in
          record {
            place = place;
            found = some.1;
            nodes = depends_of graph place time;
            sources = law graph place time (between (links_of events)) within;
            told = cc;
          }
    ]
