use Rattle.std.proofs.Common.{◌∙◌, ap, map, List}
use Rattle.trace_graph.specs.Types.{Edge}
use Rattle.trace_graph.specs.inner.Building.{edge_at, with_notes}
use Rattle.trace_graph.specs.Lent.{node_of}
use Rattle.trace_graph.proofs.NoteLaws.{noted_more}
use Rattle.trace_graph.proofs.building.Building.note_link.Goals as goal

pub returns : goal.returns
returns c =
    let edges : List Edge = map edge_at c.args.self.now.spans.entries in
    λ j. record {
      nodes = map node_of c.args.self.now.keys.keys;
      edges = (ap (with_notes edges) c.in_ok-push.ensures
          ∙ noted_more edges c.args.self.now.notes (record { source = c.args.source; target = c.args.target; time = c.args.time })) j;
    }
