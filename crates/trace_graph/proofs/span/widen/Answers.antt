use Rattle.std.proofs.Common.{◌∙◌, ap}
use Rattle.indexmap.specs.IndexMap.{insert_entry}
use Rattle.trace_graph.specs.inner.Building.{same_pair}
use Rattle.trace_graph.proofs.span.widen.Goals as goal

pub returns : goal.returns
returns c =
    c.in_ok-insert.ensures.entries
    ∙ ap (insert_entry same_pair c.args.spans.now.entries (c.args.source, c.args.target)) c.span_with.ensures
