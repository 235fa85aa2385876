use Rattle.prov_export.proofs.Kept.{kept_same, kept_other}
use Rattle.prov_export.proofs.reading.graph_if_written.Goals as goal

pub returns-then-same : goal.returns-then-same
returns-then-same c = kept_same c.args.bytes.now c.args.graph c.in_ok-same.same c.requires c.in_ok-same.ensures c.if-same.true

pub returns-else-same : goal.returns-else-same
returns-else-same c = kept_other c.args.bytes.now c.args.graph c.in_ok-same.same c.requires c.in_ok-same.ensures c.if-same.false
