use Rattle.lineage.proofs.Seen.{none_seen}
use Rattle.lineage.proofs.set.LineageSet.empty.Goals as goal

pub returns : goal.returns
returns c = none_seen c.new.result c.new.ensures.empty
