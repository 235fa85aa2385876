use Rattle.lanes.proofs.BitLaws.{inserted}
use Rattle.lanes.proofs.plain.insert.Goals as goal

pub returns : goal.returns
returns c = inserted c.args.a.now c.args.number c.requires
