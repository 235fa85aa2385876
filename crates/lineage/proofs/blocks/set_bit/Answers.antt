use Rattle.lanes.proofs.BitLaws.{inserted}
use Rattle.lineage.proofs.blocks.set_bit.Goals as goal

pub returns-clause-bits : goal.returns-clause-bits
returns-clause-bits c = inserted c.args.words.now c.args.number c.requires
