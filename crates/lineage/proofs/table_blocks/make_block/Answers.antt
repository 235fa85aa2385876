use Rattle.std.proofs.Common.{rules}
use Rattle.lineage.proofs.RoomLaws.{roomier_made}
use Rattle.lineage.proofs.table_blocks.make_block.Goals as goal

pub returns-clause-roomier : goal.returns-clause-roomier
returns-clause-roomier c =
    roomier_made c.args.blocks.now c.insert.new.self c.args.place c.in_ok-block.block (search rules) c.in_ok-insert.ensures.updates
    c.requires c.in_ok-block.ensures.long c.in_ok-block.ensures.words c.in_ok-block.ensures.versions
