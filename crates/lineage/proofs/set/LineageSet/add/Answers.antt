use Rattle.lineage.proofs.Seen.{roomier_seen, added_seen}
use Rattle.lineage.proofs.set.LineageSet.add.Goals as goal

pub returns-clause-ok : goal.returns-clause-ok
returns-clause-ok c =
    added_seen c.make_row_room.new.blocks c.add_row.new.blocks c.args.self.now (c.args.table, c.args.row) c.args.version
    (roomier_seen c.self.inside.blocks c.make_row_room.new.blocks c.args.self.now c.self.view_is c.make_row_room.ensures.roomier) c.add_row.ensures.found
