use Rattle.std.proofs.Common.{◌∙◌, ap, ◌%◌}
use Rattle.std.specs.Option.{option_or}
use Rattle.lineage.specs.inner.Blocks.{block_of, found_at}
use Rattle.lineage.proofs.Seen.{roomier_seen, united_seen, seen_in}
use Rattle.lineage.proofs.set.LineageSet.union.Goals as goal

pub returns-clause-ok : goal.returns-clause-ok
returns-clause-ok c =
    united_seen c.make_blocks_room.new.blocks c.unite.new.blocks c.args.self.now c.args.other.now
    (roomier_seen c.self.inside.blocks c.make_blocks_room.new.blocks c.args.self.now c.self.view_is c.make_blocks_room.ensures.roomier)
    (λ q. c.unite.ensures.found (block_of q) (q.1 % 65536)
    ∙ ap (option_or (found_at c.make_blocks_room.new.blocks q)) (seen_in c.other.inside.blocks c.args.other.now c.other.view_is q))
