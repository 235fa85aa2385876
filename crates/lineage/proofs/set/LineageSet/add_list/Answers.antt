use Rattle.std.proofs.Common.{◌∙◌, ap, sym}
use Rattle.std.specs.FinMap.{from_entries, get-from_entries}
use Rattle.std.specs.Option.{option_or}
use Rattle.lineage.specs.inner.Blocks.{found_at}
use Rattle.lineage.proofs.Laws.{row_total}
use Rattle.lineage.proofs.Seen.{roomier_seen, united_seen}
use Rattle.lineage.proofs.set.LineageSet.add_list.Goals as goal

pub returns-clause-ok : goal.returns-clause-ok
returns-clause-ok c =
    united_seen c.make_rows_room.new.blocks c.add_rows.new.blocks c.args.self.now (from_entries c.args.rows.now)
    (roomier_seen c.self.inside.blocks c.make_rows_room.new.blocks c.args.self.now c.self.view_is c.make_rows_room.ensures.roomier)
    (λ q. c.add_rows.ensures.found q ∙ ap (option_or (found_at c.make_rows_room.new.blocks q)) (sym (get-from_entries row_total c.args.rows.now q)))
