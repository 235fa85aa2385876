use Rattle.std.proofs.Common.{ap, get_or}
use Rattle.std.specs.Option.{option_map}
use Rattle.table_store.specs.inner.Afterwards.{in_set}
use Rattle.table_store.specs.Histories.{no_history, table_now}
use Rattle.table_store.specs.Referring.{child_stop}
use Rattle.table_store.specs.Stops.{is_among}
use Rattle.table_store.proofs.ChildLaws.{gone_slot}
use Rattle.table_store.proofs.references.children.child_at.Goals as goal

pub returns-in-None : goal.returns-in-None
returns-in-None c =
    let h = c.args.table.now in
    ap (option_map child_stop) (gone_slot c.args.target.now (in_set c.args.lost.now) (table_now h) (get_or h.slots c.args.slot no_history) (is_among c.args.numbers.now) c.in-None.ensures)
