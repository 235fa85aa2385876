use Rattle.query_eval.proofs.TableScanLaws.{version-told}
use Rattle.table_store.specs.Histories.{last_next_number}
use Rattle.query_eval.proofs.table_scan.version_of.Goals as goal

pub returns : goal.returns
returns c =
    let table = c.args.table.now in
    version-told table.slots (last_next_number table.nexts) c.tell_order.ensures c.args.slot c.args.number c.version_at.result c.requires c.version_at.ensures
