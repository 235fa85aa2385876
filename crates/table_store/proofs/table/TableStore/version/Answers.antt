use Rattle.std.proofs.Common.{◌∙◌, ap, sym}
use Rattle.table_store.specs.Histories.{TableHistory, version_now, history_of_row}
use Rattle.table_store.proofs.TableLaws.{version_here, version_none}
use Rattle.table_store.proofs.table.TableStore.version.Goals as goal

pub returns-in-None : goal.returns-in-None
returns-in-None c =
    let a = c.self.inside in
    sym (version_none a.rows.slots c.args.row (c.find.ensures.absent c.in-None.is)) ∙ ap (λ (t : TableHistory). version_now (history_of_row c.args.row t.slots)) c.self.view_is

pub returns-in-Some : goal.returns-in-Some
returns-in-Some c =
    let a = c.self.inside in
    let found = c.in-Some.ensures.found in
    c.version_in.ensures ∙ sym (version_here a.rows.slots a.rows.next c.tell_order.ensures.order c.args.row c.in-Some.slot found.0 found.1)
    ∙ ap (λ (t : TableHistory). version_now (history_of_row c.args.row t.slots)) c.self.view_is
