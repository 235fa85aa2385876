use Rattle.std.proofs.Common.{sym, subst, ℕ}
use Rattle.table_store.specs.Histories.{TableHistory, last_next_number}
use Rattle.table_store.specs.inner.Nexts.{nexts_of}
use Rattle.table_store.specs.RowOrder.{AreInOrder}
use Rattle.table_store.proofs.table.TableStore.tell_order.Goals as goal

pub returns : goal.returns
returns c =
    let a = c.self.inside in
    let order : AreInOrder a.rows.slots (last_next_number (nexts_of a.nexts.items)) = subst (λ (n : ℕ). AreInOrder a.rows.slots n) (sym c.self.invariant.next) c.tell_order.ensures.order in
    subst (λ (t : TableHistory). AreInOrder t.slots (last_next_number t.nexts)) c.self.view_is order
