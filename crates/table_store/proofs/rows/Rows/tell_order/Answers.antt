use Rattle.std.proofs.Common.{ap, ℕ, subst}
use Rattle.table_store.specs.inner.RowHistories.{RowsHistory, past_of, ends_of}
use Rattle.table_store.specs.RowOrder.{AreInOrder}
use Rattle.table_store.proofs.RowLaws.{in_order}
use Rattle.table_store.proofs.rows.Rows.tell_order.Goals as goal

pub returns-clause-order : goal.returns-clause-order
returns-clause-order c =
    let a = c.self.inside in
    subst (λ (n : ℕ). AreInOrder c.args.self.now.slots n) (ap (λ (r : RowsHistory). r.next) c.self.view_is)
    (in_order (past_of a) (ends_of a) a.grid.slots c.self.invariant c.args.self.now.slots (ap (λ (r : RowsHistory). r.slots) c.self.view_is) a.grid.next c.tell_order.ensures.rising c.tell_order.ensures.below)
