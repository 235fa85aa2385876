use Rattle.std.proofs.Common.{◌<◌, subst, sym, ℕ}
use Rattle.std.specs.Prelude.{◌^◌}
use Rattle.table_store.specs.Histories.{TableHistory, last_next_number}
use Rattle.table_store.proofs.table.TableStore.tell_small.Goals as goal

pub returns : goal.returns
returns c =
    let a = c.self.inside in
    subst (λ (t : TableHistory). last_next_number t.nexts < 2 ^ 32) c.self.view_is
    (subst (λ (n : ℕ). n < 2 ^ 32) (sym c.self.invariant.next) c.tell_order.ensures.small)
