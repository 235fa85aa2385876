use Rattle.std.proofs.Common.{◌∙◌, ◌+◌, ap, sym, ℕ, arith}
use Rattle.std.specs.Prelude.{◌/◌}
use Rattle.table_store.specs.inner.RowHistories.{RowsHistory, past_of, ends_of}
use Rattle.table_store.proofs.RowLaws.{rows_len, standing_is}
use Rattle.table_store.proofs.rows.Rows.standing_slots.Goals as goal

pub returns-clause-members : goal.returns-clause-members
returns-clause-members c = λ n.
    let a = c.self.inside in
    c.standing_slots.ensures.members n
    ∙ standing_is (past_of a) (ends_of a) a.grid.slots c.self.invariant c.args.self.now.slots (ap (λ (r : RowsHistory). r.slots) c.self.view_is) n

pub returns-clause-long : goal.returns-clause-long
returns-clause-long c =
    let a = c.self.inside in
    c.standing_slots.ensures.long
    ∙ ap (λ (n : ℕ). (n + 63) / 64) (sym (rows_len (past_of a) (ends_of a) a.grid.slots c.self.invariant c.args.self.now.slots (ap (λ (r : RowsHistory). r.slots) c.self.view_is)))

pub returns-clause-few : goal.returns-clause-few
returns-clause-few c =
    let a = c.self.inside in
    let long = rows_len (past_of a) (ends_of a) a.grid.slots c.self.invariant c.args.self.now.slots (ap (λ (r : RowsHistory). r.slots) c.self.view_is) in
    omega (arith, long, c.len-len.ensures.few, c.tell_order.ensures.small)
