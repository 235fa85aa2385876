use Rattle.std.proofs.Common.{◌∙◌, ap}
use Rattle.table_store.specs.inner.RowHistories.{RowsHistory, past_of, ends_of}
use Rattle.table_store.proofs.RowLaws.{stands_is}
use Rattle.table_store.proofs.rows.Rows.stands.Goals as goal

pub returns : goal.returns
returns c =
    let a = c.self.inside in
    c.stands.ensures
    ∙ stands_is (past_of a) (ends_of a) a.grid.slots c.self.invariant c.args.self.now.slots (ap (λ (r : RowsHistory). r.slots) c.self.view_is) c.args.slot c.requires
