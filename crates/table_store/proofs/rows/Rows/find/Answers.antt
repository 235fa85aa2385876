use Rattle.std.proofs.Common.{ap}
use Rattle.table_store.specs.inner.RowHistories.{RowsHistory, past_of, ends_of}
use Rattle.table_store.proofs.RowLaws.{found_row, absent_row}
use Rattle.table_store.proofs.rows.Rows.find.Goals as goal

pub returns-clause-found : goal.returns-clause-found
returns-clause-found c =
    let a = c.self.inside in
    found_row (past_of a) (ends_of a) a.grid.slots c.self.invariant c.args.self.now.slots (ap (λ (r : RowsHistory). r.slots) c.self.view_is) c.args.number c.find.result c.find.ensures.found

pub returns-clause-absent : goal.returns-clause-absent
returns-clause-absent c = λ none.
    let a = c.self.inside in
    absent_row (past_of a) (ends_of a) a.grid.slots c.self.invariant c.args.self.now.slots (ap (λ (r : RowsHistory). r.slots) c.self.view_is) c.args.number (c.find.ensures.absent none)
