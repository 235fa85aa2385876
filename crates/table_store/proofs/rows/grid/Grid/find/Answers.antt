use Rattle.std.proofs.Common.{ap}
use Rattle.table_store.specs.inner.Grid.{Rows}
use Rattle.table_store.proofs.GridLaws.{found_seen, absent_seen}
use Rattle.table_store.proofs.rows.grid.Grid.find.Goals as goal

pub returns-clause-found : goal.returns-clause-found
returns-clause-found c =
    let a = c.self.inside in
    found_seen a.numbers.items a.since.items a.standing.items a.columns.items c.args.self.now.slots (ap (λ (r : Rows). r.slots) c.self.view_is) c.args.number c.place_in.result c.place_in.ensures.found

pub returns-clause-absent : goal.returns-clause-absent
returns-clause-absent c = λ none.
    let a = c.self.inside in
    absent_seen a.numbers.items a.since.items a.standing.items a.columns.items c.args.self.now.slots (ap (λ (r : Rows). r.slots) c.self.view_is) c.args.number (c.place_in.ensures.absent none)
