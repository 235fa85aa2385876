use Rattle.std.proofs.Common.{rules, ◌≡◌, ◌∙◌, ap, List, ◌++◌, map, Bool}
use Rattle.column_store.specs.Columns.{kinds_of}
use Rattle.table_store.specs.inner.Grid.{Rows, Slot, are_of_kinds, new_slot, next_after, slots_of}
use Rattle.table_store.proofs.rows.grid.Grid.push_all.Goals as goal

pub invariant_of-self : goal.invariant_of-self
invariant_of-self c = c.reserve_rows.ensures.grid c.self.inside.next c.self.invariant

pub returns-in_err-reserve_rows-clause-err : goal.returns-in_err-reserve_rows-clause-err
returns-in_err-reserve_rows-clause-err c =
    let new = c.reserve_rows.new in
    let whole : record { slots = slots_of new.numbers.items new.since.items new.standing.items new.columns.items; kinds = kinds_of new.columns.items; next = c.self.inside.next } ≡ c.args.self.now =
    (λ j. record { slots = c.reserve_rows.ensures.slots j; kinds = c.reserve_rows.ensures.kinds j; next = c.self.inside.next }) ∙ c.self.view_is in
    search (rules, whole)

pub push_rows-requires-clause-grid : goal.push_rows-requires-clause-grid
push_rows-requires-clause-grid c = c.reserve_rows.ensures.grid c.self.inside.next c.self.invariant

pub push_rows-requires-clause-kinds : goal.push_rows-requires-clause-kinds
push_rows-requires-clause-kinds c =
    ap (λ (kinds : List Bool). are_of_kinds kinds c.args.rows) (c.reserve_rows.ensures.kinds ∙ ap (λ (r : Rows). r.kinds) c.self.view_is) ∙ c.requires.kinds

pub returns-clause-ok : goal.returns-clause-ok
returns-clause-ok c =
    let slots = c.push_rows.ensures.slots ∙ ap (λ (l : List Slot). l ++ map (new_slot c.args.since) c.args.rows) (c.reserve_rows.ensures.slots ∙ ap (λ (r : Rows). r.slots) c.self.view_is) in
    let kinds = c.push_rows.ensures.kinds ∙ c.reserve_rows.ensures.kinds ∙ ap (λ (r : Rows). r.kinds) c.self.view_is in
    let next = c.in_ok-self-inside.ensures.next ∙ ap (λ (r : Rows). next_after r.next c.args.rows) c.self.view_is in
    (λ j. record { slots = slots j; kinds = kinds j; next = next j })
