use Rattle.std.proofs.Common.{◌≡◌, ◌∙◌, sym, subst, ℕ, List, Bool, [], ◌<◌}
use Rattle.table_store.specs.inner.Grid.{IsGrid, slots_of}
use Rattle.table_store.proofs.GridLaws.{grid_same, same_kinds, slots_same}
use Rattle.table_store.proofs.rows.push.reserve_rows.Goals as goal

pub returns-clause-grid : goal.returns-clause-grid
returns-clause-grid c = λ next grid.
    let made = c.reserve_parts.ensures in
    let numbers = c.reserve_parts.new.numbers.items in
    let since = c.reserve_parts.new.since.items in
    let new = c.reserve_parts.new.columns.items in
    subst (λ (l : List Bool). IsGrid numbers since l new next) (sym made.standing)
    (subst (λ (l : List ℕ). IsGrid numbers l c.args.standing.now.items new next) (sym made.since)
    (subst (λ (l : List ℕ). IsGrid l c.args.since.now.items c.args.standing.now.items new next) (sym made.numbers)
    (grid_same c.args.columns.now.items [] new c.args.numbers.now.items c.args.since.now.items c.args.standing.now.items next grid made.count made.cells)))

pub returns-clause-slots : goal.returns-clause-slots
returns-clause-slots c =
    let made = c.reserve_parts.ensures in
    let new = c.reserve_parts.new.columns.items in
    (λ j. slots_of (made.numbers j) (made.since j) (made.standing j) new)
    ∙ slots_same c.args.columns.now.items [] new c.args.numbers.now.items c.args.since.now.items c.args.standing.now.items made.count made.cells

pub returns-clause-kinds : goal.returns-clause-kinds
returns-clause-kinds c = same_kinds c.args.columns.now.items [] c.reserve_parts.new.columns.items c.reserve_parts.ensures.count c.reserve_parts.ensures.kinds
