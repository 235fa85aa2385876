use Rattle.std.proofs.Common.{◌≡◌, ◌∙◌, ◌<◌, ap, length, arith}
use Rattle.table_store.specs.inner.Grid.{Slot, Rows, slots_of, slot_of, fits_kinds}
use Rattle.table_store.proofs.GridLaws.{in_parts, seen_slot, slots_replaced, grid_replaced, set_seen, fits_columns, fits_width, same_kinds}
use Rattle.table_store.proofs.rows.grid.Grid.set.Goals as goal

pub set_cells-requires-clause-within : goal.set_cells-requires-clause-within
set_cells-requires-clause-within c = λ k below.
    let a = c.self.inside in
    let within : c.args.slot < length a.numbers.items = in_parts a.numbers.items a.since.items a.standing.items a.columns.items c.args.self.now.slots (ap (λ (r : Rows). r.slots) c.self.view_is) c.args.slot c.requires.within in
    omega (arith, within, c.self.invariant.long k below)

pub set_cells-requires-clause-kinds : goal.set_cells-requires-clause-kinds
set_cells-requires-clause-kinds c =
    fits_columns c.self.inside.columns.items c.args.values (ap (λ (r : Rows). fits_kinds r.kinds c.args.values) c.self.view_is ∙ c.requires.kinds)

pub returns : goal.returns
returns c =
    let a = c.self.inside in
    let values = c.args.values in
    let new = c.set_cells.new.columns.items in
    let changed = c.set_cells.ensures.set in
    let slots : slots_of a.numbers.items a.since.items a.standing.items a.columns.items ≡ c.args.self.now.slots = ap (λ (r : Rows). r.slots) c.self.view_is in
    let within : c.args.slot < length a.numbers.items = in_parts a.numbers.items a.since.items a.standing.items a.columns.items c.args.self.now.slots slots c.args.slot c.requires.within in
    let there = slot_of a.numbers.items a.since.items a.standing.items a.columns.items c.args.slot in
    let width : length values ≡ length a.columns.items = fits_width a.columns.items values (ap (λ (r : Rows). fits_kinds r.kinds values) c.self.view_is ∙ c.requires.kinds) in
    let put = slots_replaced a.columns.items values new a.numbers.items a.since.items a.standing.items a.next c.args.slot c.args.since c.self.invariant changed width within
    ∙ set_seen (slots_of a.numbers.items a.since.items a.standing.items a.columns.items) c.args.self.now.slots c.args.slot there (λ (s : Slot). record s { since = c.args.since; values = values }) slots
    (seen_slot a.numbers.items a.since.items a.standing.items a.columns.items c.args.self.now.slots slots c.args.slot within) in
    let kinds = same_kinds a.columns.items values new changed.count changed.kinds ∙ ap (λ (r : Rows). r.kinds) c.self.view_is in
    (λ j. record { slots = put j; kinds = kinds j; next = (ap (λ (r : Rows). r.next) c.self.view_is) j })

pub invariant_of-self : goal.invariant_of-self
invariant_of-self c =
    let a = c.self.inside in
    grid_replaced a.columns.items c.args.values c.set_cells.new.columns.items a.numbers.items a.since.items a.standing.items a.next c.args.slot c.args.since c.self.invariant c.set_cells.ensures.set
