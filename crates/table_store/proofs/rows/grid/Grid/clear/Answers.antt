use Rattle.std.proofs.Common.{◌≡◌, ◌∙◌, ◌<◌, ap, length, List, Bool, false, arith}
use Rattle.table_store.specs.inner.Grid.{Slot, Rows, slots_of, slot_of}
use Rattle.table_store.proofs.GridLaws.{in_parts, seen_slot, slots_cleared, set_seen}
use Rattle.table_store.proofs.rows.grid.Grid.clear.Goals as goal

pub set-requires : goal.set-requires
set-requires c =
    let a = c.self.inside in
    let within : c.args.slot < length a.numbers.items = in_parts a.numbers.items a.since.items a.standing.items a.columns.items c.args.self.now.slots (ap (λ (r : Rows). r.slots) c.self.view_is) c.args.slot c.requires in
    omega (arith, within, c.self.invariant.stands)

pub returns : goal.returns
returns c =
    let a = c.self.inside in
    let slots : slots_of a.numbers.items a.since.items a.standing.items a.columns.items ≡ c.args.self.now.slots = ap (λ (r : Rows). r.slots) c.self.view_is in
    let within : c.args.slot < length a.numbers.items = in_parts a.numbers.items a.since.items a.standing.items a.columns.items c.args.self.now.slots slots c.args.slot c.requires in
    let there = slot_of a.numbers.items a.since.items a.standing.items a.columns.items c.args.slot in
    let gone = ap (λ (l : List Bool). slots_of a.numbers.items a.since.items l a.columns.items) c.set.ensures.items
    ∙ slots_cleared a.numbers.items a.since.items a.standing.items a.columns.items c.args.slot c.self.invariant.stands within
    ∙ set_seen (slots_of a.numbers.items a.since.items a.standing.items a.columns.items) c.args.self.now.slots c.args.slot there (λ (s : Slot). record s { stands = false }) slots
    (seen_slot a.numbers.items a.since.items a.standing.items a.columns.items c.args.self.now.slots slots c.args.slot within) in
    (λ j. record { slots = gone j; kinds = (ap (λ (r : Rows). r.kinds) c.self.view_is) j; next = (ap (λ (r : Rows). r.next) c.self.view_is) j })
