use Rattle.std.proofs.Common.{◌≡◌, ◌∙◌, ◌+◌, ◌/◌, ap, sym, ℕ, List, length, get_or}
use Rattle.lanes.specs.Sets.{member}
use Rattle.table_store.specs.inner.Grid.{Slot, Rows, no_slot}
use Rattle.table_store.proofs.GridLaws.{seen_len, standing_slot}
use Rattle.table_store.proofs.rows.grid.Grid.standing_slots.Goals as goal

pub returns-clause-long : goal.returns-clause-long
returns-clause-long c =
    let a = c.self.inside in
    let long : length a.standing.items ≡ length c.args.self.now.slots = c.self.invariant.stands
    ∙ sym (seen_len a.numbers.items a.since.items a.standing.items a.columns.items c.args.self.now.slots (ap (λ (r : Rows). r.slots) c.self.view_is)) in
    c.words.ensures.count ∙ ap (λ (n : ℕ). (n + 63) / 64) long

pub returns-clause-members : goal.returns-clause-members
returns-clause-members c = λ n.
    let a = c.self.inside in
    standing_slot a.numbers.items a.since.items a.standing.items a.columns.items c.self.invariant.stands n (member c.words.result.now n) (c.words.ensures.bits n) (c.words.ensures.clear n)
    ∙ ap (λ (r : Rows). (get_or r.slots n no_slot).stands) c.self.view_is
