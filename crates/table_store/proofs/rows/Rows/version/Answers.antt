use Rattle.std.proofs.Common.{◌≡◌, ◌==◌, ◌∙◌, ◌+◌, ◌<◌, ap, sym, ℕ, true, false, length, get_or}
use Rattle.std.proofs.lemmas.Bool.{eqb-true, eqb-false}
use Rattle.row_version.specs.History.{version}
use Rattle.table_store.specs.inner.Grid.{Slot, no_slot}
use Rattle.table_store.specs.Histories.{RowHistory}
use Rattle.table_store.specs.inner.RowHistories.{RowsHistory, past_of, ends_of}
use Rattle.table_store.proofs.RowLaws.{in_slots, row_is, version_open, version_ended}
use Rattle.table_store.proofs.rows.Rows.version.Goals as goal

pub returns-then-stands : goal.returns-then-stands
returns-then-stands c =
    let a = c.self.inside in
    let at = c.args.slot in
    let slot : Slot = get_or a.grid.slots at no_slot in
    let inside : at < length a.grid.slots = in_slots (past_of a) (ends_of a) a.grid.slots c.self.invariant c.args.self.now.slots (ap (λ (r : RowsHistory). r.slots) c.self.view_is) at c.requires in
    let row = row_is (past_of a) (ends_of a) a.grid.slots c.self.invariant c.args.self.now.slots (ap (λ (r : RowsHistory). r.slots) c.self.view_is) at c.requires in
    let stands : (ends_of a at == 0) ≡ true = sym (c.self.invariant.stands at inside) ∙ sym c.stands.ensures ∙ c.if-stands.true in
    c.count-earlier.ensures
    ∙ sym (ap (λ (h : RowHistory). version h.changes) row ∙ version_open (past_of a at) (ends_of a at) slot (eqb-true (ends_of a at) 0 stands))

pub returns-else-stands : goal.returns-else-stands
returns-else-stands c =
    let a = c.self.inside in
    let at = c.args.slot in
    let slot : Slot = get_or a.grid.slots at no_slot in
    let inside : at < length a.grid.slots = in_slots (past_of a) (ends_of a) a.grid.slots c.self.invariant c.args.self.now.slots (ap (λ (r : RowsHistory). r.slots) c.self.view_is) at c.requires in
    let row = row_is (past_of a) (ends_of a) a.grid.slots c.self.invariant c.args.self.now.slots (ap (λ (r : RowsHistory). r.slots) c.self.view_is) at c.requires in
    let over : (ends_of a at == 0) ≡ false = sym (c.self.invariant.stands at inside) ∙ sym c.stands.ensures ∙ c.if-stands.false in
    ap (λ (n : ℕ). n + 1) c.count-earlier.ensures
    ∙ sym (ap (λ (h : RowHistory). version h.changes) row ∙ version_ended (past_of a at) (ends_of a at) slot (eqb-false (ends_of a at) 0 over))
