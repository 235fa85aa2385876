use Rattle.std.proofs.Common.{◌≡◌, ◌∙◌, ◌<◌, ◌≤◌, ap, sym, subst, ℕ, List, Bool, true, false, cond, Option, Some, None, get_or}
use Rattle.std.specs.Prelude.{nat_le, if◌then◌else◌}
use Rattle.std.proofs.lemmas.Bool.{le-leb, lt-leb}
use Rattle.std.proofs.lemmas.Result.{IfOk-weaker}
use Rattle.row_version.specs.History.{as_of}
use Rattle.table_store.specs.Types.{Value}
use Rattle.table_store.specs.inner.Grid.{Slot, no_slot}
use Rattle.table_store.specs.Histories.{RowHistory, no_history}
use Rattle.table_store.specs.inner.RowHistories.{RowsHistory, past_of, ends_of, is_ended}
use Rattle.table_store.proofs.RowLaws.{row_is, values_at_time}
use Rattle.table_store.proofs.rows.Rows.values_as_of.Goals as goal

pub returns-then-is_ended_by : goal.returns-then-is_ended_by
returns-then-is_ended_by c =
    let a = c.self.inside in
    let at = c.args.slot in
    let time = c.args.time in
    let slot : Slot = get_or a.grid.slots at no_slot in
    let row = row_is (past_of a) (ends_of a) a.grid.slots c.self.invariant c.args.self.now.slots (ap (λ (r : RowsHistory). r.slots) c.self.view_is) at c.requires in
    let over : is_ended (ends_of a at) time ≡ true = ap (λ (n : ℕ). is_ended n time) (sym c.end_at.ensures) ∙ sym c.is_ended_by.ensures ∙ c.if-is_ended_by.true in
    sym (ap (λ (h : RowHistory). as_of h.changes time) row
    ∙ values_at_time (past_of a at) (ends_of a at) slot time
    ∙ ap (λ b. cond b None (cond (nat_le slot.since time) (Some slot.values) (as_of (past_of a at) time))) over)

pub returns-then-since-time : goal.returns-then-since-time
returns-then-since-time c =
    let a = c.self.inside in
    let at = c.args.slot in
    let time = c.args.time in
    let slot : Slot = get_or a.grid.slots at no_slot in
    let row = row_is (past_of a) (ends_of a) a.grid.slots c.self.invariant c.args.self.now.slots (ap (λ (r : RowsHistory). r.slots) c.self.view_is) at c.requires in
    let not_over : is_ended (ends_of a at) time ≡ false = ap (λ (n : ℕ). is_ended n time) (sym c.end_at.ensures) ∙ sym c.is_ended_by.ensures ∙ c.if-is_ended_by.false in
    let late : nat_le slot.since time ≡ true = le-leb slot.since time (subst (λ (n : ℕ). n ≤ time) c.since.ensures c.if-since-time.true) in
    ap (λ (l : List Value). Some l) c.in_ok-copy.ensures
    ∙ sym (ap (λ (h : RowHistory). as_of h.changes time) row
    ∙ values_at_time (past_of a at) (ends_of a at) slot time
    ∙ ap (λ b. cond b None (cond (nat_le slot.since time) (Some slot.values) (as_of (past_of a at) time))) not_over
    ∙ ap (λ b. cond b (Some slot.values) (as_of (past_of a at) time)) late)

pub returns : goal.returns
returns c =
    let a = c.self.inside in
    let at = c.args.slot in
    let time = c.args.time in
    let slot : Slot = get_or a.grid.slots at no_slot in
    let row = row_is (past_of a) (ends_of a) a.grid.slots c.self.invariant c.args.self.now.slots (ap (λ (r : RowsHistory). r.slots) c.self.view_is) at c.requires in
    let not_over : is_ended (ends_of a at) time ≡ false = ap (λ (n : ℕ). is_ended n time) (sym c.end_at.ensures) ∙ sym c.is_ended_by.ensures ∙ c.if-is_ended_by.false in
    let early : nat_le slot.since time ≡ false = lt-leb slot.since time (subst (λ (n : ℕ). time < n) c.since.ensures c.if-since-time.false) in
    let whole : as_of (get_or c.args.self.now.slots at no_history).changes time ≡ as_of (past_of a at) time =
    ap (λ (h : RowHistory). as_of h.changes time) row
    ∙ values_at_time (past_of a at) (ends_of a at) slot time
    ∙ ap (λ b. cond b None (cond (nat_le slot.since time) (Some slot.values) (as_of (past_of a at) time))) not_over
    ∙ ap (λ b. cond b (Some slot.values) (as_of (past_of a at) time)) early in
    IfOk-weaker c.earlier_values.result (λ values. values ≡ as_of (past_of a at) time) (λ values. values ≡ as_of (get_or c.args.self.now.slots at no_history).changes time) (λ values is. is ∙ sym whole) c.earlier_values.ensures
