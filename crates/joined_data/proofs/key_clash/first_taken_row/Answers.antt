use Rattle.std.proofs.Common.{◌≡◌, ◌+◌, ◌∙◌, List, true, false, cond, drop, sym, ap}
use Rattle.std.specs.BTreeSet.{contains}
use Rattle.ldv_value.specs.declared.value.Value.{Value}
use Rattle.ldv_value.proofs.Places.{drop_item}
use Rattle.sql_model.specs.Keys.{same_values, values_at}
use Rattle.ldv_value.specs.Order.{values_order}
use Rattle.sql_model.proofs.Seen.{seen_false}
use Rattle.joined_data.specs.inner.TakenKeys.{first_taken_row}
use Rattle.joined_data.proofs.TakenKeys.{one_seen, one_taken, seen_true}
use Rattle.joined_data.proofs.key_clash.first_taken_row.Goals as goal

pub returns-then-not-added : goal.returns-then-not-added
returns-then-not-added c =
    let places = c.args.places.now in
    let rows = c.args.rows.now in
    let i = c.loop-row.row-index in
    let row = c.row-item.result in
    let seen = contains values_order c.loop-row.seen in
    let there : seen (values_at places row.values) ≡ true =
    ap seen (sym c.of.ensures) ∙ seen_true _ _ c.if-not-added.true c.in_ok-added.ensures.added in
    sym (one_taken places seen row (drop (i + 1) rows) there)
    ∙ ap (first_taken_row places seen) (sym (drop_item rows i row c.loop-row-test.true c.row-item.is))
    ∙ c.loop-row.invariant

pub loop-row-preserved : goal.loop-row-preserved
loop-row-preserved c =
    let places = c.args.places.now in
    let rows = c.args.rows.now in
    let i = c.loop-row.row-index in
    let row = c.row-item.result in
    let seen = contains values_order c.loop-row.seen in
    let fresh : seen (values_at places row.values) ≡ false =
    ap seen (sym c.of.ensures) ∙ seen_false _ _ c.if-not-added.false c.in_ok-added.ensures.added in
    one_seen places seen (contains values_order c.insert.new.self) row (drop (i + 1) rows) fresh
    (λ key. c.in_ok-added.ensures.updates.0 key ∙ ap (λ (k : List Value). cond (same_values k key) true (seen key)) c.of.ensures)
    ∙ ap (first_taken_row places seen) (sym (drop_item rows i row c.loop-row-test.true c.row-item.is))
    ∙ c.loop-row.invariant
