use Rattle.std.proofs.Common.{◌∙◌, ap, ℕ, arith, Some, None}
use Rattle.std.specs.Prelude.{if◌then◌else◌, find}
use Rattle.std.specs.Option.{option_map, option_to_list}
use Rattle.std.proofs.Common.{get_or}
use Rattle.sql_model.specs.References.{has_key}
use Rattle.table_store.specs.Types.{TableRow}
use Rattle.table_store.specs.Histories.{no_history, row_now}
use Rattle.table_store.proofs.IndexLaws.{no_slot_has, row_in_slot, number_of_row}
use Rattle.table_store.proofs.keys.index.has_key_at.Goals as goal

pub returns-then-number-gt4294967295-clause-found : goal.returns-then-number-gt4294967295-clause-found
returns-then-number-gt4294967295-clause-found c =
    let order = c.tell_order.ensures.order in
    ap (option_map (λ (row : TableRow). row.number)) (no_slot_has c.args.places.now c.args.key.now c.args.number c.args.rows.now.slots (λ i below same. absurd (omega (arith, order.below i below, same))))

pub returns-in-None-clause-found : goal.returns-in-None-clause-found
returns-in-None-clause-found c =
    ap (option_map (λ (row : TableRow). row.number)) (no_slot_has c.args.places.now c.args.key.now c.args.number c.args.rows.now.slots (c.find.ensures.absent c.in-None.is))

pub returns-in-Some-clause-found : goal.returns-in-Some-clause-found
returns-in-Some-clause-found c =
    let slots = c.args.rows.now.slots in
    let slot = c.in-Some.slot in
    let found = c.in-Some.ensures.found in
    let row = get_or slots slot no_history in
    ap (option_map (λ (one : TableRow). one.number)) (row_in_slot c.args.places.now c.args.key.now c.args.number slots c.args.rows.now.next slot c.tell_order.ensures.order found.0 found.1)
    ∙ number_of_row row c.has_key_in.result (find (has_key c.args.places.now c.args.key.now) (option_to_list (row_now row))) c.has_key_in.ensures.found c.has_key_in.ensures.stands
    ∙ ap (λ (n : ℕ). if c.has_key_in.result then Some n else None) found.1
