use Rattle.std.proofs.Common.{◌∙◌, sym, get_or}
use Rattle.std.proofs.lemmas.Bool.{eqb-true}
use Rattle.std.proofs.lemmas.List.Quantifiers.{position-Some}
use Rattle.ldv_value.proofs.Options.{none-some}
use Rattle.table_store.specs.inner.ChildPairs.{refers}
use Rattle.table_store.specs.Histories.{is_of_number, last_next_number, no_history}
use Rattle.table_store.proofs.ChildRowLaws.{none_of_number, row_of_number}
use Rattle.table_store.proofs.TableLaws.{slot_here_is}
use Rattle.table_store.proofs.references.child_rows.refers_at.Goals as goal

pub returns-in-None : goal.returns-in-None
returns-in-None c =
    let h = c.args.table.now in
    sym (none_of_number (refers c.args.foreign.now c.args.key.now.values) c.args.number h.slots
    (λ i below same. none-some i (c.in-None.ensures ∙ slot_here_is h.slots (last_next_number h.nexts) c.tell_order.ensures c.args.number i below same)))

pub returns-in_ok-refers-in-Some : goal.returns-in_ok-refers-in-Some
returns-in_ok-refers-in-Some c =
    let h = c.args.table.now in
    let slot = c.in-Some.slot in
    let at = position-Some (is_of_number c.args.number) h.slots slot no_history (sym c.in-Some.ensures) in
    c.in_ok-refers-in-Some.ensures
    ∙ sym (row_of_number (refers c.args.foreign.now c.args.key.now.values) c.args.number h.slots (last_next_number h.nexts) slot c.tell_order.ensures at.0 (eqb-true (get_or h.slots slot no_history).number c.args.number at.1))
