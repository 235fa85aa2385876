use Rattle.std.proofs.Common.{◌++◌, ◌∙◌, List, ap, sym}
use Rattle.ldv_value.proofs.Booleans.{true≢false}
use Rattle.table_store.specs.Histories.{last_next_number}
use Rattle.dml_versions.proofs.KeyLaws.{found-none, slot-some, slot-found}
use Rattle.table_store.proofs.StandingRows.{not-there}
use Rattle.dml_versions.specs.inner.Finding.{scope_in, test_in, found_at}
use Rattle.dml_versions.specs.declared.found.Found.{Found}
use Rattle.dml_versions.proofs.finding.found_by_key.Goals as goal

pub by_row_key-requires : goal.by_row_key-requires
by_row_key-requires c = c.requires.fixed.0

pub returns-in-None : goal.returns-in-None
returns-in-None c =
    let table = c.args.table.now in
    c.new-found.ensures
    ∙ sym (found-none table.slots (last_next_number table.nexts) c.tell_order.ensures table.schema.key c.args.key.now.values (test_in table c.args.pick.now)
    (c.requires.fixed.1 (scope_in table) c.requires.placed) c.requires.fixed.0 c.requires.unique (not-there _ c.in-None.ensures))

pub unreachable-requires : goal.unreachable-requires
unreachable-requires c =
    let table = c.args.table.now in
    slot-some table.slots (last_next_number table.nexts) c.tell_order.ensures table.schema.key c.args.key.now.values (test_in table c.args.pick.now)
    (c.requires.fixed.1 (scope_in table) c.requires.placed) c.requires.fixed.0 c.requires.unique c.in-Some.number c.in-Some.ensures c.in-None-slot_of.ensures

pub returns-in_ok-add_found-in-Some-slot_of : goal.returns-in_ok-add_found-in-Some-slot_of
returns-in_ok-add_found-in-Some-slot_of c =
    let table = c.args.table.now in
    c.in_ok-add_found-in-Some-slot_of.ensures
    ∙ ap (λ (l : List Found). l ++ found_at (test_in table c.args.pick.now) table.slots c.in-Some-slot_of.slot) c.new-found.ensures
    ∙ slot-found table.slots (last_next_number table.nexts) c.tell_order.ensures table.schema.key c.args.key.now.values (test_in table c.args.pick.now)
    (c.requires.fixed.1 (scope_in table) c.requires.placed) c.requires.fixed.0 c.requires.unique c.in-Some.number c.in-Some-slot_of.slot c.in-Some.ensures c.in-Some-slot_of.ensures

pub add_found-requires-clause-known : goal.add_found-requires-clause-known
add_found-requires-clause-known c = λ is. absurd (true≢false (sym is))
