use Rattle.std.proofs.Common.{◌∙◌, get_or}
use Rattle.table_store.specs.Histories.{last_next_number, no_history, row_now}
use Rattle.table_store.proofs.ChildLaws.{key_absent, key_by, key_here}
use Rattle.table_store.proofs.references.children.key_at.Goals as goal

pub returns-in-None : goal.returns-in-None
returns-in-None c = λ key.
    let h = c.args.held.now in
    key_absent h.schema.key key c.args.number h.slots (last_next_number h.nexts) c.tell_order.ensures c.in-None.ensures

pub returns-in_ok-found-in-Some : goal.returns-in_ok-found-in-Some
returns-in_ok-found-in-Some c = λ key.
    let h = c.args.held.now in
    let slot = c.in-Some.slot in
    key_by h.schema.key key c.args.number c.in_ok-found-in-Some.found (row_now (get_or h.slots slot no_history)) c.in_ok-found-in-Some.ensures
    ∙ key_here h.schema.key key c.args.number h.slots (last_next_number h.nexts) c.tell_order.ensures slot c.in-Some.ensures
