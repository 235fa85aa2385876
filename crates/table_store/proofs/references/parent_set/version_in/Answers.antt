use Rattle.std.proofs.Common.{◌∙◌, ap, sym, is_some}
use Rattle.ldv_value.proofs.Booleans.{true≢false}
use Rattle.table_store.specs.Histories.{last_next_number}
use Rattle.table_store.proofs.ParentLaws.{stands_is}
use Rattle.table_store.proofs.references.parent_set.version_in.Goals as goal

pub returns-in-None-clause-stands : goal.returns-in-None-clause-stands
returns-in-None-clause-stands c = λ stands.
    let table = c.args.table.now in
    absurd (true≢false (sym stands ∙ stands_is table.slots (last_next_number table.nexts) c.tell_order.ensures c.args.row ∙ ap is_some (sym c.version.ensures ∙ c.in-None.is)))

pub returns-in-Some-clause-stands : goal.returns-in-Some-clause-stands
returns-in-Some-clause-stands c = λ stands. sym c.version.ensures ∙ c.in-Some.is
