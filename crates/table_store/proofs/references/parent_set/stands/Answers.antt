use Rattle.std.proofs.Common.{◌∙◌, ap, sym, is_some}
use Rattle.table_store.specs.Histories.{last_next_number}
use Rattle.table_store.proofs.ParentLaws.{stands_is}
use Rattle.table_store.proofs.references.parent_set.stands.Goals as goal

pub returns : goal.returns
returns c =
    let own = c.args.own.now in
    c.is_some.ensures ∙ ap is_some c.version.ensures ∙ sym (stands_is own.slots (last_next_number own.nexts) c.tell_order.ensures c.args.number)
