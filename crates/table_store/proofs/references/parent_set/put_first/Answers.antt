use Rattle.std.proofs.Common.{◌∙◌, sym}
use Rattle.table_store.proofs.ParentSetLaws.{key_added, key_stays}
use Rattle.table_store.proofs.references.parent_set.put_first.Goals as goal

pub returns-then-contains_key : goal.returns-then-contains_key
returns-then-contains_key c = key_stays c.args.key.now c.args.given.now c.args.row.now (sym c.contains_key.ensures ∙ c.if-contains_key.true)

pub returns : goal.returns
returns c =
    key_added c.args.key.now c.args.given.now c.args.row.now c.insert.new.self c.in_ok-made.made (sym c.contains_key.ensures ∙ c.if-contains_key.false)
    c.in_ok-made.ensures c.in_ok-insert.ensures.updates
