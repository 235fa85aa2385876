use Rattle.std.proofs.Common.{◌∙◌, sym}
use Rattle.table_store.specs.Histories.{rows_now}
use Rattle.table_store.proofs.ChildRowLaws.{by_none, by_some}
use Rattle.table_store.proofs.references.child_rows.first_by.Goals as goal

pub returns-then-not-is_text : goal.returns-then-not-is_text
returns-then-not-is_text c =
    by_none c.args.given.now c.args.target.now c.args.keys.now.keys (rows_now c.args.table.now.slots) c.args.foreign.now (sym c.is_text.ensures.test ∙ c.if-not-is_text.true)

pub returns : goal.returns
returns c =
    c.in_ok-first.ensures
    ∙ by_some c.args.given.now c.args.target.now c.args.keys.now.keys (rows_now c.args.table.now.slots) c.args.foreign.now (sym c.is_text.ensures.test ∙ c.if-not-is_text.false)
