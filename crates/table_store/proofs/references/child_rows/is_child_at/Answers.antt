use Rattle.std.proofs.Common.{◌∙◌, sym}
use Rattle.table_store.specs.Histories.{rows_now}
use Rattle.table_store.proofs.ChildRowLaws.{child_not_given, given_no_child}
use Rattle.table_store.proofs.references.child_rows.is_child_at.Goals as goal

pub returns-then-is_given : goal.returns-then-is_given
returns-then-is_given c =
    given_no_child c.args.given.now c.args.foreign.now c.args.key.now.values c.args.number (sym c.is_given.ensures ∙ c.if-is_given.true) (rows_now c.args.table.now.slots)

pub returns : goal.returns
returns c =
    c.in_ok-refers.ensures
    ∙ child_not_given c.args.given.now c.args.foreign.now c.args.key.now.values c.args.number (sym c.is_given.ensures ∙ c.if-is_given.false) (rows_now c.args.table.now.slots)
