use Rattle.std.proofs.Common.{rules, ◌<◌, subst, arith}
use Rattle.std.specs.Prelude.{◌^◌}
use Rattle.table_store.specs.inner.ChildPairs.{is_child}
use Rattle.table_store.specs.inner.ChildSteps.{IsStep}
use Rattle.table_store.specs.Histories.{rows_now}
use Rattle.table_store.specs.declared.references.child_rows.Search.{Search}
use Rattle.table_store.proofs.ChildRowLaws.{start_from}
use Rattle.table_store.proofs.references.child_rows.first_under.Goals as goal

pub numbers-init : goal.numbers-init
numbers-init c = start_from (is_child c.args.given.now c.args.foreign.now c.args.key.now.values) (rows_now c.args.table.now.slots)

pub numbers-preserved : goal.numbers-preserved
numbers-preserved c =
    let rows = rows_now c.args.table.now.slots in
    (subst (λ (s : Search). IsStep (is_child c.args.given.now c.args.foreign.now c.args.key.now.values) rows c.numbers.from s) c.in-GoesOn.is c.in-Ok.ensures).1

pub numbers-smaller : goal.numbers-smaller
numbers-smaller c =
    let rows = rows_now c.args.table.now.slots in
    let both = subst (λ (s : Search). IsStep (is_child c.args.given.now c.args.foreign.now c.args.key.now.values) rows c.numbers.from s) c.in-GoesOn.is c.in-Ok.ensures in
    let few : c.in-GoesOn.next < 2 ^ 32 = search rules in
    omega (arith, both.0, few)

pub returns-in-Ends : goal.returns-in-Ends
returns-in-Ends c =
    let rows = rows_now c.args.table.now.slots in
    subst (λ (s : Search). IsStep (is_child c.args.given.now c.args.foreign.now c.args.key.now.values) rows c.numbers.from s) c.in-Ends.is c.in-Ok.ensures
