use Rattle.std.proofs.Common.{arith}
use Rattle.group_eval.proofs.UnitingLaws.{one_united, all_of_group}
use Rattle.group_eval.proofs.lineages.append_lineages.Goals as goal

pub loop-pick-preserved : goal.loop-pick-preserved
loop-pick-preserved c =
    one_united c.args.group.now c.loop-pick.pick-index c.loop-pick.lineage _ c.loop-pick.invariant c.pick-item.result c.union.new.self c.loop-pick-test.true c.pick-item.is c.in_ok-union.ensures.ok

pub returns : goal.returns
returns c = all_of_group c.args.group.now c.loop-pick.pick-index c.loop-pick.lineage _ c.loop-pick.invariant (omega (arith, c.loop-pick-test.false))
