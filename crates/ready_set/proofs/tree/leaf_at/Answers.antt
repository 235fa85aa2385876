use Rattle.std.proofs.Common.{◌<◌, ◌^◌, arith}
use Rattle.std.proofs.Math.Pow.{pow_mono}
use Rattle.ready_set.proofs.WayLaws.{down_inner, down_step, down_end}
use Rattle.ready_set.proofs.tree.leaf_at.Goals as goal

pub child_of-place-requires-clause-within : goal.child_of-place-requires-clause-within
child_of-place-requires-clause-within c =
    let inner : c.loop-level.place.node < 2 ^ c.args.height = down_inner c.args.height c.args.counts.now c.args.k c.loop-level._level c.loop-level.place.node c.loop-level.place.before c.loop-level.invariant c.loop-level-test.true in
    omega (arith, inner, c.requires.tree.long)

pub child_of-place-requires-clause-few : goal.child_of-place-requires-clause-few
child_of-place-requires-clause-few c =
    let inner : c.loop-level.place.node < 2 ^ c.args.height = down_inner c.args.height c.args.counts.now c.args.k c.loop-level._level c.loop-level.place.node c.loop-level.place.before c.loop-level.invariant c.loop-level-test.true in
    omega (arith, inner, pow_mono {i = c.args.height} {j = 30} c.requires.low)

pub loop-level-preserved : goal.loop-level-preserved
loop-level-preserved c = down_step c.args.height c.args.counts.now c.args.k c.loop-level._level c.loop-level.place.node c.loop-level.place.before c.child_of-place.result.node c.child_of-place.result.before c.requires.tree c.loop-level.invariant c.loop-level-test.true c.child_of-place.ensures.left c.child_of-place.ensures.right

pub returns-clause-before : goal.returns-clause-before
returns-clause-before c = (down_end c.args.height c.args.counts.now c.args.k c.loop-level._level c.loop-level.place.node c.loop-level.place.before c.requires.tree c.loop-level.invariant (omega arith)).before
