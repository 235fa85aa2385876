use Rattle.std.proofs.Common.{◌≡◌, ◌≤◌, ◌^◌, ◌-◌, ◌+◌, ◌<◌, ◌*◌, ℕ, arith}
use Rattle.std.proofs.Math.Pow.{pow_mono}
use Rattle.ready_set.proofs.WayLaws.{up_within, up_small, up_step, up_end}
use Rattle.ready_set.proofs.tree.count_before.Goals as goal

pub count_left_of-total-requires : goal.count_left_of-total-requires
count_left_of-total-requires c =
    let inside : c.loop-level.node < 2 * 2 ^ c.args.height = up_within c.args.height c.args.counts.now c.args.leaf c.loop-level._level c.loop-level.node c.loop-level.total c.loop-level.invariant (omega arith) in
    omega (arith, inside, c.requires.tree.long)

-- no more are counted than there are leaves before
pub overflow_add-total : goal.overflow_add-total
overflow_add-total c =
    let n : ℕ = c.args.leaf - 2 ^ c.args.height in
    let is : c.args.leaf ≡ 2 ^ c.args.height + n = omega (arith, c.requires.from) in
    let few : c.loop-level.total + c.count_left_of-total.result ≤ n = up_small c.args.height c.args.counts.now c.args.leaf c.loop-level._level c.loop-level.node c.loop-level.total c.count_left_of-total.result c.requires.tree c.loop-level.invariant c.loop-level-test.true c.count_left_of-total.ensures.right c.count_left_of-total.ensures.left n is in
    record { fits = omega (arith, few, is, c.requires.within, pow_mono {i = c.args.height} {j = 30} c.requires.low) }

pub loop-level-preserved : goal.loop-level-preserved
loop-level-preserved c = up_step c.args.height c.args.counts.now c.args.leaf c.loop-level._level c.loop-level.node c.loop-level.total c.count_left_of-total.result c.requires.tree c.loop-level.invariant c.loop-level-test.true c.count_left_of-total.ensures.right c.count_left_of-total.ensures.left

pub returns : goal.returns
returns c = up_end c.args.height c.args.counts.now c.args.leaf c.loop-level._level c.loop-level.node c.loop-level.total c.loop-level.invariant (omega arith)
