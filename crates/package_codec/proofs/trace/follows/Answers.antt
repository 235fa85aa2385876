use Rattle.std.proofs.Common.{refl, length}
use Rattle.package_codec.specs.inner.Trace.{progress_of}
use Rattle.ldv_value.proofs.FirstItems.{split_first}
use Rattle.package_codec.proofs.RunTraces.{good_parts, fewer, next_follows, last_follows}
use Rattle.package_codec.proofs.trace.follows.Goals as goal

pub returns-in_default : goal.returns-in_default
returns-in_default c =
    let is = split_first c.loop-left.left.now c.loop-left.left.now c.run-item.result c.in-len1-up.len_at_least c.run-item.is refl in
    let good = good_parts c.loop-left.left.now c.run-item.result _ is c.loop-left.invariant.good in
    last_follows c.args.steps (progress_of c.loop-left.progress) c.loop-left.left.now c.run-item.result _ _ is good.0 c.in_default.ensures.after c.loop-left.invariant.same

pub loop-left-preserved : goal.loop-left-preserved
loop-left-preserved c =
    let is = split_first c.loop-left.left.now c.loop-left.left.now c.run-item.result c.in-len1-up.len_at_least c.run-item.is refl in
    let good = good_parts c.loop-left.left.now c.run-item.result _ is c.loop-left.invariant.good in
    record {
      same = next_follows c.args.steps (progress_of c.loop-left.progress) (progress_of c.in-Some.after) c.loop-left.left.now c.run-item.result _ _ is good.0 c.in-Some.ensures.after c.loop-left.invariant.same;
      good = good.1;
      made = c.in-Some.ensures.made;
      asked = fewer c.loop-left.left.now c.run-item.result _ c.loop-left.progress.asked c.in-Some.after.asked (length c.args.runs.now) is c.in-Some.ensures.asked c.loop-left.invariant.asked;
    }
