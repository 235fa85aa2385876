use Rattle.std.proofs.Common.{refl, length, ◌∙◌, ap}
use Rattle.package_codec.specs.inner.Trace.{asked_after}
use Rattle.ldv_value.proofs.FirstItems.{split_first}
use Rattle.package_codec.proofs.RunTraces.{good_parts, fewer, next_asked}
use Rattle.package_codec.proofs.trace.asked_count.Goals as goal

pub loop-left-preserved : goal.loop-left-preserved
loop-left-preserved c =
    let is = split_first c.loop-left.left.now c.loop-left.left.now c.run-item.result c.in-len1-up.len_at_least c.run-item.is refl in
    let good = good_parts c.loop-left.left.now c.run-item.result _ is c.loop-left.invariant.good in
    record {
      same = next_asked c.loop-left.asked c.asked_after-asked.result c.loop-left.left.now c.run-item.result _ _ is good.0 (c.asked_after-asked.ensures.after ∙ ap (asked_after c.loop-left.asked) c.is_asked.ensures) c.loop-left.invariant.same;
      good = good.1;
      within = fewer c.loop-left.left.now c.run-item.result _ c.loop-left.asked c.asked_after-asked.result (length c.args.runs.now) is c.asked_after-asked.ensures.more c.loop-left.invariant.within;
    }
