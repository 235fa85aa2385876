use Rattle.std.proofs.Common.{rules, ◌≡◌, ◌-◌, length, refl, sym, ◌∙◌, take, drop, true}
use Rattle.ldv_value.proofs.Booleans.{not-false}
use Rattle.package_codec.specs.Runs.{is_run, stops_before}
use Rattle.ldv_value.proofs.FirstItems.{split_first}
use Rattle.package_codec.proofs.RunFields.{good_next}
use Rattle.package_codec.proofs.trace.run_rules.are_good.Goals as goal

pub loop-left-preserved : goal.loop-left-preserved
loop-left-preserved c =
    let run : is_run c.run-item.result ≡ true = search rules in
    let stops : stops_before c.run-item.result (take (length c.loop-left.left.now - 1) (drop 1 c.loop-left.left.now)) ≡ true = not-false _ (sym c.goes_on.ensures ∙ c.if-goes_on.false) in
    record {
      same = good_next c.loop-left.left.now c.run-item.result _ _
          (split_first c.loop-left.left.now c.loop-left.left.now c.run-item.result c.in-len1-up.len_at_least c.run-item.is refl)
          run stops c.loop-left.invariant.same;
    }
