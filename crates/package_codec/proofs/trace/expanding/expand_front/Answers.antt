use Rattle.std.proofs.Common.{rules, ◌++◌, ◌+◌, ◌-◌, ◌<◌, ◌≤◌, List, refl, ap, ◌∙◌, map, arith}
use Rattle.run_model.specs.declared.event.Event.{Event}
use Rattle.package_codec.specs.declared.trace.event_run.EventRun.{EventRun}
use Rattle.package_codec.specs.Runs.{at_step, steps_from}
use Rattle.package_codec.proofs.RunFields.{small_first, small_next, step_next, expand_next, expand_last}
use Rattle.package_codec.proofs.trace.expanding.expand_front.Goals as goal
use Rattle.package_codec.proofs.Runs.{run_some}

pub loop-left-init : goal.loop-left-init
loop-left-init c =
    let r : EventRun = c.args.run.now in
    record { some = run_some r c.requires; within = omega (arith); small = small_first r c.requires; due = refl }

pub overflow_add-at : goal.overflow_add-at
overflow_add-at c =
    let more : 1 < c.loop-left.left = search rules in
    let less = step_next c.loop-left.at c.args.run.now.stride c.loop-left.left more c.loop-left.invariant.small in
    omega (arith, less)

pub loop-left-preserved : goal.loop-left-preserved
loop-left-preserved c =
    let more : 1 < c.loop-left.left = search rules in
    record {
      some = omega (arith, more);
      within = omega (arith, c.loop-left.invariant.within);
      small = small_next c.loop-left.at c.args.run.now.stride c.loop-left.left more c.loop-left.invariant.small;
      due = ap (λ (l : List Event). l ++ map (at_step c.args.run.now.first) (steps_from (c.loop-left.at + c.args.run.now.stride) c.args.run.now.stride (c.loop-left.left - 1))) (search rules)
          ∙ expand_next c.args.run.now.first c.loop-left.to _ c.loop-left.at c.args.run.now.stride c.loop-left.left more c.loop-left.invariant.due;
    }

pub returns : goal.returns
returns c =
    let last : c.loop-left.left ≤ 1 = search rules in
    expand_last c.args.run.now.first c.loop-left.to _ c.loop-left.at c.args.run.now.stride c.loop-left.left c.loop-left.invariant.some last c.loop-left.invariant.due
