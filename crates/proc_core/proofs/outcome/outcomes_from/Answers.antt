use Rattle.std.proofs.Common.{◌≡◌, length, rules}
use Rattle.proc_core.proofs.Outcomes.{outcome_taken, outcomes_taken}
use Rattle.proc_core.proofs.outcome.outcomes_from.Goals as goal

pub loop-process-preserved : goal.loop-process-preserved
loop-process-preserved c =
    outcome_taken c.loop-process.outcomes.items c.push.new.self.items c.loop-process.left.items c.pop.new.self.items
    c.in-Some.process c.outcome_from_process.result _ c.in-Some.ensures.items c.outcome_from_process.ensures
    c.in_ok-push.ensures.items c.loop-process.invariant

pub returns : goal.returns
returns c =
    let none : length c.loop-process.left.items ≡ 0 = search rules in
    outcomes_taken c.loop-process.outcomes.items c.loop-process.left.items _ none c.loop-process.invariant
