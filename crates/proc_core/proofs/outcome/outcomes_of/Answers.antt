use Rattle.std.proofs.Common.{◌≡◌, ◌∙◌, ap, map, reverse}
use Rattle.std.proofs.lemmas.List.{take_all}
use Rattle.proc_core.specs.inner.SlotOutcome.{slot_outcome}
use Rattle.proc_core.proofs.Outcomes.{reversed}
use Rattle.proc_core.proofs.outcome.outcomes_of.Goals as goal

pub returns : goal.returns
returns c =
    let all : c.loop-process.outcomes.items ≡ map slot_outcome c.args.processes.now =
    c.loop-process.invariant ∙ ap (map slot_outcome) (take_all c.loop-process.process-index c.args.processes.now c.loop-process-test.false) in
    c.reverse.ensures.items ∙ ap reverse all ∙ reversed c.args.processes.now
