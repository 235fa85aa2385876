use Rattle.std.proofs.Common.{◌∙◌, slice_set}
use Rattle.proc_core.proofs.Begins.{front_set, front_absent}
use Rattle.proc_core.proofs.spawn.new_process.bind_first.Goals as goal

pub returns-in-None : goal.returns-in-None
returns-in-None c = λ bs is. is ∙ front_absent c.args.name.now c.args.value bs c.args.names.now c.in-None.ensures.found

pub returns-in_ok-set-in-Some : goal.returns-in_ok-set-in-Some
returns-in_ok-set-in-Some c = λ bs is.
    c.in_ok-set-in-Some.ensures ∙ (λ i. slice_set (is i) (c.in-Some.ensures.found.0 i) c.args.value)
    ∙ front_set c.args.name.now c.args.value bs c.args.names.now c.in-Some.ensures.distinct c.in-Some.ensures.found.1
