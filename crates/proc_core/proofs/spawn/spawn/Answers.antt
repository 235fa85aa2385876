use Rattle.std.proofs.Common.{refl}
use Rattle.std.proofs.Common.{[]}
use Rattle.run_model.specs.StepBase.{bad_path}
use Rattle.proc_core.specs.inner.Slots.{slot_ended}
use Rattle.proc_core.proofs.Counts.{fewer_idle}
use Rattle.proc_core.proofs.Growing.{grows_no_child}
use Rattle.proc_core.proofs.SpawnSteps.{bad_core, bad_acts, told_by, told_nothing}
use Rattle.proc_core.proofs.spawn.spawn.Goals as goal

pub returns-in-None-clause-core : goal.returns-in-None-clause-core
returns-in-None-clause-core g c = λ core is.
    bad_core c.args.machine.now c.end_misused.new.machine c.args.who.number core is _ c.requires.says c.in-None.is c.end_misused.ensures.left c.end_misused.ensures.others

pub returns-in-None-clause-told : goal.returns-in-None-clause-told
returns-in-None-clause-told g c = λ core is.
    told_by g.T.Tracer.KEEPS _ _ c.args.who.step c.args.who.number [] _
    (bad_acts c.args.machine.now c.end_misused.new.machine c.args.who.number core is _ c.requires.says c.in-None.is)
    (told_nothing g.T.Tracer.KEEPS (g.T.Tracer.events c.args.tracer.now) c.args.who.step c.args.who.number)

pub returns-in-None-clause-grows : goal.returns-in-None-clause-grows
returns-in-None-clause-grows g c =
    grows_no_child c.args.machine.now c.end_misused.new.machine c.args.who.number (slot_ended bad_path) c.requires.within c.end_misused.ensures.left c.end_misused.ensures.others

pub returns-in-None-clause-counted : goal.returns-in-None-clause-counted
returns-in-None-clause-counted g c =
    fewer_idle c.args.machine.now c.end_misused.new.machine c.args.who.number (slot_ended bad_path) (λ r. refl) c.requires.within
    c.end_misused.ensures.left c.end_misused.ensures.others c.args.who.step c.requires.counted
