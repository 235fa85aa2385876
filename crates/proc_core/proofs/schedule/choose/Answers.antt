use Rattle.std.proofs.Common.{ℕ, ap, ◌∙◌}
use Rattle.ready_set.specs.Ready.{numbers}
use Rattle.run_model.specs.Schedule.{pick_of}
use Rattle.proc_core.proofs.Runnable.{picked_same}
use Rattle.proc_core.proofs.schedule.choose.Goals as goal

pub returns : goal.returns
returns c = λ core is flags.
    let m = c.args.machine.now in
    picked_same m core c.pick.result is flags
    (c.pick.ensures ∙ ap (λ (x : ℕ). pick_of m.seed m.last x (numbers m.ready.flags)) c.moved_x-x.ensures)
