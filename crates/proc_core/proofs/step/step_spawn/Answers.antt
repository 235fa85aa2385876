use Rattle.std.proofs.Common.{rules, ◌≡◌, ◌∙◌, List, map, ap, subst}
use Rattle.proc_core.specs.Types.{Act}
use Rattle.run_model.specs.Events.{event_at}
use Rattle.run_model.specs.Step.{local_step, ends_at, status_acts}
use Rattle.proc_core.specs.inner.SlotStep.{slot_status_in}
use Rattle.proc_core.specs.Stands.{AppendsEvents}
use Rattle.proc_core.proofs.Machines.{ends_same, told_more}
use Rattle.proc_core.proofs.step.step_spawn.Goals as goal

pub returns : goal.returns
returns g c =
    let who = c.args.who in
    let mid = g.T.Tracer.events c.spawn.new.tracer in
    let new = g.T.Tracer.events c.tell_status.new.tracer in
    let status : c.status_in.result ≡ slot_status_in c.spawn.new.machine.processes.items c.args.who.number = search rules in
    record {
      core = c.in_ok-spawn.ensures.core;
      told = λ core is.
          told_more g.T.Tracer.KEEPS (g.T.Tracer.events c.args.tracer.now) mid new who.step who.number (local_step who.number core).acts
          (ends_at who.number (local_step who.number core).core) (c.in_ok-spawn.ensures.told core is)
          (subst (λ (acts : List Act). AppendsEvents g.T.Tracer.KEEPS mid new (map (event_at who.step who.number) acts))
          (ap status_acts status ∙ ends_same c.spawn.new.machine who.number (local_step who.number core).core (c.in_ok-spawn.ensures.core core is))
          c.in_ok-tell_status.ensures);
      grows = c.in_ok-spawn.ensures.grows;
      counted = c.in_ok-spawn.ensures.counted;
    }
