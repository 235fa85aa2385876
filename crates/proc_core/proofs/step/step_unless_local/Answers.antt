use Rattle.std.proofs.Common.{arith, ◌≤◌, sym, ◌∙◌}
use Rattle.proc_core.proofs.StepSame.{quiet_state, quiet_told}
use Rattle.proc_core.proofs.step.step_unless_local.Goals as goal

pub returns-in-Ok : goal.returns-in-Ok
returns-in-Ok g c =
    let latest : g.D.Database.latest c.args.db.now ≤ c.args.who.step = omega (arith, c.requires.later) in
    record {
      state = λ s is.
          quiet_state g.D.Database.base c.args.machine.now c.step_spawn_or_local.new.machine c.args.who.number (g.D.Database.seen c.args.db.now) s
          (sym c.requires.asked ∙ c.in-None.is) c.in-Ok.ensures.core is;
      told = λ s is.
          quiet_told g.D.Database.base c.args.machine.now c.args.who.number c.args.who.step (g.D.Database.seen c.args.db.now) s
          g.T.Tracer.KEEPS (g.T.Tracer.events c.args.tracer.now) (g.T.Tracer.events c.step_spawn_or_local.new.tracer)
          (sym c.requires.asked ∙ c.in-None.is) c.in-Ok.ensures.told is;
      diverged = tt;
      latest = latest;
      grows = c.in-Ok.ensures.grows;
      counted = c.in-Ok.ensures.counted;
    }
