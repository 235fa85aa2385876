use Rattle.std.proofs.Common.{arith, ◌≤◌}
use Rattle.proc_core.proofs.StepSame.{quiet_state, quiet_told}
use Rattle.proc_core.proofs.Stepping.{local_next, nothing_asked_next}
use Rattle.proc_core.proofs.step.step_process.Goals as goal

pub step_local-requires-clause-local : goal.step_local-requires-clause-local
step_local-requires-clause-local g c =
    local_next c.args.machine.now c.args.who.number c.is_local_at.result c.is_local_at.ensures c.if-is_local_at.true

pub returns-in-Ok : goal.returns-in-Ok
returns-in-Ok g c =
    let latest : g.D.Database.latest c.args.db.now ≤ c.args.who.step = omega (arith, c.requires.later) in
    record {
      state = λ s is.
          quiet_state g.D.Database.base c.args.machine.now c.step_local.new.machine c.args.who.number (g.D.Database.seen c.args.db.now) s
          (nothing_asked_next c.args.machine.now c.args.who.number c.is_local_at.result c.is_local_at.ensures c.if-is_local_at.true) c.in-Ok.ensures.core is;
      told = λ s is.
          quiet_told g.D.Database.base c.args.machine.now c.args.who.number c.args.who.step (g.D.Database.seen c.args.db.now) s
          g.T.Tracer.KEEPS (g.T.Tracer.events c.args.tracer.now) (g.T.Tracer.events c.step_local.new.tracer)
          (nothing_asked_next c.args.machine.now c.args.who.number c.is_local_at.result c.is_local_at.ensures c.if-is_local_at.true) c.in-Ok.ensures.told is;
      diverged = tt;
      latest = latest;
      grows = c.in-Ok.ensures.grows;
      counted = c.in-Ok.ensures.counted;
    }
