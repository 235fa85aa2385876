use Rattle.std.proofs.Common.{◌≡◌, ◌+◌, ◌≤◌, ap, subst, [], arith}
use Rattle.std.specs.Prelude.{None}
use Rattle.run_model.specs.Run.{move}
use Rattle.run_model.specs.State.{State}
use Rattle.run_model.proofs.Equations.{steps-zero}
use Rattle.proc_core.specs.declared.error.Stopped.{Stopped}
use Rattle.proc_core.specs.Running.{Stands}
use Rattle.proc_core.specs.Stops.{HasStopped}
use Rattle.proc_core.proofs.Advances.{never_stuck_from}
use Rattle.proc_core.proofs.Stepping.{first_state, first_told}
use Rattle.proc_core.proofs.Ends.{end_state, end_all, end_told, end_steps, end_not, end_stopped, ends_so, more_state, more_told, more_made}
use Rattle.proc_core.proofs.run.Run.to_end.Goals as goal

pub returns-then-has_ended-clause-state : goal.returns-then-has_ended-clause-state
returns-then-has_ended-clause-state g c =
    let says = ends_so c.loop-made.machine (g.D.Database.seen c.loop-made.db) c.has_ended.result c.has_ended.ensures in
    let within : c.loop-made._made ≤ c.args.budget = omega (arith, c.loop-made-test.true) in
    end_state g.D.Database.base c.args.self.machine c.loop-made.machine (g.D.Database.seen c.args.self.db) (g.D.Database.seen c.loop-made.db) c.loop-made._made c.args.budget
    c.has_ended.result within c.loop-made.invariant.state says c.if-has_ended.true

pub returns-then-has_ended-clause-ended : goal.returns-then-has_ended-clause-ended
returns-then-has_ended-clause-ended g c =
    let says = ends_so c.loop-made.machine (g.D.Database.seen c.loop-made.db) c.has_ended.result c.has_ended.ensures in
    let within : c.loop-made._made ≤ c.args.budget = omega (arith, c.loop-made-test.true) in
    end_all g.D.Database.base c.args.self.machine c.loop-made.machine (g.D.Database.seen c.args.self.db) (g.D.Database.seen c.loop-made.db) c.loop-made._made c.args.budget
    c.has_ended.result within c.loop-made.invariant.state says c.if-has_ended.true

pub returns-then-has_ended-clause-told : goal.returns-then-has_ended-clause-told
returns-then-has_ended-clause-told g c =
    let says = ends_so c.loop-made.machine (g.D.Database.seen c.loop-made.db) c.has_ended.result c.has_ended.ensures in
    let within : c.loop-made._made ≤ c.args.budget = omega (arith, c.loop-made-test.true) in
    end_told g.D.Database.base c.args.self.machine c.loop-made.machine (g.D.Database.seen c.args.self.db) (g.D.Database.seen c.loop-made.db) c.loop-made._made c.args.budget
    c.has_ended.result g.T.Tracer.KEEPS (g.T.Tracer.events c.args.self.tracer) (g.T.Tracer.events c.loop-made.tracer) within c.loop-made.invariant.state says c.if-has_ended.true c.loop-made.invariant.told

pub returns-then-has_ended-clause-steps : goal.returns-then-has_ended-clause-steps
returns-then-has_ended-clause-steps g c =
    let says = ends_so c.loop-made.machine (g.D.Database.seen c.loop-made.db) c.has_ended.result c.has_ended.ensures in
    let within : c.loop-made._made ≤ c.args.budget = omega (arith, c.loop-made-test.true) in
    end_steps g.D.Database.base c.args.self.machine c.loop-made.machine (g.D.Database.seen c.args.self.db) (g.D.Database.seen c.loop-made.db) c.loop-made._made c.args.budget
    c.has_ended.result c.loop-made.steps within c.loop-made.invariant.state says c.if-has_ended.true c.loop-made.invariant.steps c.loop-made.invariant.made

pub returns-in-Err-Diverged-clause-stopped : goal.returns-in-Err-Diverged-clause-stopped
returns-in-Err-Diverged-clause-stopped g c =
    let says = ends_so c.loop-made.machine (g.D.Database.seen c.loop-made.db) c.has_ended.result c.has_ended.ensures in
    end_stopped g.D.Database.base c.args.self.machine c.loop-made.machine (g.D.Database.seen c.args.self.db) (g.D.Database.seen c.loop-made.db) c.loop-made._made c.args.budget
    c.has_ended.result c.in-Err-Diverged.process c.in-Err-Diverged.index c.loop-made-test.true c.loop-made.invariant.state says c.if-has_ended.false
    (subst (λ (stop : Stopped). (s : State g.D.Database.Db) → Stands c.loop-made.machine (g.D.Database.seen c.loop-made.db) s
    → HasStopped stop (move g.D.Database.base None s).state) c.in-Err-Diverged.field-0-is c.in-Err-Diverged.ensures.diverged)

pub loop-made-preserved : goal.loop-made-preserved
loop-made-preserved g c =
    let says = ends_so c.loop-made.machine (g.D.Database.seen c.loop-made.db) c.has_ended.result c.has_ended.ensures in
    record {
      state = more_state g.D.Database.base c.args.self.machine c.loop-made.machine (g.D.Database.seen c.args.self.db) (g.D.Database.seen c.loop-made.db) c.loop-made._made c.args.budget
          c.has_ended.result c.make_step.new.machine (g.D.Database.seen c.make_step.new.db) c.loop-made.invariant.state says c.if-has_ended.false c.in-Ok.ensures.state;
      told = more_told g.D.Database.base c.args.self.machine c.loop-made.machine (g.D.Database.seen c.args.self.db) (g.D.Database.seen c.loop-made.db) c.loop-made._made c.args.budget
          c.has_ended.result g.T.Tracer.KEEPS (g.T.Tracer.events c.args.self.tracer) (g.T.Tracer.events c.loop-made.tracer) (g.T.Tracer.events c.make_step.new.tracer) c.loop-made.steps
          c.loop-made.invariant.state says c.if-has_ended.false c.loop-made.invariant.steps c.loop-made.invariant.told c.in-Ok.ensures.told;
      made = more_made g.D.Database.base c.args.self.machine c.loop-made.machine (g.D.Database.seen c.args.self.db) (g.D.Database.seen c.loop-made.db) c.loop-made._made c.args.budget
          c.has_ended.result c.loop-made.invariant.state says c.if-has_ended.false c.loop-made.invariant.made;
      steps = ap (λ n. n + 1) c.loop-made.invariant.steps;
      asked = c.in-Ok.ensures.asked;
      counted = c.in-Ok.ensures.counted;
    }

pub loop-made-init : goal.loop-made-init
loop-made-init g c = record {
  state = first_state g.D.Database.base c.args.self.machine (g.D.Database.seen c.args.self.db);
  told = first_told g.D.Database.base c.args.self.machine (g.D.Database.seen c.args.self.db) g.T.Tracer.KEEPS (g.T.Tracer.events c.args.self.tracer);
  made = λ s from. steps-zero g.D.Database.base [] s;
  steps = c.requires.fresh;
  asked = c.args.self.asked;
  counted = c.args.self.counted;
}

pub returns-then-has_ended-clause-never_stuck : goal.returns-then-has_ended-clause-never_stuck
returns-then-has_ended-clause-never_stuck g c = never_stuck_from g.D.Database.base c.args.self.machine (g.D.Database.seen c.args.self.db)

pub returns-in-Err-Diverged-clause-never_stuck : goal.returns-in-Err-Diverged-clause-never_stuck
returns-in-Err-Diverged-clause-never_stuck g c = never_stuck_from g.D.Database.base c.args.self.machine (g.D.Database.seen c.args.self.db)

pub returns-in-Err-NoMemory-clause-never_stuck : goal.returns-in-Err-NoMemory-clause-never_stuck
returns-in-Err-NoMemory-clause-never_stuck g c = never_stuck_from g.D.Database.base c.args.self.machine (g.D.Database.seen c.args.self.db)

pub returns-then-has_ended-2-clause-never_stuck : goal.returns-then-has_ended-2-clause-never_stuck
returns-then-has_ended-2-clause-never_stuck g c = never_stuck_from g.D.Database.base c.args.self.machine (g.D.Database.seen c.args.self.db)

pub returns-else-has_ended-2-clause-never_stuck : goal.returns-else-has_ended-2-clause-never_stuck
returns-else-has_ended-2-clause-never_stuck g c = never_stuck_from g.D.Database.base c.args.self.machine (g.D.Database.seen c.args.self.db)

pub returns-then-has_ended-2-clause-state : goal.returns-then-has_ended-2-clause-state
returns-then-has_ended-2-clause-state g c =
    let says = ends_so c.loop-made.machine (g.D.Database.seen c.loop-made.db) c.has_ended-2.result c.has_ended-2.ensures in
    let within : c.loop-made._made ≤ c.args.budget = omega arith in
    end_state g.D.Database.base c.args.self.machine c.loop-made.machine (g.D.Database.seen c.args.self.db) (g.D.Database.seen c.loop-made.db) c.loop-made._made c.args.budget
    c.has_ended-2.result within c.loop-made.invariant.state says c.if-has_ended-2.true

pub returns-then-has_ended-2-clause-ended : goal.returns-then-has_ended-2-clause-ended
returns-then-has_ended-2-clause-ended g c =
    let says = ends_so c.loop-made.machine (g.D.Database.seen c.loop-made.db) c.has_ended-2.result c.has_ended-2.ensures in
    let within : c.loop-made._made ≤ c.args.budget = omega arith in
    end_all g.D.Database.base c.args.self.machine c.loop-made.machine (g.D.Database.seen c.args.self.db) (g.D.Database.seen c.loop-made.db) c.loop-made._made c.args.budget
    c.has_ended-2.result within c.loop-made.invariant.state says c.if-has_ended-2.true

pub returns-then-has_ended-2-clause-told : goal.returns-then-has_ended-2-clause-told
returns-then-has_ended-2-clause-told g c =
    let says = ends_so c.loop-made.machine (g.D.Database.seen c.loop-made.db) c.has_ended-2.result c.has_ended-2.ensures in
    let within : c.loop-made._made ≤ c.args.budget = omega arith in
    end_told g.D.Database.base c.args.self.machine c.loop-made.machine (g.D.Database.seen c.args.self.db) (g.D.Database.seen c.loop-made.db) c.loop-made._made c.args.budget
    c.has_ended-2.result g.T.Tracer.KEEPS (g.T.Tracer.events c.args.self.tracer) (g.T.Tracer.events c.loop-made.tracer) within c.loop-made.invariant.state says c.if-has_ended-2.true c.loop-made.invariant.told

pub returns-then-has_ended-2-clause-steps : goal.returns-then-has_ended-2-clause-steps
returns-then-has_ended-2-clause-steps g c =
    let says = ends_so c.loop-made.machine (g.D.Database.seen c.loop-made.db) c.has_ended-2.result c.has_ended-2.ensures in
    let within : c.loop-made._made ≤ c.args.budget = omega arith in
    end_steps g.D.Database.base c.args.self.machine c.loop-made.machine (g.D.Database.seen c.args.self.db) (g.D.Database.seen c.loop-made.db) c.loop-made._made c.args.budget
    c.has_ended-2.result c.loop-made.steps within c.loop-made.invariant.state says c.if-has_ended-2.true c.loop-made.invariant.steps c.loop-made.invariant.made

pub returns-else-has_ended-2-clause-stopped : goal.returns-else-has_ended-2-clause-stopped
returns-else-has_ended-2-clause-stopped g c =
    let says = ends_so c.loop-made.machine (g.D.Database.seen c.loop-made.db) c.has_ended-2.result c.has_ended-2.ensures in
    let all : c.loop-made._made ≡ c.args.budget = omega arith in
    end_not g.D.Database.base c.args.self.machine c.loop-made.machine (g.D.Database.seen c.args.self.db) (g.D.Database.seen c.loop-made.db) c.loop-made._made c.args.budget
    c.has_ended-2.result all c.loop-made.invariant.state says c.if-has_ended-2.false
