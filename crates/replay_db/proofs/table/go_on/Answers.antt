use Rattle.std.proofs.Common.{◌≡◌, ◌+◌, ◌≤◌, ◌<◌, ap, ◌∙◌, refl, subst, [], arith, true, false}
use Rattle.proc_core.specs.Running.{Stands}
use Rattle.proc_core.proofs.Ends.{end_state, end_steps, more_state, more_made}
use Rattle.proc_core.proofs.Stepping.{first_state}
use Rattle.run_model.specs.Run.{run, steps}
use Rattle.run_model.specs.SqlDatabase.{SqlDatabase, sql_base}
use Rattle.run_model.specs.State.{State}
use Rattle.run_model.proofs.Equations.{steps-zero}
use Rattle.sql_engine.specs.Asking.{database}
use Rattle.replay_db.proofs.table.go_on.Goals as goal

pub step_on-requires-clause-stands : goal.step_on-requires-clause-stands
step_on-requires-clause-stands c =
    (run sql_base c.loop-made._made [] c.requires.stands.0, c.loop-made.invariant.state c.requires.stands.0 c.requires.stands.1)

pub returns-then-ended-clause-state : goal.returns-then-ended-clause-state
returns-then-ended-clause-state c =
    let within : c.loop-made._made ≤ c.args.count = omega (arith, c.loop-made-test.true) in
    end_state sql_base c.args.begun.machine c.loop-made.gone.machine (database c.args.begun.db) (database c.loop-made.gone.db) c.loop-made._made c.args.count
    c.ended.result within c.loop-made.invariant.state c.ended.ensures.ended c.if-ended.true

pub returns-then-ended-clause-steps : goal.returns-then-ended-clause-steps
returns-then-ended-clause-steps c = λ s from.
    let within : c.loop-made._made ≤ c.args.count = omega (arith, c.loop-made-test.true) in
    c.loop-made.invariant.steps
    ∙ ap (λ k. c.args.begun.steps + k)
    (end_steps sql_base c.args.begun.machine c.loop-made.gone.machine (database c.args.begun.db) (database c.loop-made.gone.db) c.loop-made._made c.args.count
    c.ended.result c.loop-made._made within c.loop-made.invariant.state c.ended.ensures.ended c.if-ended.true refl c.loop-made.invariant.made s from)

pub loop-made-init : goal.loop-made-init
loop-made-init c = record {
  state = first_state sql_base c.args.begun.machine (database c.args.begun.db);
  made = λ s from. steps-zero sql_base [] s;
  steps = omega arith;
}

pub loop-made-preserved : goal.loop-made-preserved
loop-made-preserved c = record {
  state = more_state sql_base c.args.begun.machine c.loop-made.gone.machine (database c.args.begun.db) (database c.loop-made.gone.db) c.loop-made._made c.args.count
      c.ended.result c.in_ok-gone.gone.machine (database c.in_ok-gone.gone.db) c.loop-made.invariant.state c.ended.ensures.ended c.if-ended.false c.in_ok-gone.ensures.state;
  made = more_made sql_base c.args.begun.machine c.loop-made.gone.machine (database c.args.begun.db) (database c.loop-made.gone.db) c.loop-made._made c.args.count
      c.ended.result c.loop-made.invariant.state c.ended.ensures.ended c.if-ended.false c.loop-made.invariant.made;
  steps = omega (arith, c.in_ok-gone.ensures.steps, c.loop-made.invariant.steps);
}

pub returns-clause-state : goal.returns-clause-state
returns-clause-state c = λ s from.
    let all : c.loop-made._made ≡ c.args.count = omega (arith, c.loop-made-test.false, c.loop-made.auto._made-end) in
    subst (λ k. Stands c.loop-made.gone.machine (database c.loop-made.gone.db) (run sql_base k [] s)) all (c.loop-made.invariant.state s from)
