use Rattle.std.proofs.Common.{◌≡◌, sym, ◌∙◌, subst, false}
use Rattle.std.specs.Prelude.{None}
use Rattle.proc_core.specs.Stops.{HasStopped}
use Rattle.proc_core.specs.declared.error.Stopped.{Stopped}
use Rattle.proc_core.proofs.Advances.{all_ended_same}
use Rattle.proc_core.proofs.StepSame.{over_same}
use Rattle.run_model.specs.Core.{is_over}
use Rattle.run_model.specs.Run.{move}
use Rattle.run_model.specs.SqlDatabase.{sql_base}
use Rattle.run_laws.proofs.TableSteps.{step_answered}
use Rattle.replay_db.proofs.table.step_on.Goals as goal

pub unreachable-requires : goal.unreachable-requires
unreachable-requires c =
    let s = c.requires.stands.0 in
    let is = c.requires.stands.1 in
    let going : is_over s.core ≡ false =
    over_same c.args.begun.machine s.core is.state.0
    ∙ sym (all_ended_same c.args.begun.machine s.core is.ready)
    ∙ c.requires.going in
    absurd
    (step_answered s is.state.0.going going _
    (subst (λ (stop : Stopped). HasStopped stop (move sql_base None s).state) c.in-Err-Diverged.field-0-is (c.in-Err-Diverged.ensures.diverged s is)))
