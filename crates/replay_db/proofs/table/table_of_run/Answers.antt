use Rattle.std.proofs.Common.{◌≡◌, ℕ, ◌+◌, ◌-◌, ◌≤◌, List, [], sym, ap, ◌∙◌, subst, arith}
use Rattle.std.specs.Prelude.{Some, is_some}
use Rattle.proc_core.specs.Running.{has_ended}
use Rattle.proc_core.proofs.Advances.{all_ended_same}
use Rattle.run_model.specs.Run.{run, steps}
use Rattle.run_model.specs.SqlDatabase.{SqlDatabase, sql_base}
use Rattle.run_model.specs.Start.{start_state}
use Rattle.run_model.specs.State.{State}
use Rattle.sql_engine.specs.Asking.{database}
use Rattle.sql_engine.specs.Types.{StoreHistory}
use Rattle.sql_model.specs.Scope.{table_at}
use Rattle.ldv_value.proofs.Options.{is_some-true}
use Rattle.replay_db.proofs.TableDue.{due_is, gives_due, gone_ended, gone_steps}
use Rattle.run_laws.proofs.TableSteps.{there_after}
use Rattle.replay_db.proofs.table.table_of_run.Goals as goal

pub go_on-requires-clause-stands : goal.go_on-requires-clause-stands
go_on-requires-clause-stands c =
    let script = is_some-true _ c.requires.can_run.script in
    (start_state c.args.world script.0, c.in_ok-begun.ensures.state script.0 script.1)

pub table_now-requires-clause-there : goal.table_now-requires-clause-there
table_now-requires-clause-there c =
    let script = is_some-true _ c.requires.can_run.script in
    let start : State SqlDatabase = start_state c.args.world script.0 in
    let is = c.in_ok-there.ensures.state start (c.in_ok-begun.ensures.state script.0 script.1) in
    ap (λ (e : StoreHistory). is_some (table_at c.args.name.now (database e).tables)) c.db.ensures
    ∙ ap (λ (d : SqlDatabase). is_some (table_at c.args.name.now d.tables)) is.state.1
    ∙ there_after c.args.name.now c.first_part-early.result start c.requires.there

pub go_on-requires-2-clause-stands : goal.go_on-requires-2-clause-stands
go_on-requires-2-clause-stands c =
    let script = is_some-true _ c.requires.can_run.script in
    let start : State SqlDatabase = start_state c.args.world script.0 in
    (run sql_base c.first_part-early.result [] start, c.in_ok-there.ensures.state start (c.in_ok-begun.ensures.state script.0 script.1))

pub returns : goal.returns
returns c =
    let script = is_some-true _ c.requires.can_run.script in
    let start : State SqlDatabase = start_state c.args.world script.0 in
    let budget : ℕ = c.args.budget in
    let step : ℕ = c.args.step in
    let early : ℕ = c.first_part-early.result in
    let name : List ℕ = c.args.name.now in
    let one = c.in_ok-begun.ensures.state script.0 script.1 in
    let two = c.in_ok-there.ensures.state start one in
    let three = c.in_ok-gone.ensures.state (run sql_base early [] start) two in
    let first : c.in_ok-there.there.steps ≡ steps sql_base early [] start =
    omega (arith, c.in_ok-there.ensures.steps start one, c.in_ok-begun.ensures.steps) in
    let all = c.in_ok-gone.ensures.steps (run sql_base early [] start) two in
    let found =
    ap (λ (d : SqlDatabase). table_at name d.tables) (sym two.state.1)
    ∙ ap (λ (e : StoreHistory). table_at name (database e).tables) (sym c.db.ensures)
    ∙ c.in_ok-table.ensures in
    gives_due c.table_verdict.result _
    (c.table_verdict.ensures
    ∙ due_is budget step early name c.args.world script.0 script.1 c.first_part-early.ensures.within c.first_part-early.ensures.whole
    (has_ended c.in_ok-gone.gone.machine) c.in_ok-gone.gone.steps c.in_ok-table.table
    (gone_ended budget step early name c.args.world script.0 script.1 c.first_part-early.ensures.within c.first_part-early.ensures.whole
    _ (all_ended_same c.in_ok-gone.gone.machine _ three.ready))
    (gone_steps budget step early name c.args.world script.0 script.1 c.first_part-early.ensures.within c.first_part-early.ensures.whole
    c.in_ok-there.there.steps c.in_ok-gone.gone.steps first all)
    found)
