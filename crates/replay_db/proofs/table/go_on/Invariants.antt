use Rattle.std.proofs.Common.{◌≡◌, ◌+◌, []}
use Rattle.proc_core.specs.Running.{Stands}
use Rattle.run_model.specs.Run.{run, steps}
use Rattle.run_model.specs.SqlDatabase.{SqlDatabase, sql_base}
use Rattle.run_model.specs.State.{State}
use Rattle.sql_engine.specs.Asking.{database}
use Rattle.replay_db.proofs.table.go_on.Given as goal

abbrev pub invariant-loop-made : goal.invariant-loop-made
invariant-loop-made l = record {
  state : (s : State SqlDatabase) → Stands l.fn.begun.machine (database l.fn.begun.db) s
      → Stands l.gone.machine (database l.gone.db) (run sql_base l._made [] s);
  made : (s : State SqlDatabase) → Stands l.fn.begun.machine (database l.fn.begun.db) s
      → steps sql_base l._made [] s ≡ l._made;
  steps : l.gone.steps ≡ l.fn.begun.steps + l._made;
}
