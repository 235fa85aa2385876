use Rattle.std.proofs.Common.{◌≡◌, sym, ap, ◌∙◌}
use Rattle.std.specs.Prelude.{is_some}
use Rattle.ldv_value.specs.Gives.{GivesOr}
use Rattle.sql_model.specs.Scope.{table_at}
use Rattle.replay_db.specs.Runs.{CanRun}
use Rattle.replay_db.specs.TableAt.{IsDueStop, table_of_run}
use Rattle.replay_db.specs.Types.{World}
use Rattle.run_laws.proofs.TableSteps.{own_there}
use Rattle.replay_db.proofs.table.table_included.Goals as goal

pub table_of_world-requires-clause-there : goal.table_of_world-requires-clause-there
table_of_world-requires-clause-there c =
    ap (λ (w : World). is_some (table_at c.args.name.now w.tables)) c.in_ok-world.ensures
    ∙ own_there c.args.name.now c.args.package.now.tables c.requires.there
