use Rattle.std.proofs.Common.{ap, ◌∙◌}
use Rattle.std.specs.Prelude.{is_some}
use Rattle.run_model.specs.Start.{start_script}
use Rattle.sql_model.specs.Scope.{table_at}
use Rattle.replay_db.specs.Types.{World}
use Rattle.run_laws.proofs.TableSteps.{own_there}
use Rattle.replay_db.proofs.table.table_included_parsed.Goals as goal

pub table_of_run-requires-clause-parsed : goal.table_of_run-requires-clause-parsed
table_of_run-requires-clause-parsed c = ap start_script c.in_ok-world.ensures ∙ c.requires.parsed

pub table_of_run-requires-clause-there : goal.table_of_run-requires-clause-there
table_of_run-requires-clause-there c =
    ap (λ (w : World). is_some (table_at c.args.name.now w.tables)) c.in_ok-world.ensures
    ∙ own_there c.args.name.now c.args.package.tables c.requires.there
