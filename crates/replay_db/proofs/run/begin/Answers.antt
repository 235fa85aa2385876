use Rattle.std.proofs.Common.{subst}
use Rattle.proc_core.specs.Running.{Stands}
use Rattle.run_model.specs.RunLaw.{start_state_of}
use Rattle.run_model.specs.SqlDatabase.{SqlDatabase}
use Rattle.sql_engine.specs.Asking.{database}
use Rattle.run_model.proofs.StartScripts.{has_word}
use Rattle.proc_core.proofs.StartScripts.{start_script_is}
use Rattle.replay_db.proofs.run.begin.Goals as goal

pub start_parsed-requires-clause-words : goal.start_parsed-requires-clause-words
start_parsed-requires-clause-words g c = has_word c.args.world c.requires.can_run.script

pub start_parsed-requires-clause-script : goal.start_parsed-requires-clause-script
start_parsed-requires-clause-script g c =
    start_script_is c.args.world c.args.script.now.instructions c.in_ok-tree.field-0.tree c.in_ok-tree.ensures.tree c.requires.parsed

pub returns-clause-state : goal.returns-clause-state
returns-clause-state g c = λ script is.
    subst (λ (db : SqlDatabase). Stands c.in_ok-begun.begun.machine (database c.in_ok-begun.begun.db) (start_state_of c.args.world.start c.args.world.seed c.args.world.files script db))
    c.in_ok-tree.ensures.database
    (c.in_ok-begun.ensures.state script c.args.world.files c.in_ok-tree.ensures.tree (start_script_is c.args.world script c.in_ok-tree.field-0.tree c.in_ok-tree.ensures.tree is))
