use Rattle.std.proofs.Common.{◌≡◌, ◌∙◌, ap, subst, []}
use Rattle.proc_core.specs.Running.{Stands}
use Rattle.run_model.specs.RunLaw.{start_state_of}
use Rattle.run_model.specs.SqlDatabase.{SqlDatabase}
use Rattle.sql_engine.specs.Asking.{database}
use Rattle.run_model.proofs.StartScripts.{has_word}
use Rattle.proc_core.proofs.StartScripts.{start_script_is}
use Rattle.run_laws.specs.KeptReplies.{KeepingDatabase}
use Rattle.replay_db.specs.inner.Logging.{keeping_database}
use Rattle.replay_db.proofs.logged.begin.Goals as goal

pub start_parsed-requires-clause-words : goal.start_parsed-requires-clause-words
start_parsed-requires-clause-words c = has_word c.args.world c.requires.can_run.script

pub start_parsed-requires-clause-script : goal.start_parsed-requires-clause-script
start_parsed-requires-clause-script c =
    start_script_is c.args.world c.args.script.now.instructions c.in_ok-tree.field-0.tree c.in_ok-tree.ensures.tree c.requires.parsed

pub returns-clause-state : goal.returns-clause-state
returns-clause-state c = λ script is.
    let same : keeping_database (database c.over-recorder.result.db) c.over-recorder.result.kept ≡ keeping_database _ [] =
    (λ j. keeping_database ((ap database c.over-recorder.ensures.db ∙ c.in_ok-tree.ensures.database) j) (c.over-recorder.ensures.kept j)) in
    subst (λ (db : KeepingDatabase SqlDatabase). Stands c.in_ok-begun.begun.machine (keeping_database (database c.in_ok-begun.begun.db.db) c.in_ok-begun.begun.db.kept) (start_state_of c.args.world.start c.args.world.seed c.args.world.files script db))
    same
    (c.in_ok-begun.ensures.state script c.args.world.files c.in_ok-tree.ensures.tree (start_script_is c.args.world script c.in_ok-tree.field-0.tree c.in_ok-tree.ensures.tree is))
