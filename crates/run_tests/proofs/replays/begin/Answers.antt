use Rattle.run_model.proofs.StartScripts.{has_script, has_word}
use Rattle.proc_core.proofs.StartScripts.{start_script_is}
use Rattle.run_tests.proofs.replays.begin.Goals as goal

pub start-requires-clause-words : goal.start-requires-clause-words
start-requires-clause-words g c = has_word c.args.world.now c.requires.can_run.script

pub start-requires-clause-script : goal.start-requires-clause-script
start-requires-clause-script g c =
    let script = has_script c.args.world.now c.requires.can_run.script in
    (script.0, start_script_is c.args.world.now script.0 c.in_ok-tree.tree c.in_ok-tree.ensures script.1)
