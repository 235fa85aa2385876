use Rattle.std.proofs.lemmas.Result.{IfOk-weaker}
use Rattle.run_model.specs.Start.{start_file}
use Rattle.script_parse.specs.declared.script.Script.{Script}
use Rattle.replay_db.proofs.EndedRuns.{found_script}
use Rattle.replay_db.proofs.start.parse_start.Goals as goal

pub returns : goal.returns
returns c =
    IfOk-weaker c.known_script.result _ _
    (λ (script : Script) is. found_script c.as_slice.result.now c.in-Some.file.now (start_file c.args.world.now) script.instructions c.as_slice.ensures c.in-Some.ensures is)
    c.known_script.ensures
