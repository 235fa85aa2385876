use Rattle.std.proofs.lemmas.Result.{IfOk-weaker}
use Rattle.script_parse.specs.declared.script.Script.{Script}
use Rattle.replay_log.proofs.StartFiles.{found_script, found_there, never_absent}
use Rattle.replay_log.proofs.start.parse_start.Goals as goal

pub unreachable-requires : goal.unreachable-requires
unreachable-requires c = never_absent c.args.«package».now c.in-None.ensures c.requires

pub known_script-requires : goal.known_script-requires
known_script-requires c =
    found_there c.args.«package».now c.in-Some.file.now c.own_bytes.result.now c.in-Some.ensures c.own_bytes.ensures c.requires

pub returns : goal.returns
returns c =
    IfOk-weaker c.known_script.result _ _
    (λ (script : Script) is. found_script c.args.«package».now c.in-Some.file.now c.own_bytes.result.now c.in-Some.ensures c.own_bytes.ensures script.instructions is)
    c.known_script.ensures
