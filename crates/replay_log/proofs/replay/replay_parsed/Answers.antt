use Rattle.std.proofs.Common.{[]}
use Rattle.run_model.specs.LogDatabase.{log_base}
use Rattle.run_model.specs.LogRun.{log_start}
use Rattle.run_model.specs.Package.{own_world}
use Rattle.run_model.specs.Run.{run}
use Rattle.run_model.proofs.StartScripts.{has_script}
use Rattle.replay_log.proofs.Replaying.{has_ended_so, has_stopped_so}
use Rattle.replay_log.proofs.replay.replay_parsed.Goals as goal

pub returns-in-Ok-into_outcome : goal.returns-in-Ok-into_outcome
returns-in-Ok-into_outcome c =
    let script = has_script (own_world c.args.«package») c.requires.can_replay.script in
    let start = log_start c.args.«package» script.0 in
    let begun = c.in-Ok.ensures.state script.0 script.1 in
    let stands = c.in-Ok-to_end.ensures.state start begun in
    has_ended_so c.args.budget c.args.«package» script.0 script.1 c.in-Ok-into_outcome.outcome (c.in-Ok-to_end.ensures.ended start begun)
    (c.in-Ok-into_outcome.ensures (run log_base c.args.budget [] start) stands)
    stands.state.0.going

pub returns-in-Err-to_end : goal.returns-in-Err-to_end
returns-in-Err-to_end c =
    let script = has_script (own_world c.args.«package») c.requires.can_replay.script in
    let start = log_start c.args.«package» script.0 in
    let begun = c.in-Ok.ensures.state script.0 script.1 in
    has_stopped_so c.args.budget c.args.«package» script.0 script.1 (c.in-Err-to_end.ensures.never_stuck start begun) c.in-Err-to_end.stop
    (c.in-Err-to_end.ensures.stopped start begun)
