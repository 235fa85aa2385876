use Rattle.replay_log.proofs.ValidPackages.{valid_replays}
use Rattle.replay_log.proofs.law.can_replay_law.Goals as goal

pub returns : goal.returns
returns c = valid_replays
