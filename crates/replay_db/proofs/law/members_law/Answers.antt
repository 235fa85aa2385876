use Rattle.replay_db.proofs.Membership.{membership_law}
use Rattle.replay_db.proofs.law.members_law.Goals as goal

pub returns : goal.returns
returns c = membership_law
