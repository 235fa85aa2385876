use Rattle.run_model.proofs.NeverStuck.{never_stuck}
use Rattle.run_model.proofs.law.never_stuck_law.Goals as goal

pub returns : goal.returns
returns g c = never_stuck g.row.Db.Denot
