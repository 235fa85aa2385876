use Rattle.run_laws.proofs.KeptRuns.{kept_law}
use Rattle.run_laws.proofs.kept.kept_law.Goals as goal

pub returns : goal.returns
returns g c = kept_law g.row.Db.Denot
