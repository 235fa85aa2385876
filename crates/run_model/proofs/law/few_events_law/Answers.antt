use Rattle.run_model.proofs.StepActs.{few_events_law}
use Rattle.run_model.proofs.law.few_events_law.Goals as goal

pub returns : goal.returns
returns g c = few_events_law g.row.Db.Denot
