use Rattle.run_model.proofs.StepActs.{world_events}
use Rattle.run_model.proofs.law.world_events_law.Goals as goal

pub returns : goal.returns
returns c = world_events
