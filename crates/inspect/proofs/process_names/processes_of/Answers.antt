use Rattle.inspect.proofs.ChildLaws.{births_fit}
use Rattle.inspect.proofs.process_names.processes_of.Goals as goal

pub processes_within-requires : goal.processes_within-requires
processes_within-requires c = births_fit c.args.events.now c.requires
