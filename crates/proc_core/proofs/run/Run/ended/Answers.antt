use Rattle.std.proofs.Common.{◌∙◌, rules}
use Rattle.proc_core.proofs.Advances.{all_ended_same}
use Rattle.proc_core.proofs.run.Run.ended.Goals as goal

pub returns-clause-ended : goal.returns-clause-ended
returns-clause-ended g c = λ s is. search rules ∙ all_ended_same c.args.self.now.machine s.core is.ready
