use Rattle.proc_core.proofs.Advances.{chosen_may_run}
use Rattle.proc_core.proofs.run.Run.advance.Goals as goal

pub make_step-requires-clause-counted : goal.make_step-requires-clause-counted
make_step-requires-clause-counted g c = c.args.self.counted

pub invariant_of-result-clause-counted : goal.invariant_of-result-clause-counted
invariant_of-result-clause-counted g c = c.in-Ok.ensures.counted

pub returns-in-Err-clause-runs : goal.returns-in-Err-clause-runs
returns-in-Err-clause-runs g c = λ s is. chosen_may_run c.args.self.machine (g.D.Database.seen c.args.self.db) s c.requires.going is

pub returns-in-Ok-clause-runs : goal.returns-in-Ok-clause-runs
returns-in-Ok-clause-runs g c = λ s is. chosen_may_run c.args.self.machine (g.D.Database.seen c.args.self.db) s c.requires.going is
