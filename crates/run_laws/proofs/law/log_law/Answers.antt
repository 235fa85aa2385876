use Rattle.run_laws.proofs.LogLaws.{log_law, picked_log_law}
use Rattle.run_laws.proofs.law.log_law.Goals as goal

pub returns-clause-seeded : goal.returns-clause-seeded
returns-clause-seeded c = log_law

pub returns-clause-picked : goal.returns-clause-picked
returns-clause-picked c = picked_log_law
