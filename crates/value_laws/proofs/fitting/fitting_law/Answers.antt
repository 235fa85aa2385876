use Rattle.value_laws.proofs.FittingRuns.{run_fits, own_fits}
use Rattle.value_laws.proofs.fitting.fitting_law.Goals as goal

pub returns-clause-runs : goal.returns-clause-runs
returns-clause-runs c = run_fits

pub returns-clause-own : goal.returns-clause-own
returns-clause-own c = own_fits
