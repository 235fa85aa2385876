use Rattle.package_codec.proofs.Runs.{events_again, one_cut, only_cut}
use Rattle.package_codec.proofs.trace.law.runs_law.Goals as goal

pub returns-clause-cut : goal.returns-clause-cut
returns-clause-cut c = one_cut

pub returns-clause-only : goal.returns-clause-only
returns-clause-only c = only_cut

pub returns-clause-again : goal.returns-clause-again
returns-clause-again c = events_again
