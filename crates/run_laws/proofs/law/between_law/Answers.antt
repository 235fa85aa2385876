use Rattle.run_laws.proofs.EndedLaw.{ended_law}
use Rattle.run_laws.proofs.SliceLaws.{slice_law, own_law}
use Rattle.run_laws.proofs.WorldLaws.{between_law, interleaving_law, replay_law}
use Rattle.run_laws.proofs.law.between_law.Goals as goal

pub returns-clause-between : goal.returns-clause-between
returns-clause-between c = between_law

pub returns-clause-interleaved : goal.returns-clause-interleaved
returns-clause-interleaved c = interleaving_law

pub returns-clause-slice : goal.returns-clause-slice
returns-clause-slice c = slice_law

pub returns-clause-own : goal.returns-clause-own
returns-clause-own c = own_law

pub returns-clause-replay : goal.returns-clause-replay
returns-clause-replay c = replay_law

pub returns-clause-settled : goal.returns-clause-settled
returns-clause-settled c = ended_law
