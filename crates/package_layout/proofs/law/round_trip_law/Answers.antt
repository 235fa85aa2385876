use Rattle.package_layout.proofs.Package.{one_spelling, reads_back, counted_within, no_both}
use Rattle.package_layout.proofs.law.round_trip_law.Goals as goal

pub returns-clause-unique : goal.returns-clause-unique
returns-clause-unique c = λ version p q t u v w f g n m e. one_spelling version p q t u v w f g n m e

pub returns-clause-again : goal.returns-clause-again
returns-clause-again c = λ version p t v f n. reads_back version p t v f n

pub returns-clause-counted : goal.returns-clause-counted
returns-clause-counted c = λ version p within. counted_within version p within

pub returns-clause-apart : goal.returns-clause-apart
returns-clause-apart c = no_both
