use Rattle.std.proofs.Common.{sym}
use Rattle.dml_versions.proofs.finding.is_met.Goals as goal

pub returns-then-known : goal.returns-then-known
returns-then-known c = λ scope number placed met. sym (met c.if-known.true)

pub returns : goal.returns
returns c = λ scope number placed met. c.in_ok-met.ensures scope number placed
