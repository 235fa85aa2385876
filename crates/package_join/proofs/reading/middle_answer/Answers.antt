use Rattle.std.proofs.Common.{arith}
use Rattle.package_join.proofs.ReadJoins.{middle_ok, middle_form, middle_first, middle_second}
use Rattle.package_join.proofs.BareCuts.{cuts_are_bare}
use Rattle.package_join.proofs.reading.middle_answer.Goals as goal

pub returns-in-Ok-clause-due : goal.returns-in-Ok-clause-due
returns-in-Ok-clause-due c = middle_ok c.args.bytes.now c.middle.result.now _ (λ i. omega (arith, c.type_inv.bytes i)) c.requires c.middle.ensures c.in-Ok.ensures.cuts

pub returns-in-Ok-clause-first : goal.returns-in-Ok-clause-first
returns-in-Ok-clause-first c = middle_first c.middle.result.now _ c.in-Ok.ensures.cuts

pub returns-in-Ok-clause-second : goal.returns-in-Ok-clause-second
returns-in-Ok-clause-second c = middle_second c.middle.result.now _ c.in-Ok.ensures.cuts

pub returns-in-Err-Malformed-clause-due : goal.returns-in-Err-Malformed-clause-due
returns-in-Err-Malformed-clause-due c = middle_form c.args.bytes.now c.middle.result.now _ (λ i. omega (arith, c.type_inv.bytes i)) c.requires c.middle.ensures c.in-Err-Malformed.field-0-is c.in-Err-Malformed.ensures.cuts

pub returns-in-Ok-clause-bare : goal.returns-in-Ok-clause-bare
returns-in-Ok-clause-bare c = cuts_are_bare c.middle.result.now _ c.in-Ok.ensures.cuts
