use Rattle.std.proofs.Common.{arith}
use Rattle.package_layout.proofs.RunReading.{middle_ok, middle_form, middle_runs, middle_bare}
use Rattle.package_layout.proofs.layout.middle_answer.Goals as goal

pub returns-in-Ok-clause-due : goal.returns-in-Ok-clause-due
returns-in-Ok-clause-due c = middle_ok c.args.version c.args.bytes.now c.middle.result.now _ (λ i. omega (arith, c.type_inv.bytes i)) c.requires c.middle.ensures c.in-Ok.ensures.made

pub returns-in-Ok-clause-runs : goal.returns-in-Ok-clause-runs
returns-in-Ok-clause-runs c = middle_runs c.args.version c.args.bytes.now c.middle.result.now _ (λ i. omega (arith, c.type_inv.bytes i)) c.middle.ensures c.in-Ok.ensures.made

pub returns-in-Ok-clause-bare : goal.returns-in-Ok-clause-bare
returns-in-Ok-clause-bare c = middle_bare c.args.version c.args.bytes.now c.middle.result.now _ (λ i. omega (arith, c.type_inv.bytes i)) c.middle.ensures c.in-Ok.ensures.made

pub returns-in-Err-Malformed-clause-due : goal.returns-in-Err-Malformed-clause-due
returns-in-Err-Malformed-clause-due c = middle_form c.args.version c.args.bytes.now c.middle.result.now _ (λ i. omega (arith, c.type_inv.bytes i)) c.requires c.middle.ensures c.in-Err-Malformed.field-0-is c.in-Err-Malformed.ensures.made
