use Rattle.std.proofs.Common.{arith}
use Rattle.package_layout.proofs.Package.{runs_found, runs_magic, runs_digest, runs_form, runs_cut}
use Rattle.package_layout.proofs.layout.read_compact.Goals as goal

pub returns-clause-found : goal.returns-clause-found
returns-clause-found c = runs_found c.args.bytes.now c.compact_answer.result (λ i. omega (arith, c.type_inv.bytes i)) c.compact_answer.ensures.due

pub returns-clause-magic : goal.returns-clause-magic
returns-clause-magic c = runs_magic c.args.bytes.now c.compact_answer.result c.compact_answer.ensures.due c.compact_answer.ensures.at_once

pub returns-clause-digest : goal.returns-clause-digest
returns-clause-digest c = runs_digest c.args.bytes.now c.compact_answer.result c.compact_answer.ensures.due c.compact_answer.ensures.at_once

pub returns-clause-form : goal.returns-clause-form
returns-clause-form c = runs_form c.args.bytes.now c.compact_answer.result c.compact_answer.ensures.due c.compact_answer.ensures.at_once

pub returns-clause-cut : goal.returns-clause-cut
returns-clause-cut c = runs_cut c.compact_answer.result c.compact_answer.ensures.runs
