use Rattle.std.proofs.Common.{arith}
use Rattle.package_layout.proofs.Package.{parsed_found, parsed_magic, parsed_digest, parsed_form, parsed_cut}
use Rattle.package_layout.proofs.layout.read_parsed.Goals as goal

pub returns-clause-found : goal.returns-clause-found
returns-clause-found c = parsed_found c.args.bytes.now c.parsed_answer.result (λ i. omega (arith, c.type_inv.bytes i)) c.parsed_answer.ensures.due

pub returns-clause-cut : goal.returns-clause-cut
returns-clause-cut c = parsed_cut c.parsed_answer.result c.parsed_answer.ensures.runs

pub returns-clause-magic : goal.returns-clause-magic
returns-clause-magic c = parsed_magic c.args.bytes.now c.parsed_answer.result c.parsed_answer.ensures.due c.parsed_answer.ensures.at_once

pub returns-clause-digest : goal.returns-clause-digest
returns-clause-digest c = parsed_digest c.args.bytes.now c.parsed_answer.result c.parsed_answer.ensures.due c.parsed_answer.ensures.at_once

pub returns-clause-form : goal.returns-clause-form
returns-clause-form c = parsed_form c.args.bytes.now c.parsed_answer.result c.parsed_answer.ensures.due c.parsed_answer.ensures.at_once
