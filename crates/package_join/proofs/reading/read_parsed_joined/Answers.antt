use Rattle.package_join.proofs.ReadJoins.{parsed_found, parsed_magic, parsed_digest, parsed_form}
use Rattle.package_join.proofs.reading.read_parsed_joined.Goals as goal

pub returns-clause-found : goal.returns-clause-found
returns-clause-found c = parsed_found c.args.bytes.now c.parsed_answer.result c.parsed_answer.ensures.due

pub returns-clause-magic : goal.returns-clause-magic
returns-clause-magic c = parsed_magic c.args.bytes.now c.parsed_answer.result c.parsed_answer.ensures.due c.parsed_answer.ensures.at_once

pub returns-clause-digest : goal.returns-clause-digest
returns-clause-digest c = parsed_digest c.args.bytes.now c.parsed_answer.result c.parsed_answer.ensures.due c.parsed_answer.ensures.at_once

pub returns-clause-form : goal.returns-clause-form
returns-clause-form c = parsed_form c.args.bytes.now c.parsed_answer.result c.parsed_answer.ensures.due c.parsed_answer.ensures.at_once
