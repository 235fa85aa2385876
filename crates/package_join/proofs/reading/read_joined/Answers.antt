use Rattle.package_join.proofs.ReadJoins.{IfOk-joined_reading, magic_is, digest_is, form_is}
use Rattle.package_join.proofs.reading.read_joined.Goals as goal

pub returns-clause-found : goal.returns-clause-found
returns-clause-found c = IfOk-joined_reading c.args.bytes.now c.answer.result c.answer.ensures.due

pub returns-clause-magic : goal.returns-clause-magic
returns-clause-magic c = magic_is c.args.bytes.now c.answer.result c.answer.ensures.due c.answer.ensures.at_once

pub returns-clause-digest : goal.returns-clause-digest
returns-clause-digest c = digest_is c.args.bytes.now c.answer.result c.answer.ensures.due c.answer.ensures.at_once

pub returns-clause-form : goal.returns-clause-form
returns-clause-form c = form_is c.args.bytes.now c.answer.result c.answer.ensures.due c.answer.ensures.at_once
