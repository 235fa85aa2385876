use Rattle.std.proofs.Common.{arith}
use Rattle.package_layout.proofs.Package.{IfOk-reading, magic_is, digest_is, form_is}
use Rattle.package_layout.proofs.layout.read_package.Goals as goal

pub returns-clause-found : goal.returns-clause-found
returns-clause-found c = IfOk-reading c.args.bytes.now c.decode_package.result (λ i. omega (arith, c.type_inv.bytes i)) c.decode_package.ensures.due

pub returns-clause-magic : goal.returns-clause-magic
returns-clause-magic c = magic_is c.args.bytes.now c.decode_package.result c.decode_package.ensures.due c.decode_package.ensures.at_once

pub returns-clause-digest : goal.returns-clause-digest
returns-clause-digest c = digest_is c.args.bytes.now c.decode_package.result c.decode_package.ensures.due c.decode_package.ensures.at_once

pub returns-clause-form : goal.returns-clause-form
returns-clause-form c = form_is c.args.bytes.now c.decode_package.result c.decode_package.ensures.due c.decode_package.ensures.at_once
