use Rattle.package_layout.specs.StartScript.{cut_of}
use Rattle.package_layout.proofs.Package.{some_due, some_once, none_due, none_once}
use Rattle.std.proofs.Common.{refl}
use Rattle.package_layout.proofs.layout.parsed_answer.Goals as goal

pub returns-in-Some-clause-due : goal.returns-in-Some-clause-due
returns-in-Some-clause-due c = some_due c.args.bytes.now c.in-Some.version (cut_of c.answer_as.result) c.in-Some.ensures.version c.answer_as.ensures.due

pub returns-in-Some-clause-at_once : goal.returns-in-Some-clause-at_once
returns-in-Some-clause-at_once c = some_once c.args.bytes.now c.in-Some.version (cut_of c.answer_as.result) c.in-Some.ensures.version c.answer_as.ensures.at_once

pub returns-in-None-clause-due : goal.returns-in-None-clause-due
returns-in-None-clause-due c = none_due c.args.bytes.now c.in-None.ensures.version

pub returns-in-None-clause-at_once : goal.returns-in-None-clause-at_once
returns-in-None-clause-at_once c = none_once c.args.bytes.now _ c.in-None.ensures.version refl
