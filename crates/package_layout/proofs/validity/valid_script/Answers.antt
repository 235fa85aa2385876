use Rattle.std.proofs.Common.{List, Option, is_some, ap, ◌∙◌}
use Rattle.std.proofs.lemmas.Result.{IfOk-weaker}
use Rattle.script_parse.specs.declared.script.Instr.{Instr}
use Rattle.package_layout.proofs.StartScripts.{valid_rules}
use Rattle.package_layout.proofs.validity.valid_script.Goals as goal

pub returns-clause-rules : goal.returns-clause-rules
returns-clause-rules c =
    IfOk-weaker c.script_by_rules.result _ _
    (λ found is. ap (λ (o : Option (List Instr)). is_some o) is ∙ valid_rules c.args.version c.args.package.now)
    c.script_by_rules.ensures
