use Rattle.std.proofs.Common.{List, Option, subst}
use Rattle.script_parse.specs.declared.script.Instr.{Instr}
use Rattle.package_codec.specs.Fields.{Makes}
use Rattle.package_layout.specs.StartScript.{cut_of, package_if}
use Rattle.package_layout.proofs.StartScripts.{with_start}
use Rattle.package_layout.proofs.layout.judged_package.Goals as goal

pub returns-clause-made : goal.returns-clause-made
returns-clause-made c =
    subst (λ (o : Option (List Instr)). Makes (cut_of c.with_script.result) (package_if o c.args.package)) c.in_ok-found.ensures.script c.with_script.ensures.made

pub returns-clause-parsed : goal.returns-clause-parsed
returns-clause-parsed c = with_start c.args.version c.args.package _ c.with_script.result c.in_ok-found.ensures.script c.with_script.ensures.parts
