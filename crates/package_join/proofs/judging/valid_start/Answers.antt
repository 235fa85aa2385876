use Rattle.std.proofs.Common.{List, Option, subst}
use Rattle.script_parse.specs.declared.script.Script.{Script}
use Rattle.package_codec.specs.Fields.{Makes}
use Rattle.package_join.proofs.ParsedJoins.{found_again}
use Rattle.package_join.proofs.judging.valid_start.Goals as goal

pub returns : goal.returns
returns c =
    subst (λ (o : Option Script). Makes c.some_script.result o) (found_again c.in_ok-found.found _ c.in_ok-found.ensures.script)
    c.some_script.ensures
