use Rattle.std.proofs.Common.{◌≡◌, ◌∙◌, sym, ap}
use Rattle.std.specs.Prelude.{Some}
use Rattle.script_parse.specs.declared.script.Script.{Script}
use Rattle.run_model.specs.Start.{start_script}
use Rattle.package_join.proofs.worlds.joined_parsed_world.Goals as goal

pub returns-clause-parsed : goal.returns-clause-parsed
returns-clause-parsed c =
    ap start_script c.in_ok-world.ensures ∙ c.requires c.args.which ∙ ap (λ (s : Script). Some s.instructions) (sym c.script_by-script.ensures)
