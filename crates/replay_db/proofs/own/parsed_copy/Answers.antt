use Rattle.std.proofs.Common.{◌≡◌, ◌∙◌, sym, subst, true}
use Rattle.std.specs.Prelude.{is_some}
use Rattle.std.proofs.lemmas.Result.{IfOk-weaker}
use Rattle.run_model.specs.Start.{start_script}
use Rattle.run_model.specs.declared.world.ParsedWorld.{ParsedWorld}
use Rattle.replay_db.specs.Types.{World}
use Rattle.replay_db.proofs.own.parsed_copy.Goals as goal

pub parsed_world-requires : goal.parsed_world-requires
parsed_world-requires c = subst (λ (w : World). is_some (start_script w) ≡ true) (sym c.in_ok-world.ensures) c.requires.script

pub returns-clause-world : goal.returns-clause-world
returns-clause-world c =
    IfOk-weaker c.parsed_world.result _ _ (λ (p : ParsedWorld) is. is ∙ c.in_ok-world.ensures) c.parsed_world.ensures.world
