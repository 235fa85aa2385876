use Rattle.std.proofs.Common.{◌≡◌, ◌∙◌, sym, ap, subst}
use Rattle.std.specs.Prelude.{IfOk}
use Rattle.run_model.specs.Package.{own_world}
use Rattle.run_model.specs.Start.{start_script}
use Rattle.run_model.specs.declared.package.Package.{Package}
use Rattle.replay_log.specs.Replays.{CanReplay}
use Rattle.ldv_top.specs.declared.response.Response.{Response}
use Rattle.ldv_top.specs.Due.{reseeded_package, response_due}
use Rattle.ldv_top.proofs.commands.replay_seed.parsed_response.Goals as goal

pub replay_other_seed_parsed-ended-requires-clause-can_replay : goal.replay_other_seed_parsed-ended-requires-clause-can_replay
replay_other_seed_parsed-ended-requires-clause-can_replay c = subst CanReplay (sym c.in_ok-whole.ensures) c.requires.can_replay

pub replay_other_seed_parsed-ended-requires-clause-parsed : goal.replay_other_seed_parsed-ended-requires-clause-parsed
replay_other_seed_parsed-ended-requires-clause-parsed c =
    ap (λ (p : Package). start_script (own_world p)) c.in_ok-whole.ensures ∙ c.requires.parsed

pub returns : goal.returns
returns c =
    subst (λ (p : Package). IfOk c.reseeded_response.result (λ (response : Response). response_due response ≡ reseeded_package c.args.seed c.args.budget p))
    c.in_ok-whole.ensures
    (c.reseeded_response.ensures c.args.seed c.in_ok-whole.whole c.replay_other_seed_parsed-ended.ensures.judged)
