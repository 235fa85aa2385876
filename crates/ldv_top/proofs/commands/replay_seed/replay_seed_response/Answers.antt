use Rattle.std.proofs.Common.{◌≡◌, subst}
use Rattle.std.specs.Prelude.{IfOk}
use Rattle.ldv_value.proofs.Booleans.{and-second}
use Rattle.package_codec.specs.CompactPackages.{expanded_package}
use Rattle.ldv_top.specs.declared.response.Response.{Response}
use Rattle.ldv_top.specs.Due.{DueOutput, response_due}
use Rattle.ldv_top.proofs.SeedLaws.{reseeded_read}
use Rattle.ldv_top.proofs.commands.replay_seed.replay_seed_response.Goals as goal

pub parsed_response-requires-clause-can_replay : goal.parsed_response-requires-clause-can_replay
parsed_response-requires-clause-can_replay c =
    c.can_replay_law.ensures (expanded_package c.in-Ok.parsed.cut) (and-second _ _ c.in-Ok.ensures.found.1)

pub returns-in-Ok : goal.returns-in-Ok
returns-in-Ok c =
    subst (λ (d : DueOutput). IfOk c.parsed_response.result (λ (response : Response). response_due response ≡ d))
    (reseeded_read c.args.seed c.args.budget (expanded_package c.in-Ok.parsed.cut) c.args.input c.requires.short c.in-Ok.ensures.reading)
    c.parsed_response.ensures
