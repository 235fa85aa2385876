use Rattle.std.proofs.Common.{◌≡◌, subst}
use Rattle.std.specs.Prelude.{IfOk}
use Rattle.ldv_value.proofs.Booleans.{and-second}
use Rattle.package_codec.specs.CompactPackages.{expanded_package}
use Rattle.replay_db.proofs.OwnWorlds.{own_runs}
use Rattle.ldv_top.specs.declared.response.Response.{Response}
use Rattle.ldv_top.specs.Due.{DueOutput, response_due}
use Rattle.ldv_top.proofs.BareLaws.{bare_replays, replay_read}
use Rattle.ldv_top.proofs.commands.replay.replay_response.Goals as goal

pub replay_package-requires-clause-can_run : goal.replay_package-requires-clause-can_run
replay_package-requires-clause-can_run c =
    own_runs (expanded_package c.in-Ok.parsed.cut) c.in-Ok.ensures.found.0 c.in-Ok.ensures.found.1

pub replay_package-requires-clause-can_replay : goal.replay_package-requires-clause-can_replay
replay_package-requires-clause-can_replay c =
    bare_replays c.in-Ok.parsed.cut (c.can_replay_law.ensures (expanded_package c.in-Ok.parsed.cut) (and-second _ _ c.in-Ok.ensures.found.1))

pub returns-in-Ok : goal.returns-in-Ok
returns-in-Ok c =
    subst (λ (d : DueOutput). IfOk c.replay_package.result (λ (response : Response). response_due response ≡ d))
    (replay_read c.in-Ok.parsed.cut c.args.input c.requires.short c.in-Ok.ensures.reading c.args.budget)
    c.replay_package.ensures
