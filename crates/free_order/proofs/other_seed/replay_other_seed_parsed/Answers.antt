use Rattle.std.proofs.Common.{Bool, sym, ap, subst}
use Rattle.replay_log.specs.Replays.{with_seed}
use Rattle.free_order.specs.OtherSeed.{by_mode, ReplaysFree}
use Rattle.free_order.specs.Private.{private_test}
use Rattle.free_order.specs.Types.{Mode}
use Rattle.free_order.proofs.OtherSeeds.{gives_same}
use Rattle.free_order.proofs.other_seed.replay_other_seed_parsed.Goals as goal

pub returns-in-Excluded-clause-same : goal.returns-in-Excluded-clause-same
returns-in-Excluded-clause-same c =
    let p = c.args.«package» in
    gives_same c.order_law.ensures c.args.budget c.args.seed p c.run_private_parsed.result
    (subst (λ (free : Bool). ReplaysFree free c.args.budget (with_seed c.args.seed p) c.run_private_parsed.result)
    (sym (ap (λ (mode : Mode). by_mode mode (private_test p.events)) c.in-Excluded.is)) c.run_private_parsed.ensures)
