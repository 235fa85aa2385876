use Rattle.replay_log.specs.Replays.{with_seed}
use Rattle.free_order.proofs.other_seed.run_seeded_parsed.Goals as goal

pub returns : goal.returns
returns c =
    c.order_result.ensures c.args.budget (with_seed c.args.seed c.args.«package») c.replay_seeded_parsed-ended.ensures
