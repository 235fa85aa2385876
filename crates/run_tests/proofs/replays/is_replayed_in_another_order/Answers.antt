use Rattle.ldv_value.proofs.Booleans.{and-second}
use Rattle.run_tests.proofs.replays.is_replayed_in_another_order.Goals as goal

pub replay_other_seed-requires-clause-can_replay : goal.replay_other_seed-requires-clause-can_replay
replay_other_seed-requires-clause-can_replay c = c.can_replay_law.ensures c.args.package.now (and-second _ _ c.requires)
