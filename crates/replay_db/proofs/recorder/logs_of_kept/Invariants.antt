use Rattle.std.proofs.Common.{◌≡◌, []}
use Rattle.replay_db.specs.inner.KeptGroups.{grouped_onto}
use Rattle.replay_db.proofs.recorder.logs_of_kept.Given as goal

abbrev pub invariant-loop-kept : goal.invariant-loop-kept
invariant-loop-kept l =
    grouped_onto l.logs.items l.kept-iterator.rest.items ≡ grouped_onto [] l.fn.sorted.items
