-- The name at the place that was reached, with the numbers so far from the last to the first, is the whole name.
use Rattle.std.proofs.Common.{◌≡◌, ◌<◌, ◌++◌, length, reverse}
use Rattle.inspect.specs.inner.ProcessPlaces.{name_at}
use Rattle.inspect.proofs.process_names.numbers_above.Given as goal

abbrev pub invariant-loop-at : goal.invariant-loop-at
invariant-loop-at l = record {
  within : l.at < length l.made;
  name : name_at l.made l.at ++ reverse l.numbers.items ≡ name_at l.made l.place;
}

abbrev pub decreases-loop-at : goal.decreases-loop-at
decreases-loop-at l = l.at
