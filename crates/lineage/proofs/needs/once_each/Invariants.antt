use Rattle.std.proofs.Common.{◌≡◌, []}
use Rattle.lineage.specs.Needing.{others_onto}
use Rattle.lineage.proofs.needs.once_each.Given as goal

abbrev pub invariant-loop-need : goal.invariant-loop-need
invariant-loop-need l = others_onto l.made l.need-iterator.rest.items ≡ others_onto [] l.fn.needs
