use Rattle.std.proofs.Common.{◌≡◌, take}
use Rattle.conformance.proofs.compare.first_difference.Given as goal

abbrev pub invariant-loop-index : goal.invariant-loop-index
invariant-loop-index l = take l.index l.got ≡ take l.index l.wanted
