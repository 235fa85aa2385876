use Rattle.std.proofs.Common.{◌≡◌, length}
use Rattle.ldv_value.specs.Options.{first_some}
use Rattle.joined_data.specs.Joined.{keys_clash}
use Rattle.joined_data.proofs.clash.taken_key.Given as goal

abbrev pub invariant-loop-left : goal.invariant-loop-left
invariant-loop-left l = first_some keys_clash l.left ≡ first_some keys_clash l.tables

abbrev pub decreases-loop-left : goal.decreases-loop-left
decreases-loop-left l = length l.left
