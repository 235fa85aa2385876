use Rattle.std.proofs.Common.{◌≡◌, length}
use Rattle.proc_core.specs.inner.SlotReplies.{slot_with_values}
use Rattle.proc_core.proofs.FetchedValues.{slot_with_last}
use Rattle.proc_core.proofs.instructions.replies.set_values.Given as goal

abbrev pub invariant-loop-slots : goal.invariant-loop-slots
invariant-loop-slots l = slot_with_last l.slots l.left.items l.process ≡ slot_with_values l.to l.fn.row l.fn.process

abbrev pub decreases-loop-slots : goal.decreases-loop-slots
decreases-loop-slots l = length l.slots
