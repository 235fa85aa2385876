use Rattle.std.proofs.Common.{◌≡◌, ◌+◌, ◌-◌, ℕ, length}
use Rattle.proc_core.specs.inner.Paged.{item_at}
use Rattle.proc_core.proofs.pages.fill.Given as goal

abbrev pub invariant-loop-page : goal.invariant-loop-page
invariant-loop-page g l = (i : ℕ) → item_at l.page i ≡ item_at l.fn.page i

abbrev pub decreases-loop-page : goal.decreases-loop-page
decreases-loop-page g l = l.place + 1 - length l.page
