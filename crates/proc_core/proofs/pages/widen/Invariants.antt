use Rattle.std.proofs.Common.{◌≡◌, ◌+◌, ◌-◌, ℕ, length}
use Rattle.proc_core.specs.inner.Paged.{page_at}
use Rattle.proc_core.proofs.pages.widen.Given as goal

abbrev pub invariant-loop-pages : goal.invariant-loop-pages
invariant-loop-pages g l = (i : ℕ) → page_at l.pages.items i ≡ page_at l.fn.pages.items i

abbrev pub decreases-loop-pages : goal.decreases-loop-pages
decreases-loop-pages g l = l.place + 1 - length l.pages.items
