use Rattle.std.proofs.Common.{◌≡◌, ◌-◌, ℕ, get_or, length}
use Rattle.table_store.proofs.rows.version_log.cover.Given as goal

abbrev pub invariant-zeros : goal.invariant-zeros
invariant-zeros l = (k : ℕ) → get_or l.links.items k 0 ≡ get_or l.fn.links.items k 0

abbrev pub decreases-zeros : goal.decreases-zeros
decreases-zeros l = l.slots - length l.links.items
