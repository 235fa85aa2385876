use Rattle.std.proofs.Common.{◌≡◌, ◌-◌, ℕ, get_or, length}
use Rattle.table_store.proofs.rows.version_log.cover_ends.Given as goal

abbrev pub invariant-zeros : goal.invariant-zeros
invariant-zeros l = (k : ℕ) → get_or l.ends.items k 0 ≡ get_or l.fn.ends.items k 0

abbrev pub decreases-zeros : goal.decreases-zeros
decreases-zeros l = l.slots - length l.ends.items
