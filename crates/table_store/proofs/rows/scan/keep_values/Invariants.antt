use Rattle.std.proofs.Common.{◌≡◌, ℕ, ◌<◌, ◌≤◌, ◌&&◌, get_or}
use Rattle.lanes.specs.Sets.{member}
use Rattle.table_store.specs.Scans.{null_passes}
use Rattle.table_store.specs.Types.{Null}
use Rattle.table_store.proofs.rows.scan.keep_values.Given as goal

abbrev pub invariant-loop-slot : goal.invariant-loop-slot
invariant-loop-slot l =
    ((n : ℕ) → n < l.slot → member l.mask n ≡ (member l.fn.mask n && null_passes l.is_null (get_or l.values n Null)))
    × ((n : ℕ) → l.slot ≤ n → member l.mask n ≡ member l.fn.mask n)
