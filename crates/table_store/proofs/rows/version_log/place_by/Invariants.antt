use Rattle.std.proofs.Common.{◌≡◌, ◌-◌, ◌<◌, ◌≤◌, get_or, length, take}
use Rattle.row_version.specs.History.{as_of}
use Rattle.table_store.specs.inner.Past.{no_version, past}
use Rattle.table_store.proofs.rows.version_log.place_by.Given as goal

abbrev pub invariant-back : goal.invariant-back
invariant-back l = record {
  within : l.link ≤ length l.held;
  own : 0 < l.link → (get_or l.held (l.link - 1) no_version).slot ≡ l.slot;
  left : as_of (past (take l.link l.held) l.slot) l.time ≡ as_of (past l.held l.slot) l.time;
}

abbrev pub decreases-back : goal.decreases-back
decreases-back l = l.link
