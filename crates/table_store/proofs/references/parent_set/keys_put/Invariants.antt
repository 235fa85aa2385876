use Rattle.std.proofs.Common.{◌≡◌, ℕ, take}
use Rattle.std.specs.BTreeMap.{get}
use Rattle.std.specs.Ordering.{nat_cmp}
use Rattle.table_store.specs.inner.ParentSet.{key_put}
use Rattle.table_store.proofs.references.parent_set.keys_put.Given as goal

abbrev pub invariant-loop-row : goal.invariant-loop-row
invariant-loop-row l = (number : ℕ) → get nat_cmp l.given number ≡ key_put l.key (take l.row-index l.rows) number
