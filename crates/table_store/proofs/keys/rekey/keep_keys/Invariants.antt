use Rattle.std.proofs.Common.{take}
use Rattle.std.specs.List.{AllByRecursion}
use Rattle.table_store.specs.Claims.{KeepsKey}
use Rattle.table_store.specs.Histories.{rows_now}
use Rattle.table_store.proofs.keys.rekey.keep_keys.Given as goal

abbrev pub invariant-loop-row : goal.invariant-loop-row
invariant-loop-row l = AllByRecursion (KeepsKey l.places (rows_now l.stored.slots)) (take l.row-index l.given)
