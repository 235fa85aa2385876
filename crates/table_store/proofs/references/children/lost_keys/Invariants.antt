use Rattle.std.proofs.Common.{◌≡◌, List, take}
use Rattle.table_store.specs.inner.Afterwards.{in_set, loses}
use Rattle.table_store.specs.inner.Judging.{holds}
use Rattle.table_store.specs.Histories.{table_now}
use Rattle.table_store.specs.Types.{Value}
use Rattle.table_store.proofs.references.children.lost_keys.Given as goal

abbrev pub invariant-loop-number : goal.invariant-loop-number
invariant-loop-number l = (key : List Value)
    → in_set l.lost key ≡ loses (holds l.given) (take l.number-index l.numbers) (table_now l.held) key
