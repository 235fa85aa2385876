use Rattle.std.proofs.Common.{◌≡◌, take}
use Rattle.table_store.specs.TableView.{kinds_in}
use Rattle.table_store.proofs.start.texts_of.Given as goal

abbrev pub invariant-loop-column : goal.invariant-loop-column
invariant-loop-column l = l.texts.items ≡ kinds_in (take l.column-index l.column-items)
