use Rattle.std.proofs.Common.{◌≡◌, take}
use Rattle.column_store.specs.Columns.{kinds_of, AreLong}
use Rattle.column_store.proofs.columns.empty_columns.Given as goal

abbrev pub invariant-loop-text : goal.invariant-loop-text
invariant-loop-text l = record {
  kinds : kinds_of l.columns.items ≡ take l.text-index l.texts;
  empty : AreLong 0 l.columns.items;
}
