use Rattle.std.proofs.Common.{◌≡◌, take}
use Rattle.std.specs.Prelude.{IsTrue}
use Rattle.std.specs.List.{AllByRecursion, flat_map}
use Rattle.std.specs.Option.{option_map}
use Rattle.ldv_value.specs.Options.{first_some}
use Rattle.table_store.specs.inner.Afterwards.{missing_in_row}
use Rattle.table_store.specs.inner.Judging.{has_given}
use Rattle.table_store.specs.inner.ParentRows.{number_in, parents_in_row}
use Rattle.table_store.specs.Histories.{tables_now}
use Rattle.table_store.specs.Referring.{IsAtVersion, parent_stop}
use Rattle.table_store.proofs.references.judged.judge_rows.Given as goal

abbrev pub invariant-loop-row : goal.invariant-loop-row
invariant-loop-row g l = record {
  stop : l.judged.stop ≡ option_map parent_stop (first_some (λ row. missing_in_row (has_given l.given l.numbers l.own.name) (tables_now l.store) l.own.schema.foreign (g.R.HasValues.cells row))
      (take l.row-index l.rows));
  versions : IsTrue l.keep → AllByRecursion (IsAtVersion l.store) l.judged.parents;
  parents : IsTrue l.keep → l.judged.parents ≡ flat_map (λ row. parents_in_row l.store (number_in l.given) l.numbers l.own.name l.own.schema.foreign (g.R.HasValues.cells row)) (take l.row-index l.rows);
}
