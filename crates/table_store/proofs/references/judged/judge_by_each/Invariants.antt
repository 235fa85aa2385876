use Rattle.std.proofs.Common.{◌≡◌, ◌++◌, take}
use Rattle.std.specs.Prelude.{IsTrue}
use Rattle.std.specs.List.{AllByRecursion}
use Rattle.std.specs.Option.{option_or}
use Rattle.table_store.specs.inner.Judging.{stop_in_row}
use Rattle.table_store.specs.inner.ParentRows.{number_in, parents_in_row}
use Rattle.table_store.specs.Referring.{IsAtVersion}
use Rattle.table_store.proofs.references.judged.judge_by_each.Given as goal

abbrev pub invariant-loop-foreign : goal.invariant-loop-foreign
invariant-loop-foreign l = record {
  stop : l.judged.stop ≡ option_or l.fn.judged.stop (stop_in_row l.store l.given l.numbers l.own (take l.foreign-index l.foreign-items) l.values);
  versions : IsTrue l.keep → AllByRecursion (IsAtVersion l.store) l.fn.judged.parents → AllByRecursion (IsAtVersion l.store) l.judged.parents;
  parents : IsTrue l.keep → l.judged.parents ≡ l.fn.judged.parents ++ parents_in_row l.store (number_in l.given) l.numbers l.own (take l.foreign-index l.foreign-items) l.values;
}
