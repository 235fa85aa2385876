use Rattle.std.proofs.Common.{◌++◌, ◌∙◌, ap, sym, List, arith}
use Rattle.std.specs.Option.{option_map, option_or}
use Rattle.std.proofs.lemmas.List.{take_all}
use Rattle.ldv_value.specs.Options.{first_some}
use Rattle.table_store.specs.inner.Afterwards.{missing_in_row}
use Rattle.table_store.specs.inner.Judging.{has_given, stop_in_row}
use Rattle.table_store.specs.inner.ParentRows.{number_in, parents_in_row}
use Rattle.table_store.specs.Histories.{tables_now}
use Rattle.table_store.specs.Referring.{parent_stop}
use Rattle.table_store.proofs.FirstLaws.{first_map}
use Rattle.table_store.proofs.JudgeLaws.{first_folds}
use Rattle.table_store.proofs.ParentLaws.{flat_more}
use Rattle.table_store.proofs.references.judged.judge_rows.Goals as goal

pub loop-row-preserved : goal.loop-row-preserved
loop-row-preserved g c =
    let cells = g.R.HasValues.cells in
    let store = c.args.store.now in
    let given = c.args.given.now in
    let ns = c.args.numbers.now in
    let own = c.args.own.now in
    let fs = own.schema.foreign in
    let miss = missing_in_row (has_given given ns own.name) (tables_now store) fs in
    let parents_by = parents_in_row store (number_in given) ns own.name fs in
    let xs = c.args.rows.now in
    let i = c.loop-row.row-index in
    let item : g.row.R.Denot = c.row-item.result in
    record {
      stop =
          c.in_ok-judge_row.ensures.stop
          ∙ (λ j. option_or (c.loop-row.invariant.stop j) (stop_in_row store given ns own.name fs (c.values.ensures j)))
          ∙ first_folds parent_stop (λ (row : g.row.R.Denot). miss (cells row)) xs i item c.loop-row-test.true c.row-item.is;
      versions = λ kept. c.in_ok-judge_row.ensures.versions kept (c.loop-row.invariant.versions kept);
      parents = λ kept.
          c.in_ok-judge_row.ensures.parents kept
          ∙ (λ j. c.loop-row.invariant.parents kept j ++ parents_by (c.values.ensures j))
          ∙ flat_more (λ (row : g.row.R.Denot). parents_by (cells row)) xs i item c.loop-row-test.true c.row-item.is;
    }

pub returns-clause-stop : goal.returns-clause-stop
returns-clause-stop g c =
    let cells = g.R.HasValues.cells in
    let own = c.args.own.now in
    let miss = missing_in_row (has_given c.args.given.now c.args.numbers.now own.name) (tables_now c.args.store.now) own.schema.foreign in
    let xs = c.args.rows.now in
    c.loop-row.invariant.stop
    ∙ ap (λ (l : List g.row.R.Denot). option_map parent_stop (first_some (λ (row : g.row.R.Denot). miss (cells row)) l)) (take_all c.loop-row.row-index xs (omega arith))
    ∙ sym (ap (option_map parent_stop) (first_map miss cells xs))
