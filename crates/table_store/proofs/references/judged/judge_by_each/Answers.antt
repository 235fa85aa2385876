use Rattle.std.proofs.Common.{◌++◌, ◌∙◌, ap, append_assoc, take, List, Option, true}
use Rattle.std.specs.List.{filter_map}
use Rattle.std.specs.Option.{option_or, option_to_list}
use Rattle.ldv_value.proofs.Options.{option_or-assoc}
use Rattle.table_store.specs.inner.Afterwards.{missing_put}
use Rattle.table_store.specs.inner.Judging.{has_given, stop_by, stop_in_row}
use Rattle.table_store.specs.inner.ParentRows.{number_in, parent_by}
use Rattle.table_store.specs.Histories.{tables_now}
use Rattle.table_store.specs.Referring.{parent_stop}
use Rattle.table_store.specs.Types.{Foreign, Member}
use Rattle.table_store.specs.declared.error.StoreStop.{StoreStop}
use Rattle.table_store.proofs.JudgeLaws.{first_folds}
use Rattle.table_store.proofs.ParentLaws.{options_more}
use Rattle.table_store.proofs.references.judged.judge_by_each.Goals as goal

pub loop-foreign-preserved : goal.loop-foreign-preserved
loop-foreign-preserved c =
    let store = c.args.store.now in
    let given = c.args.given.now in
    let ns = c.args.numbers.now in
    let own = c.args.own.now in
    let values = c.args.values.now in
    let by = parent_by store (number_in given) ns own values in
    let miss = missing_put (has_given given ns own) (tables_now store) values in
    let xs = c.items-foreign-items.result.now in
    let i = c.loop-foreign.foreign-index in
    let item : Foreign = c.foreign-item.result in
    let start : List Member = c.args.judged.now.parents in
    let first : Option StoreStop = c.args.judged.now.stop in
    record {
      stop =
          c.in_ok-judge_by.ensures.stop
          ∙ (λ j. option_or (c.loop-foreign.invariant.stop j) (stop_by store given ns own values item))
          ∙ option_or-assoc first (stop_in_row store given ns own (take i xs) values) (stop_by store given ns own values item)
          ∙ ap (option_or first) (first_folds parent_stop miss xs i item c.loop-foreign-test.true c.foreign-item.is);
      versions = λ kept all. c.in_ok-judge_by.ensures.versions kept (c.loop-foreign.invariant.versions kept all);
      parents = λ kept.
          c.in_ok-judge_by.ensures.parents kept
          ∙ (λ j. c.loop-foreign.invariant.parents kept j ++ option_to_list (by item))
          ∙ append_assoc start (filter_map by (take i xs)) (option_to_list (by item))
          ∙ ap (λ (l : List Member). start ++ l) (options_more by xs i item c.loop-foreign-test.true c.foreign-item.is);
    }
