use Rattle.std.proofs.Common.{◌∙◌, ap}
use Rattle.std.specs.List.{list_any}
use Rattle.table_store.specs.Histories.{TableHistory, table_now}
use Rattle.table_store.specs.inner.Afterwards.{refers_to}
use Rattle.table_store.specs.inner.ParentRows.{last_row_with}
use Rattle.table_store.specs.Types.{Schema}
use Rattle.table_store.proofs.references.refusals.replace_judged.Goals as goal

pub judge_given-requires-clause-given : goal.judge_given-requires-clause-given
judge_given-requires-clause-given c = λ refers key.
    c.in_ok-given.ensures
    (c.is_parent-referred.ensures ∙ (λ j. list_any (λ (h : TableHistory). refers_to (c.name.ensures j) (table_now h)) (c.tables.ensures j)) ∙ refers) key
    ∙ ap (λ (s : Schema). last_row_with s.key c.args.rows.now key) c.schema.ensures

pub judge_given-requires-clause-numbers : goal.judge_given-requires-clause-numbers
judge_given-requires-clause-numbers c = c.as_slice.ensures.value ∙ c.in_ok-numbers.ensures
