use Rattle.std.proofs.Common.{◌≡◌, ◌∙◌, ap, subst, sym, List, None, rules}
use Rattle.std.proofs.lemmas.Result.{IfOk-weaker}
use Rattle.predicates.proofs.MaskLaws.{masks-fit}
use Rattle.sql_model.specs.declared.column_test.ColumnTest.{ColumnTest}
use Rattle.query_eval.specs.inner.TableScan.{left_rows}
use Rattle.query_eval.specs.StoredSources.{AreChosen}
use Rattle.table_store.specs.CellTests.{AllFitColumns}
use Rattle.query_eval.proofs.sources.rows_by_masks.Goals as goal

pub rows_left-requires : goal.rows_left-requires
rows_left-requires c =
    let columns = c.args.held.now.schema.columns in
    let masks = c.in_ok-masks.masks.items in
    let same : c.as_slice.result.now ≡ masks = search rules in
    subst (AllFitColumns columns) (sym same) (masks-fit c.args.conds.now c.args.before columns masks c.in_ok-masks.ensures)

pub returns-clause-chosen : goal.returns-clause-chosen
returns-clause-chosen c =
    let table = c.args.held.now in
    let masks = c.in_ok-masks.masks.items in
    let same : c.as_slice.result.now ≡ masks = search rules in
    IfOk-weaker c.rows_left.result (λ rows. rows ≡ left_rows c.as_slice.result.now table.slots) (AreChosen c.args.conds.now c.args.before table)
    (λ rows is. record {
      key = None;
      fixed = tt;
      masks = masks;
      given = c.in_ok-masks.ensures;
      are = is ∙ ap (λ (ms : List ColumnTest). left_rows ms table.slots) same;
    })
    c.rows_left.ensures.rows
