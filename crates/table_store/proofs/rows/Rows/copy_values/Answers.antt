use Rattle.std.proofs.Common.{◌≡◌, ◌∙◌, ap, Some, get_or}
use Rattle.std.proofs.lemmas.Result.{IfOk-weaker}
use Rattle.row_version.specs.History.{current_values}
use Rattle.table_store.specs.inner.Grid.{no_slot}
use Rattle.table_store.specs.Histories.{no_history}
use Rattle.table_store.specs.inner.RowHistories.{RowsHistory, past_of, ends_of}
use Rattle.table_store.proofs.RowLaws.{values_are}
use Rattle.table_store.proofs.rows.Rows.copy_values.Goals as goal

pub returns : goal.returns
returns c =
    let a = c.self.inside in
    let here = values_are (past_of a) (ends_of a) a.grid.slots c.self.invariant c.args.self.now.slots (ap (λ (r : RowsHistory). r.slots) c.self.view_is) c.args.slot c.requires.within c.requires.stands in
    let now = current_values (get_or c.args.self.now.slots c.args.slot no_history).changes in
    IfOk-weaker c.copy_values.result (λ values. values ≡ (get_or a.grid.slots c.args.slot no_slot).values) (λ values. Some values ≡ now) (λ values is. ap Some is ∙ here) c.copy_values.ensures
