use Rattle.std.proofs.Common.{◌∙◌, ap}
use Rattle.table_store.specs.inner.RowHistories.{RowsHistory, past_of, ends_of}
use Rattle.std.specs.Prelude.{Some}
use Rattle.std.specs.Cmp.Lexicographic.{slice_cmp}
use Rattle.ldv_value.specs.Order.{order}
use Rattle.sql_model.specs.Keys.{values_at}
use Rattle.table_store.proofs.RowLaws.{in_slots, key_is}
use Rattle.table_store.proofs.rows.Rows.compare_key.Goals as goal

pub returns : goal.returns
returns c =
    let a = c.self.inside in
    ap Some c.compare_key.ensures
    ∙ key_is (past_of a) (ends_of a) a.grid.slots c.self.invariant c.args.self.now.slots (ap (λ (r : RowsHistory). r.slots) c.self.view_is) c.args.slot c.requires.within c.requires.stands (λ row. slice_cmp order (values_at c.args.places.now row) c.args.values.now)

pub compare_key-requires : goal.compare_key-requires
compare_key-requires c =
    let a = c.self.inside in
    in_slots (past_of a) (ends_of a) a.grid.slots c.self.invariant c.args.self.now.slots (ap (λ (r : RowsHistory). r.slots) c.self.view_is) c.args.slot c.requires.within
