use Rattle.std.proofs.Common.{◌∙◌, ◌<◌, ap, sym, length, arith}
use Rattle.std.specs.Cmp.Lexicographic.{slice_cmp}
use Rattle.ldv_value.specs.Order.{order}
use Rattle.sql_model.specs.Keys.{values_at as key_values}
use Rattle.table_store.specs.inner.Grid.{Rows}
use Rattle.table_store.proofs.GridLaws.{in_parts, seen_within}
use Rattle.table_store.proofs.rows.grid.Grid.compare_key.Goals as goal

pub compare_cells-requires : goal.compare_cells-requires
compare_cells-requires c = λ k below.
    let a = c.self.inside in
    let within : c.args.slot < length a.numbers.items = in_parts a.numbers.items a.since.items a.standing.items a.columns.items c.args.self.now.slots (ap (λ (r : Rows). r.slots) c.self.view_is) c.args.slot c.requires in
    omega (arith, within, c.self.invariant.long k below)

pub returns : goal.returns
returns c =
    let a = c.self.inside in
    let slot = seen_within a.numbers.items a.since.items a.standing.items a.columns.items c.args.self.now.slots (ap (λ (r : Rows). r.slots) c.self.view_is) c.args.slot c.requires in
    c.compare_cells.ensures ∙ (λ j. slice_cmp order (key_values (c.items.ensures j) (sym slot j).values) (c.items-2.ensures j))
