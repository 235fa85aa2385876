use Rattle.std.proofs.Common.{◌≡◌, ◌∙◌, ◌+◌, ◌/◌, ◌&&◌, ap, sym, ℕ, List, length, get_or}
use Rattle.lanes.specs.Sets.{member}
use Rattle.ldv_value.specs.Cells.{value_at}
use Rattle.table_store.specs.Scans.{null_passes}
use Rattle.column_store.specs.Columns.{values_at}
use Rattle.table_store.specs.inner.Grid.{Slot, Rows, no_slot, slot_null}
use Rattle.table_store.proofs.GridLaws.{seen_len, nulls_slot}
use Rattle.table_store.proofs.rows.grid.Grid.scan_nulls.Goals as goal

pub copy_from_slice-requires : goal.copy_from_slice-requires
copy_from_slice-requires c =
    let a = c.self.inside in
    let long : length a.standing.items ≡ length c.args.self.now.slots = c.self.invariant.stands
    ∙ sym (seen_len a.numbers.items a.since.items a.standing.items a.columns.items c.args.self.now.slots (ap (λ (r : Rows). r.slots) c.self.view_is)) in
    c.requires ∙ ap (λ (n : ℕ). (n + 63) / 64) (sym long) ∙ sym c.words.ensures.count

pub returns : goal.returns
returns c = λ n.
    let a = c.self.inside in
    c.keep_nulls_at.ensures n
    ∙ ap (λ (words : List ℕ). member words n && null_passes c.args.is_null (value_at (values_at a.columns.items n) c.args.column)) c.copy_from_slice.ensures.after
    ∙ nulls_slot a.numbers.items a.since.items a.standing.items a.columns.items c.self.invariant.stands n (member c.words.result.now n) (c.words.ensures.bits n) (c.words.ensures.clear n) c.args.column c.args.is_null
    ∙ ap (λ (r : Rows). slot_null c.args.column c.args.is_null (get_or r.slots n no_slot)) c.self.view_is
