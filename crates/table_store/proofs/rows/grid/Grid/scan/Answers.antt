use Rattle.std.proofs.Common.{◌≡◌, ◌∙◌, ◌<◌, ◌+◌, ◌/◌, ap, sym, subst, ℕ, List, length, get_or, w64, ◌&&◌}
use Rattle.std.specs.Prelude.{ℤ}
use Rattle.lanes.specs.Sets.{member}
use Rattle.std.proofs.lemmas.Int.{to_z-of_z}
use Rattle.table_store.specs.Types.{Null}
use Rattle.column_store.specs.Cells.{Cells}
use Rattle.table_store.specs.Scans.{passes_test}
use Rattle.column_store.specs.Columns.{no_cells}
use Rattle.table_store.specs.inner.Grid.{Slot, Rows, no_slot, slot_passes, slots_of}
use Rattle.column_store.proofs.FlagLaws.{default_free}
use Rattle.table_store.proofs.GridLaws.{seen_len, scan_slot, column_within}
use Rattle.table_store.proofs.rows.grid.Grid.scan.Goals as goal

pub select-requires-clause-mask : goal.select-requires-clause-mask
select-requires-clause-mask c =
    let a = c.self.inside in
    let there : c.args.column < length a.columns.items = (column_within a.columns.items c.args.self.now.kinds (ap (λ (r : Rows). r.kinds) c.self.view_is) c.args.column c.requires.column).0 in
    let chosen : c.index-chosen.result.now ≡ get_or a.columns.items c.args.column no_cells = c.index-chosen.ensures ∙ default_free a.columns.items c.args.column c.index-chosen.result.now no_cells there in
    let long : length c.index-chosen.result.now.items ≡ length c.args.self.now.slots = ap (λ (cells : Cells). length cells.items) chosen ∙ c.self.invariant.long c.args.column there
    ∙ sym (seen_len a.numbers.items a.since.items a.standing.items a.columns.items c.args.self.now.slots (ap (λ (r : Rows). r.slots) c.self.view_is)) in
    c.requires.mask ∙ ap (λ (n : ℕ). (n + 63) / 64) (sym long)

pub and_into-requires : goal.and_into-requires
and_into-requires c =
    let a = c.self.inside in
    let long : length a.standing.items ≡ length c.args.self.now.slots = c.self.invariant.stands
    ∙ sym (seen_len a.numbers.items a.since.items a.standing.items a.columns.items c.args.self.now.slots (ap (λ (r : Rows). r.slots) c.self.view_is)) in
    c.select.auto.mask ∙ c.requires.mask ∙ ap (λ (n : ℕ). (n + 63) / 64) (sym long) ∙ sym c.words.ensures.count

pub returns : goal.returns
returns c = λ n.
    let a = c.self.inside in
    let op = c.args.op in
    let k = c.args.constant in
    let slots : slots_of a.numbers.items a.since.items a.standing.items a.columns.items ≡ c.args.self.now.slots = ap (λ (r : Rows). r.slots) c.self.view_is in
    let there : c.args.column < length a.columns.items = (column_within a.columns.items c.args.self.now.kinds (ap (λ (r : Rows). r.kinds) c.self.view_is) c.args.column c.requires.column).0 in
    let chosen : c.index-chosen.result.now ≡ get_or a.columns.items c.args.column no_cells = c.index-chosen.ensures ∙ default_free a.columns.items c.args.column c.index-chosen.result.now no_cells there in
    let picked : member c.select.new.mask n ≡ passes_test op k (get_or c.index-chosen.result.now.items n Null) =
    subst (λ (z : ℤ). member c.select.new.mask n ≡ passes_test op z (get_or c.index-chosen.result.now.items n Null)) (to_z-of_z w64 _ c.ranges.constant) (c.select.ensures n) in
    c.and_into.ensures n ∙ ap (λ b. b && member c.words.result.now n) (picked ∙ ap (λ (cells : Cells). passes_test op k (get_or cells.items n Null)) chosen)
    ∙ scan_slot a.numbers.items a.since.items a.standing.items a.columns.items a.next c.args.column op k c.self.invariant there n (member c.words.result.now n) (λ below. c.words.ensures.bits n below)
    ∙ ap (λ (l : List Slot). slot_passes c.args.column op k (get_or l n no_slot)) slots
