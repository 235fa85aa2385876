use Rattle.std.proofs.Common.{◌≡◌, ◌∙◌, ◌+◌, ap, subst, ℕ}
use Rattle.table_store.specs.inner.RowHistories.{RowsHistory, past_of, ends_of}
use Rattle.std.proofs.Common.{w64, get_or}
use Rattle.std.specs.Prelude.{ℤ, ◌/◌}
use Rattle.std.proofs.lemmas.Int.{to_z-of_z}
use Rattle.lanes.specs.Sets.{member}
use Rattle.table_store.specs.inner.Grid.{no_slot, slot_passes}
use Rattle.table_store.proofs.RowLaws.{rows_len, scan_is}
use Rattle.table_store.proofs.rows.Rows.scan.Goals as goal

pub returns : goal.returns
returns c = λ n.
    let a = c.self.inside in
    subst (λ (z : ℤ). member c.scan.new.mask n ≡ slot_passes c.args.column c.args.op z (get_or a.grid.slots n no_slot)) (to_z-of_z w64 _ c.ranges.constant) (c.scan.ensures n)
    ∙ scan_is (past_of a) (ends_of a) a.grid.slots c.self.invariant c.args.self.now.slots (ap (λ (r : RowsHistory). r.slots) c.self.view_is) c.args.column c.args.op c.args.constant n

pub scan-requires-clause-mask : goal.scan-requires-clause-mask
scan-requires-clause-mask c =
    let a = c.self.inside in
    c.requires.mask
    ∙ ap (λ (n : ℕ). (n + 63) / 64) (rows_len (past_of a) (ends_of a) a.grid.slots c.self.invariant c.args.self.now.slots (ap (λ (r : RowsHistory). r.slots) c.self.view_is))
