use Rattle.std.proofs.Common.{◌∙◌, ◌+◌, ap, ℕ}
use Rattle.std.specs.Prelude.{◌/◌}
use Rattle.table_store.specs.inner.RowHistories.{RowsHistory, past_of, ends_of}
use Rattle.table_store.proofs.RowLaws.{rows_len, nulls_are}
use Rattle.table_store.proofs.rows.Rows.scan_nulls.Goals as goal

pub returns : goal.returns
returns c = λ n.
    let a = c.self.inside in
    c.scan_nulls.ensures n
    ∙ nulls_are (past_of a) (ends_of a) a.grid.slots c.self.invariant c.args.self.now.slots (ap (λ (r : RowsHistory). r.slots) c.self.view_is) c.args.column c.args.is_null n

pub scan_nulls-requires : goal.scan_nulls-requires
scan_nulls-requires c =
    let a = c.self.inside in
    c.requires
    ∙ ap (λ (n : ℕ). (n + 63) / 64) (rows_len (past_of a) (ends_of a) a.grid.slots c.self.invariant c.args.self.now.slots (ap (λ (r : RowsHistory). r.slots) c.self.view_is))
