use Rattle.std.proofs.Common.{◌≡◌, ◌∙◌, ap, sym, ℕ, List, length, get_or, rules}
use Rattle.std.specs.Prelude.{ℤ, None, slice_get}
use Rattle.column_store.specs.IntCells.{IntCells}
use Rattle.column_store.proofs.IntCellLaws.{cells_len, number_at}
use Rattle.column_store.proofs.int_column.IntColumn.values.Goals as goal

pub returns-clause-long : goal.returns-clause-long
returns-clause-long c =
    let a = c.self.inside in
    let same : length a.values.items ≡ length a.nulls.items = search rules in
    let words : c.as_slice.result.now ≡ a.values.items = search rules in
    ap (λ (l : List ℤ). length l) words ∙ same ∙ sym (cells_len a.values.items a.nulls.items same) ∙ ap (λ (cells : IntCells). length cells.items) c.self.view_is

pub returns-clause-numbers : goal.returns-clause-numbers
returns-clause-numbers c = λ n number is.
    let a = c.self.inside in
    let same : length a.values.items ≡ length a.nulls.items = search rules in
    let words : c.as_slice.result.now ≡ a.values.items = search rules in
    ap (λ (l : List ℤ). slice_get l n) words ∙ number_at a.values.items a.nulls.items n number same (ap (λ (cells : IntCells). get_or cells.items n None) c.self.view_is ∙ is)
