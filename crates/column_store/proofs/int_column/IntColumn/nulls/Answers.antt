use Rattle.std.proofs.Common.{◌≡◌, ◌∙◌, ◌+◌, ◌/◌, ap, sym, ℕ, length, get_or, rules, arith}
use Rattle.std.specs.Prelude.{None, is_none}
use Rattle.column_store.specs.IntCells.{IntCells}
use Rattle.column_store.proofs.IntCellLaws.{cells_len, null_at}
use Rattle.column_store.proofs.int_column.IntColumn.nulls.Goals as goal

pub returns-clause-long : goal.returns-clause-long
returns-clause-long c =
    let a = c.self.inside in
    let same : length a.values.items ≡ length a.nulls.items = search rules in
    let long : length c.args.self.now.items ≡ length a.nulls.items = sym (ap (λ (cells : IntCells). length cells.items) c.self.view_is) ∙ cells_len a.values.items a.nulls.items same in
    c.words.ensures.count ∙ ap (λ (n : ℕ). (n + 63) / 64) (sym long)

pub returns-clause-bits : goal.returns-clause-bits
returns-clause-bits c = λ n below.
    let a = c.self.inside in
    let same : length a.values.items ≡ length a.nulls.items = search rules in
    let long : length c.args.self.now.items ≡ length a.nulls.items = sym (ap (λ (cells : IntCells). length cells.items) c.self.view_is) ∙ cells_len a.values.items a.nulls.items same in
    c.words.ensures.bits n (omega (arith, below, long)) ∙ null_at a.values.items a.nulls.items n same (omega (arith, below, long)) ∙ ap (λ (cells : IntCells). is_none (get_or cells.items n None)) c.self.view_is

pub returns-clause-clear : goal.returns-clause-clear
returns-clause-clear c = λ n past.
    let a = c.self.inside in
    let same : length a.values.items ≡ length a.nulls.items = search rules in
    let long : length c.args.self.now.items ≡ length a.nulls.items = sym (ap (λ (cells : IntCells). length cells.items) c.self.view_is) ∙ cells_len a.values.items a.nulls.items same in
    c.words.ensures.clear n (omega (arith, past, long))
