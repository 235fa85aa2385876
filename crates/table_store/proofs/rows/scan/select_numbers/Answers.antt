use Rattle.std.proofs.Common.{◌≡◌, ◌∙◌, ◌&&◌, ap, subst, sym, get_or, length, arith, w64}
use Rattle.std.specs.Prelude.{ℤ, None, is_some, slice_get}
use Rattle.lanes.specs.Sets.{member}
use Rattle.lanes.specs.Selection.{passes, holds_at}
use Rattle.std.proofs.lemmas.Int.{to_z-of_z}
use Rattle.table_store.proofs.ScanLaws.{select_cell, select_past}
use Rattle.table_store.proofs.rows.scan.select_numbers.Goals as goal

pub drop_nulls-requires-clause-clear : goal.drop_nulls-requires-clause-clear
drop_nulls-requires-clause-clear c = λ n past.
    subst (λ (z : ℤ). member c.select_i64.new.mask n ≡ holds_at c.args.op c.values.result.now z n) (to_z-of_z w64 _ c.ranges.constant) (c.select_i64.ensures n)
    ∙ select_past c.args.op c.args.constant c.values.result.now n (omega (arith, past, c.values.ensures.long))

pub returns : goal.returns
returns c = λ n.
    let cell = get_or c.args.ints.now.items n None in
    c.drop_nulls.ensures n
    ∙ ap (λ b. b && is_some cell) (subst (λ (z : ℤ). member c.select_i64.new.mask n ≡ holds_at c.args.op c.values.result.now z n) (to_z-of_z w64 _ c.ranges.constant) (c.select_i64.ensures n))
    ∙ select_cell (passes c.args.op c.args.constant) cell (slice_get c.values.result.now n) (λ number is. c.values.ensures.numbers n number is)
