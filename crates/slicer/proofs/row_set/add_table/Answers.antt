use Rattle.std.proofs.Common.{◌≡◌, ◌∙◌, ◌||◌, ◌==◌, ap, sym, refl, List, ℕ}
use Rattle.std.specs.Prelude.{Option}
use Rattle.std.specs.BTreeMap.{BTreeMap}
use Rattle.std.proofs.lemmas.Result.{on_ok_weaker}
use Rattle.slicer.specs.inner.Rows.{has_number, has_among, has_row}
use Rattle.slicer.proofs.RowSetLaws.{rows_written, no_numbers}
use Rattle.slicer.proofs.row_set.add_table.Goals as goal

pub returns : goal.returns
returns c =
    let old = c.args.rows.now in
    let numbers = c.add_number.new.numbers in
    let table = c.args.table.now in
    let steps : (r : ℕ) → has_number numbers r ≡ ((c.args.row == r) || has_row old table r) =
    λ r. c.in_ok-add_number.ensures r
    ∙ ap (λ b. (c.args.row == r) || b)
    (no_numbers c.new-numbers.result c.new-numbers.ensures.empty r ∙ ap (λ (o : Option (BTreeMap ℕ (List ℕ))). has_among o r) (sym c.requires)) in
    on_ok_weaker c.put_table.result
    (λ updates. rows_written old c.put_table.new.rows table (λ r. c.args.row == r) numbers updates (λ a b. a || b) (λ b. refl) steps)
    c.put_table.ensures
