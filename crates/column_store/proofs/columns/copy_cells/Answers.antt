use Rattle.std.proofs.Common.{◌≡◌, ◌∙◌, ap, sym, ℕ, ◌++◌, ◌∷◌, [], get_or, rules, subst, ◌<◌, length}
use Rattle.std.proofs.lemmas.List.{get_or-map, length-map, take_more}
use Rattle.column_store.specs.Types.{Null}
use Rattle.column_store.specs.Cells.{Cells}
use Rattle.column_store.specs.Columns.{values_at, no_cells}
use Rattle.column_store.proofs.FlagLaws.{default_free}
use Rattle.column_store.proofs.columns.copy_cells.Goals as goal

pub loop-place-preserved : goal.loop-place-preserved
loop-place-preserved c =
    let columns = c.args.columns.now.items in
    let place = c.loop-place.place in
    let slot = c.args.slot in
    let within : place < length columns = search rules in
    let long : place < length (values_at columns slot) = subst (λ (n : ℕ). place < n) (sym (length-map columns (λ (column : Cells). get_or column.items slot Null))) within in
    let chosen : c.index-column.result.now ≡ get_or columns place no_cells = c.index-column.ensures ∙ default_free columns place c.index-column.result.now no_cells within in
    let cell = c.in_ok-copy_cell.ensures ∙ ap (λ (cells : Cells). get_or cells.items slot Null) chosen ∙ sym (get_or-map (λ (column : Cells). get_or column.items slot Null) columns place no_cells Null within) in
    c.in_ok-push.ensures.items ∙ (λ j. c.loop-place.invariant j ++ cell j ∷ []) ∙ sym (take_more (values_at columns slot) place Null long)
