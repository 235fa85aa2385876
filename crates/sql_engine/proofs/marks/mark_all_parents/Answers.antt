use Rattle.std.proofs.Common.{◌≡◌, ◌∙◌, ap, sym, subst, arith, List, Some, length, map}
use Rattle.std.specs.Prelude.{filter, not}
use Rattle.std.specs.List.{position}
use Rattle.sql_engine.proofs.MarkLaws.{waiting-at, waits-within, finish-keeps, marks_with_parents-fewer}
use Rattle.sql_engine.specs.inner.Taking.{is_done, is_waiting, AreMarks}
use Rattle.sql_engine.specs.declared.marks.Mark.{Mark}
use Rattle.sql_engine.proofs.marks.mark_all_parents.Goals as goal

pub mark_parents_of-requires : goal.mark_parents_of-requires
mark_parents_of-requires c =
    let marks = c.tables.marks.items in
    let place = c.in-Some.place in
    let at : position is_waiting marks ≡ Some place = ap (position is_waiting) (sym c.as_slice.ensures.value) ∙ sym c.waiting_table.ensures ∙ c.in-Some.is in
    waits-within marks place (waiting-at marks place at)

pub tables-preserved : goal.tables-preserved
tables-preserved c =
    let marks = c.tables.marks.items in
    let place = c.in-Some.place in
    let at : position is_waiting marks ≡ Some place = ap (position is_waiting) (sym c.as_slice.ensures.value) ∙ sym c.waiting_table.ensures ∙ c.in-Some.is in
    λ first is.
    subst (AreMarks first c.args.catalog.now) (sym c.mark_parents_of.ensures)
    (finish-keeps first c.args.catalog.now c.requires marks place (waiting-at marks place at) (c.tables.invariant first is))

pub tables-smaller : goal.tables-smaller
tables-smaller c =
    let marks = c.tables.marks.items in
    let place = c.in-Some.place in
    let at : position is_waiting marks ≡ Some place = ap (position is_waiting) (sym c.as_slice.ensures.value) ∙ sym c.waiting_table.ensures ∙ c.in-Some.is in
    let same : length (filter not (map is_done c.mark_parents_of.new.marks.items)) ≡ _ = ap (λ (l : List Mark). length (filter not (map is_done l))) c.mark_parents_of.ensures in
    omega (arith, same, marks_with_parents-fewer c.args.catalog.now marks place (waiting-at marks place at))

pub returns-clause-none : goal.returns-clause-none
returns-clause-none c = ap (position is_waiting) (sym c.as_slice.ensures.value) ∙ sym c.waiting_table.ensures ∙ c.in_default.is
