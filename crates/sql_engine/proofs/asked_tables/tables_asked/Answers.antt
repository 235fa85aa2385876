use Rattle.std.proofs.Common.{◌≡◌, ◌∙◌, ap, sym, subst, List, ℕ, length, map}
use Rattle.std.specs.Prelude.{filter}
use Rattle.sql_engine.proofs.MarkLaws.{first-marks, marks-are}
use Rattle.sql_engine.specs.inner.Listing.{is_in, names_first}
use Rattle.sql_engine.specs.inner.Taking.{first_mark, with_reads, is_taken, AreMarks}
use Rattle.sql_engine.specs.declared.marks.Mark.{Mark}
use Rattle.sql_model.specs.ForeignKeys.{with_parents}
use Rattle.sql_engine.proofs.asked_tables.tables_asked.Goals as goal

pub taken_names-made-requires : goal.taken_names-made-requires
taken_names-made-requires c =
    let s = c.args.statement.now in
    let reads = c.args.reads.now in
    let catalog = c.args.catalog.now in
    let fresh = c.requires.fresh in
    let first : List (List ℕ) = names_first s reads in
    let begun : c.mark_needed.new.marks.items ≡ with_reads catalog.names reads (map (first_mark s) catalog.names) =
    c.mark_needed.ensures
    ∙ (λ j. with_reads (c.items.ensures j) reads (fresh.marks_are j)) in
    let are : AreMarks first catalog c.mark_all_parents.new.marks.items =
    c.mark_all_parents.ensures.marks first (subst (AreMarks first catalog) (sym begun) (first-marks s reads catalog c.requires.paired c.requires.distinct)) in
    ap length fresh.names_are ∙ sym are.long ∙ ap length (sym c.as_slice.ensures.value)

pub returns : goal.returns
returns c =
    let s = c.args.statement.now in
    let reads = c.args.reads.now in
    let catalog = c.args.catalog.now in
    let fresh = c.requires.fresh in
    let first : List (List ℕ) = names_first s reads in
    let begun : c.mark_needed.new.marks.items ≡ with_reads catalog.names reads (map (first_mark s) catalog.names) =
    c.mark_needed.ensures
    ∙ (λ j. with_reads (c.items.ensures j) reads (fresh.marks_are j)) in
    let end : List Mark = c.mark_all_parents.new.marks.items in
    let are : AreMarks first catalog end =
    c.mark_all_parents.ensures.marks first (subst (AreMarks first catalog) (sym begun) (first-marks s reads catalog c.requires.paired c.requires.distinct)) in
    let same : map (is_in (with_parents first catalog)) catalog.names ≡ map is_taken end =
    marks-are first catalog end c.requires.paired c.requires.distinct are c.mark_all_parents.ensures.none in
    c.taken_names-made.ensures (is_in (with_parents first catalog))
    (ap (map (is_in (with_parents first catalog))) fresh.names_are ∙ same ∙ ap (map is_taken) (sym c.as_slice.ensures.value))
    ∙ ap (filter (is_in (with_parents first catalog))) fresh.names_are
