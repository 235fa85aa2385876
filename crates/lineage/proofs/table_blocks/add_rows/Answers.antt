use Rattle.std.proofs.Common.{◌≡◌, ◌∙◌, ◌+◌, [], ℕ, List, sym, ap, refl, subst, drop, arith}
use Rattle.std.proofs.lemmas.List.{drop_all}
use Rattle.std.specs.FinMap.{find}
use Rattle.std.specs.Option.{option_or}
use Rattle.lineage.specs.inner.Blocks.{AllRoom, found_at}
use Rattle.lineage.specs.Lineage.{Row, row_cmp}
use Rattle.lineage.proofs.Laws.{or_none}
use Rattle.lineage.proofs.RoomLaws.{row_at_place, row_first, all_stay}
use Rattle.lineage.proofs.table_blocks.add_rows.Goals as goal

pub add_row-requires-clause-kept : goal.add_row-requires-clause-kept
add_row-requires-clause-kept c = c.loop-entry.invariant.0

pub add_row-requires-clause-room : goal.add_row-requires-clause-room
add_row-requires-clause-room c =
    (subst (AllRoom c.loop-entry.blocks) (row_at_place c.args.rows.now c.loop-entry.entry-index _ c.loop-entry-test.true) c.loop-entry.invariant.1).0

pub loop-entry-preserved : goal.loop-entry-preserved
loop-entry-preserved c =
    let rows : List (Row × ℕ) = c.args.rows.now in
    let i = c.loop-entry.entry-index in
    let split = row_at_place rows i _ c.loop-entry-test.true in (
      c.add_row.ensures.kept,
      all_stay c.loop-entry.blocks c.add_row.new.blocks c.add_row.ensures.stays (drop (i + 1) rows) (subst (AllRoom c.loop-entry.blocks) split c.loop-entry.invariant.1).1,
      λ q. row_first c.loop-entry.blocks c.add_row.new.blocks _ _ (drop i rows) (drop (i + 1) rows) c.add_row.ensures.found split q ∙ c.loop-entry.invariant.2 q,
    )

pub loop-entry-init : goal.loop-entry-init
loop-entry-init c = (c.requires.kept, c.requires.room, λ q. refl)

pub returns-clause-kept : goal.returns-clause-kept
returns-clause-kept c = c.loop-entry.invariant.0

pub returns-clause-found : goal.returns-clause-found
returns-clause-found c =
    let done : drop c.loop-entry.entry-index c.args.rows.now ≡ [] = drop_all c.loop-entry.entry-index c.args.rows.now (omega (arith, c.loop-entry-test.false)) in
    λ q. sym (or_none (found_at c.loop-entry.blocks q)) ∙ ap (λ (rows : List (Row × ℕ)). option_or (found_at c.loop-entry.blocks q) (find row_cmp q rows)) (sym done) ∙ c.loop-entry.invariant.2 q
