use Rattle.std.proofs.Common.{◌∙◌}
use Rattle.std.specs.BTreeMap as tree
use Rattle.std.specs.Map.Iter.{deref_pair}
use Rattle.std.proofs.lemmas.Map.Iter.{rest_more}
use Rattle.lineage.specs.Lineage.{row_cmp}
use Rattle.lineage.proofs.RoomLaws.{all_stays, stays_twice, roomy_stays, unites_first, unites_step}
use Rattle.lineage.proofs.table_blocks.unite.Goals as goal

pub loop-place-init : goal.loop-place-init
loop-place-init c = (
  c.requires.kept,
  all_stays c.args.blocks.now,
  unites_first c.args.blocks.now c.args.others.now c.into_iter-place-iterator.result (c.into_iter-place-iterator.ensures.into_iter_gives ∙ c.iter-place-items.ensures.rest),
)

pub unite_at-requires-clause-kept : goal.unite_at-requires-clause-kept
unite_at-requires-clause-kept c = c.loop-place.invariant.0

pub unite_at-requires-clause-room : goal.unite_at-requires-clause-room
unite_at-requires-clause-room c =
    roomy_stays (tree.get row_cmp c.args.blocks.now c.in-Some.place.now) (tree.get row_cmp c.loop-place.blocks c.in-Some.place.now) (tree.get row_cmp c.args.others.now c.in-Some.place.now)
    (c.loop-place.invariant.1 c.in-Some.place.now) (c.requires.room c.in-Some.place.now)

pub loop-place-preserved : goal.loop-place-preserved
loop-place-preserved c =
    let split = rest_more deref_pair c.loop-place.place-iterator c.next.new.self c.next.result (c.in-Some.place, c.in-Some._block) c.in-Some.is c.next.ensures.steps in (
      c.unite_at.ensures.kept,
      λ p. stays_twice (tree.get row_cmp c.args.blocks.now p) (tree.get row_cmp c.loop-place.blocks p) (tree.get row_cmp c.unite_at.new.blocks p) (c.loop-place.invariant.1 p) (c.unite_at.ensures.stays p),
      unites_step c.args.blocks.now c.args.others.now c.loop-place.blocks c.unite_at.new.blocks c.loop-place.place-iterator c.next.new.self c.in-Some.place.now c.in-Some._block.now split
          c.unite_at.ensures.here c.unite_at.ensures.there c.loop-place.invariant.2,
    )
