use Rattle.std.proofs.Common.{◌∙◌, ◌++◌, ap, List, map}
use Rattle.std.specs.BTreeMap as tree
use Rattle.std.specs.Map.{keys_of}
use Rattle.std.specs.Map.Iter.{deref_pair}
use Rattle.std.proofs.lemmas.Map.Iter.{rest_more}
use Rattle.lineage.specs.inner.Blocks.{rows_under}
use Rattle.lineage.specs.Lineage.{Row, row_cmp, member}
use Rattle.lineage.specs.declared.blocks.Block.{Block}
use Rattle.lineage.proofs.ListedBlocks.{place_listed}
use Rattle.sql_model.specs.declared.need.Member.{Member}
use Rattle.lineage.proofs.listing.list_blocks.Goals as goal

pub loop-place-init : goal.loop-place-init
loop-place-init c =
    let names = c.args.names.now in
    ap (λ (ms : List Member). ms ++ map (member names) (rows_under (tree.get row_cmp c.args.blocks.now) (keys_of c.into_iter-place-iterator.result))) c.new-members.ensures
    ∙ ap (λ (es : List (Row × Block)). map (member names) (rows_under (tree.get row_cmp c.args.blocks.now) (keys_of es)))
    (c.into_iter-place-iterator.ensures.into_iter_gives ∙ c.iter-place-items.ensures.rest)

pub loop-place-preserved : goal.loop-place-preserved
loop-place-preserved c =
    let split = rest_more deref_pair c.loop-place.place-iterator c.next.new.self c.next.result (c.in-Some.place, c.in-Some._block) c.in-Some.is c.next.ensures.steps in
    place_listed c.args.names.now (tree.get row_cmp c.args.blocks.now) c.loop-place.place-iterator c.next.new.self c.in-Some.place.now c.in-Some._block.now
    c.loop-place.members c.list_at.new.members split c.in_ok-list_at.ensures ∙ c.loop-place.invariant
