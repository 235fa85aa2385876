use Rattle.std.proofs.Common.{rules, ◌∙◌, sym, ap, subst, Some}
use Rattle.std.specs.BTreeMap as tree
use Rattle.std.specs.BTreeMap.{Updates}
use Rattle.lineage.specs.Lineage.{Row, row_cmp}
use Rattle.lineage.proofs.RoomLaws.{put_room, put_clear, put_long, put_kept, put_stays, put_found}
use Rattle.lineage.proofs.table_blocks.put_row.Goals as goal

pub put_in-requires-clause-long : goal.put_in-requires-clause-long
put_in-requires-clause-long c = put_long c.args.blocks.now c.args.blocks.now c.args.row c.args.version c.in-Some.block.now c.in-Some.block.now
    (sym (c.in-Some.ensures.value ∙ ap (λ (b : Row). tree.get row_cmp c.args.blocks.now b) c.block_of-place.ensures)) c.requires.kept

pub put_in-requires-clause-room : goal.put_in-requires-clause-room
put_in-requires-clause-room c = put_room c.args.blocks.now c.args.blocks.now c.args.row c.args.version c.in-Some.block.now c.in-Some.block.now
    (sym (c.in-Some.ensures.value ∙ ap (λ (b : Row). tree.get row_cmp c.args.blocks.now b) c.block_of-place.ensures)) c.requires.kept c.requires.room

pub put_in-requires-clause-clear : goal.put_in-requires-clause-clear
put_in-requires-clause-clear c = put_clear c.args.blocks.now c.args.blocks.now c.args.row c.args.version c.in-Some.block.now c.in-Some.block.now
    (sym (c.in-Some.ensures.value ∙ ap (λ (b : Row). tree.get row_cmp c.args.blocks.now b) c.block_of-place.ensures)) c.requires.kept c.requires.new

pub returns-in-Some-clause-kept : goal.returns-in-Some-clause-kept
returns-in-Some-clause-kept c = put_kept c.args.blocks.now (c.get_mut.follows.lender c.put_in.new.block) c.args.row c.args.version c.in-Some.block.now c.put_in.new.block
    (sym (c.in-Some.ensures.value ∙ ap (λ (b : Row). tree.get row_cmp c.args.blocks.now b) c.block_of-place.ensures)) c.requires.kept
    (subst (λ (b : Row). Updates row_cmp c.args.blocks.now (c.get_mut.follows.lender c.put_in.new.block) b (Some c.put_in.new.block)) c.block_of-place.ensures ((c.get_mut.follows.holds c.put_in.new.block).3 (search rules))) c.put_in.ensures.words c.put_in.ensures.versions c.put_in.ensures.long

pub returns-in-Some-clause-found : goal.returns-in-Some-clause-found
returns-in-Some-clause-found c = put_found c.args.blocks.now (c.get_mut.follows.lender c.put_in.new.block) c.args.row c.args.version c.in-Some.block.now c.put_in.new.block
    (sym (c.in-Some.ensures.value ∙ ap (λ (b : Row). tree.get row_cmp c.args.blocks.now b) c.block_of-place.ensures)) c.requires.kept
    (subst (λ (b : Row). Updates row_cmp c.args.blocks.now (c.get_mut.follows.lender c.put_in.new.block) b (Some c.put_in.new.block)) c.block_of-place.ensures ((c.get_mut.follows.holds c.put_in.new.block).3 (search rules))) c.put_in.ensures.words c.put_in.ensures.versions

pub returns-in-Some-clause-stays : goal.returns-in-Some-clause-stays
returns-in-Some-clause-stays c = put_stays c.args.blocks.now (c.get_mut.follows.lender c.put_in.new.block) c.args.row c.args.version c.in-Some.block.now c.put_in.new.block
    (sym (c.in-Some.ensures.value ∙ ap (λ (b : Row). tree.get row_cmp c.args.blocks.now b) c.block_of-place.ensures)) c.requires.kept
    (subst (λ (b : Row). Updates row_cmp c.args.blocks.now (c.get_mut.follows.lender c.put_in.new.block) b (Some c.put_in.new.block)) c.block_of-place.ensures ((c.get_mut.follows.holds c.put_in.new.block).3 (search rules))) c.put_in.ensures.words c.put_in.ensures.versions c.put_in.ensures.stays
