use Rattle.std.proofs.lemmas.Result.{on_ok_weaker}
use Rattle.slicer.proofs.DueLaws.{block_noted}
use Rattle.slicer.proofs.reasons.note_block.Goals as goal

pub returns : goal.returns
returns c =
    on_ok_weaker c.note_all_fresh.result
    (block_noted c.args.reasons.now c.note_all_fresh.new.reasons c.args.initial_rows.now c.args.needed.now c.fresh_rows.new.needed c.in_ok-fresh.fresh c.args.statement
    c.args.needs.now c.in_ok-fresh.ensures.needed c.in_ok-fresh.ensures.fresh)
    c.note_all_fresh.ensures
