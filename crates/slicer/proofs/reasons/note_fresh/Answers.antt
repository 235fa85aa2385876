use Rattle.std.proofs.Common.{◌∙◌, sym}
use Rattle.std.proofs.lemmas.Result.{on_ok_weaker}
use Rattle.slicer.proofs.DueLaws.{read_noted, read_passed}
use Rattle.slicer.proofs.reasons.note_fresh.Goals as goal

pub returns-then-is_noted : goal.returns-then-is_noted
returns-then-is_noted c =
    on_ok_weaker c.note_need.result
    (read_noted c.args.initial_rows.now c.args.fresh.now c.args.statement c.args.need.now c.args.reasons.now c.note_need.new.reasons
    (sym c.is_noted.ensures ∙ c.if-is_noted.true))
    c.note_need.ensures

pub returns : goal.returns
returns c = read_passed c.args.initial_rows.now c.args.fresh.now c.args.statement c.args.need.now c.args.reasons.now (sym c.is_noted.ensures ∙ c.if-is_noted.false)
