use Rattle.std.proofs.Common.{◌∙◌, sym, arith}
use Rattle.script_parse.proofs.Magnitude.{magnitude_fails}
use Rattle.script_parse.proofs.number.all_digits.Goals as goal

pub returns-in_err-number : goal.returns-in_err-number
returns-in_err-number c =
    c.from_residual.ensures ∙ sym (c.loop-b.invariant.due ∙ magnitude_fails _ c.args.digits.now _ (omega arith) (sym c.with_digit.ensures ∙ c.in_err-number.was))
