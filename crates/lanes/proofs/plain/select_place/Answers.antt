use Rattle.std.proofs.Common.{◌≡◌, ◌==◌, ◌||◌, ◌∙◌, Bool, true, ap, sym, get_or, pos, w64, SFits, rules}
use Rattle.std.proofs.lemmas.Int.{to_z-of_z}
use Rattle.lanes.specs.Sets.{member}
use Rattle.lanes.specs.Selection.{holds_at}
use Rattle.lanes.proofs.PlainLaws.{held, and-when_true}
use Rattle.lanes.proofs.plain.select_place.Goals as goal

pub returns : goal.returns
returns c n =
    let fit : SFits w64 c.args.constant = c.ranges.constant in
    let read : SFits w64 (get_or c.args.column.now c.args.place (pos 0)) = search rules in
    let is = simp to_z-of_z at c.compares.ensures in
    let on : c.compares.result ≡ true = c.if-not-compares.false in
    let passed : holds_at c.args.op c.args.column.now c.args.constant c.args.place ≡ true = held c.args.op c.args.column.now c.args.constant c.args.place c.requires.within ∙ sym is ∙ on in
    c.insert.ensures n ∙ ap (λ (b : Bool). b || member c.args.mask.now n) (sym (and-when_true (n == c.args.place) _ passed))
