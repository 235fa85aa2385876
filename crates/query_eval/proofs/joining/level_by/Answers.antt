use Rattle.std.proofs.Common.{◌≡◌, ◌∙◌, [], arith}
use Rattle.ldv_value.proofs.Lists.{nil-from-length}
use Rattle.query_eval.proofs.SlotLevels.{untied}
use Rattle.query_eval.proofs.joining.level_by.Goals as goal

pub returns-in_ok-made-in-empty-clause-rows : goal.returns-in_ok-made-in-empty-clause-rows
returns-in_ok-made-in-empty-clause-rows g c =
    let none : c.args.ties.now ≡ [] = nil-from-length c.args.ties.now (omega (arith, c.in-empty.len_below)) in
    c.in_ok-made-in-empty.ensures.rows
    ∙ untied (g.T.SlotTest.test c.args.test.now) c.args.sources.now c.args.ties.now c.args.rows.now c.args.slots.now c.args.prefixes.now.rows none
