use Rattle.std.proofs.Common.{◌∙◌}
use Rattle.query_eval.proofs.SlotLevels.{indexed-same}
use Rattle.query_eval.proofs.joining.tied_level.Goals as goal

pub returns-clause-rows : goal.returns-clause-rows
returns-clause-rows g c =
    c.in_ok-made.ensures.rows
    ∙ indexed-same (g.T.SlotTest.test c.args.test.now) c.args.sources.now c.in_ok-asked.asked c.in_ok-index.index.map c.args.ties.now c.args.rows.now c.args.slots.now
    c.in_ok-index.ensures c.requires c.args.prefixes.now.rows c.in_ok-asked.ensures
