use Rattle.sql_parse.proofs.Repeat.{steps_go, steps_stop}
use Rattle.sql_parse.proofs.steps.all_steps.Goals as goal

pub returns-then-not-going : goal.returns-then-not-going
returns-then-not-going g c = steps_stop g.S.Steps.reads _ _ _ _ _ _ _ _ c.loop-count.invariant c.loop-count-test.true c.if-not-going.true c.in_ok-next.ensures

pub loop-count-preserved : goal.loop-count-preserved
loop-count-preserved g c = steps_go g.S.Steps.reads _ _ _ _ _ _ _ _ c.loop-count.invariant c.loop-count-test.true c.if-not-going.false c.in_ok-next.ensures
