use Rattle.std.proofs.Common.{◌-◌, arith}
use Rattle.sql_model.specs.Expressions.{joins_more, within}
use Rattle.sql_parse.proofs.Repeat.{steps_go, steps_stop}
use Rattle.sql_parse.proofs.expression.+expression.Goals as goal

pub chain-returns-then-not-more-clause-read : goal.chain-returns-then-not-more-clause-read
chain-returns-then-not-more-clause-read t c = steps_stop (joins_more (within (c.args.limit - 1)) (c.args.limit - 1) c.args.least) _ _ _ _ _ _ _ _ c.loop-made.invariant.read c.loop-made-test.true c.if-not-more.true c.in_ok-next.ensures.read

pub chain-loop-made-preserved : goal.chain-loop-made-preserved
chain-loop-made-preserved t c = record {
  read = steps_go (joins_more (within (c.args.limit - 1)) (c.args.limit - 1) c.args.least) _ _ _ _ _ _ _ _ c.loop-made.invariant.read c.loop-made-test.true c.if-not-more.false c.in_ok-next.ensures.read;
  depth = omega (arith, c.in_ok-next.ensures.depth, c.requires.some);
}
