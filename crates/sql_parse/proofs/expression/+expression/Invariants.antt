use Rattle.std.proofs.Common.{◌≡◌, ◌≤◌, ◌+◌, ◌*◌, ◌-◌}
use Rattle.sql_model.specs.Expressions.{joins_more, within}
use Rattle.sql_model.specs.Reader.{repeat}
use Rattle.sql_parse.proofs.expression.+expression.Given as goal

abbrev pub decreases-within : goal.decreases-within
decreases-within l = 4 * l.limit

abbrev pub decreases-operand : goal.decreases-operand
decreases-operand l = 4 * l.limit + 1

abbrev pub decreases-joined_within : goal.decreases-joined_within
decreases-joined_within l = 4 * l.limit + 1

abbrev pub decreases-joins_more : goal.decreases-joins_more
decreases-joins_more l = 4 * l.limit + 2

abbrev pub decreases-chain : goal.decreases-chain
decreases-chain l = 4 * l.limit - 1

abbrev pub invariant-chain-loop-made : goal.invariant-chain-loop-made
invariant-chain-loop-made l = record {
  read : repeat (joins_more (within (l.limit - 1)) (l.limit - 1) l.least) (l.limit - l._made) l.left l.reader ≡ repeat (joins_more (within (l.limit - 1)) (l.limit - 1) l.least) l.limit l.fn.first l.fn.reader;
  depth : l.left.depth ≤ l.limit;
}
