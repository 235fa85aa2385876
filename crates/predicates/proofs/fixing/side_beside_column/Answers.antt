use Rattle.predicates.proofs.FixingLaws.{column_constant, constant_column}
use Rattle.predicates.proofs.fixing.side_beside_column.Goals as goal

pub returns-then-is_column : goal.returns-then-is_column
returns-then-is_column c = λ value constant. column_constant c.args.left.now c.args.right.now value (c.is_column.ensures c.if-is_column.true) constant

pub returns-then-is_column-2 : goal.returns-then-is_column-2
returns-then-is_column-2 c = λ value constant. constant_column c.args.left.now c.args.right.now value constant (c.is_column-2.ensures c.if-is_column-2.true)
