-- The value of an expression by places is its value by names.
use Rattle.sql_model.proofs.Evaluations.{value_by_places}
use Rattle.sql_model.proofs.value.value_of.Goals as goal

pub returns : goal.returns
returns c = value_by_places c.args.expr.now c.args.row.now c.args.places.now c.in_ok-value.value c.in_ok-value.ensures.value
