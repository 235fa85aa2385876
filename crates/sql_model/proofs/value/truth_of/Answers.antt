-- The truth of a condition by places is its truth by names.
use Rattle.sql_model.proofs.Evaluations.{truth_by_places}
use Rattle.sql_model.proofs.value.truth_of.Goals as goal

pub returns : goal.returns
returns c = truth_by_places c.args.expr.now c.args.row.now c.args.places.now c.in_ok-truth.truth c.in_ok-truth.ensures.truth
