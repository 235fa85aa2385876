use Rattle.std.proofs.Common.{map}
use Rattle.sql_model.specs.Meaning.{Meaning}
use Rattle.group_eval.proofs.BoundLaws.{bound_read}
use Rattle.group_eval.proofs.group_value.bound_value.Goals as goal

pub returns : goal.returns
returns c =
    bound_read (λ (m : Meaning). m.value) (map (λ r. r.now) c.args.group.now) c.args.placed.now c.in_ok-bound.bound c.args.first.now c.value_of.result c.requires c.in_ok-bound.ensures c.value_of.ensures
