use Rattle.std.proofs.Common.{List, drop, subst}
use Rattle.predicates.proofs.ConjunctLaws.{one-condition}
use Rattle.predicates.specs.Conditions.{Adds}
use Rattle.predicates.specs.declared.placed.BoundExpr.{BoundExpr}
use Rattle.predicates.proofs.conditions.conjuncts_of.Goals as goal

pub returns : goal.returns
returns c = λ scope is.
    let pick = c.args.pick.now in
    let places = c.args.places.now in
    let left = drop c.add_conjuncts.new.at places in
    let conds : List BoundExpr = c.add_conjuncts.new.conds in
    one-condition conds pick places left
    (subst (λ (old : List BoundExpr). Adds old pick places conds left) c.new-conds.ensures c.in_ok-add_conjuncts.ensures) scope is
