use Rattle.std.proofs.Common.{map, drop, List, ℕ, ◌++◌, ◌∙◌, ap}
use Rattle.lineage.specs.declared.answer.Pick.{Pick}
use Rattle.group_eval.proofs.BoundLaws.{settle-Aggregate}
use Rattle.predicates.specs.Placing.{own_places}
use Rattle.group_eval.proofs.group_value.bind_fold.Goals as goal

pub returns : goal.returns
returns c = λ own.
    let picks : List Pick = map (λ r. r.now) c.args.group.now in
    let places : List ℕ = drop c.args.at.now c.args.places.now in
    settle-Aggregate picks c.args.fold c.args.argument.now c.in_ok-aggregate.field-0 places own c.take_places.new.own (drop c.take_places.new.at c.args.places.now)
    (c.in_ok-take_places.ensures.own ∙ ap (λ (l : List ℕ). l ++ own_places c.args.argument.now places) c.new-taken.ensures)
    c.in_ok-take_places.ensures.others c.in_ok-aggregate.ensures
