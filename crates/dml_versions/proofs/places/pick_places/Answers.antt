use Rattle.std.proofs.Common.{◌++◌, [], List, ℕ, Option, drop, ap, sym, ◌∙◌, append-nil, subst}
use Rattle.predicates.proofs.Lists.{take-mapped}
use Rattle.predicates.specs.Placing.{own_places}
use Rattle.sql_model.specs.Kinds.{names_in}
use Rattle.sql_model.specs.Scope.{place_of, places_in}
use Rattle.dml_versions.specs.inner.Finding.{IsPickPlaced, pick_names}
use Rattle.dml_versions.specs.Types.{Expr}
use Rattle.dml_versions.proofs.places.pick_places.Goals as goal

pub returns-in_ok-take_places-in-Some : goal.returns-in_ok-take_places-in-Some
returns-in_ok-take_places-in-Some c = λ scope is.
    let names = names_in c.in-Some.expr in
    subst (λ (o : Option Expr). IsPickPlaced scope o c.take_places.new.own) (sym c.in-Some.is)
    (sym (c.in_ok-take_places-in-Some.ensures.own
    ∙ ap (λ (l : List ℕ). l ++ own_places c.in-Some.expr (drop c.args.from c.args.places.now)) c.new-own.ensures
    ∙ ap (own_places c.in-Some.expr)
    (is ∙ ap (λ (o : Option Expr). places_in scope (pick_names o)) c.in-Some.is ∙ ap (places_in scope) (append-nil names) ∙ sym (append-nil (places_in scope names)))
    ∙ take-mapped (place_of scope) names []))
