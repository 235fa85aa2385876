use Rattle.std.proofs.Common.{◌≡◌, ◌+◌, ◌++◌, ◌∷◌, List, ℕ, drop, map, ap, sym, ◌∙◌}
use Rattle.std.specs.List.{flat_map}
use Rattle.ldv_value.proofs.Places.{drop_item}
use Rattle.predicates.proofs.Lists.{moved-one, take-mapped}
use Rattle.predicates.proofs.Places.{places-append, others-front}
use Rattle.predicates.specs.Placing.{own_places}
use Rattle.sql_model.specs.Kinds.{names_in}
use Rattle.sql_model.specs.Scope.{place_of, places_in}
use Rattle.dml_versions.specs.Types.{Set}
use Rattle.dml_versions.proofs.places.set_places.Goals as goal

pub loop-set-preserved : goal.loop-set-preserved
loop-set-preserved c =
    let sets = c.args.sets.now in
    let i = c.loop-set.set-index in
    let set = c.set-item.result in
    let at : List ℕ = drop c.loop-set.at c.args.places.now in
    let split : drop i sets ≡ set ∷ drop (i + 1) sets = drop_item sets i set c.loop-set-test.true c.set-item.is in
    λ scope more is.
    let before = c.loop-set.invariant scope more is in
    let mine : Set → List ℕ = λ one. places_in scope (names_in one.expr) in
    let rest : List ℕ = places_in scope (flat_map (λ one. names_in one.expr) (drop (i + 1) sets)) ++ more in
    let here : at ≡ places_in scope (names_in set.expr) ++ rest =
    before.0
    ∙ ap (λ (xs : List Set). places_in scope (flat_map (λ one. names_in one.expr) xs) ++ more) split
    ∙ places-append scope (names_in set.expr) (flat_map (λ one. names_in one.expr) (drop (i + 1) sets)) more in
    let own : c.take_places.new.own ≡ mine set = c.in_ok-take_places.ensures.own ∙ ap (λ (l : List ℕ). l ++ own_places set.expr at) c.new-own.ensures ∙ ap (own_places set.expr) here ∙ take-mapped (place_of scope) (names_in set.expr) rest in (
      others-front scope set.expr at rest (drop c.take_places.new.at c.args.places.now) here c.in_ok-take_places.ensures.others,
      ap (λ (l : List (List ℕ)). l ++ map mine (drop (i + 1) sets)) c.in_ok-push.ensures.ok
          ∙ moved-one c.loop-set.lists (map mine (drop (i + 1) sets)) c.take_places.new.own (mine set) own
          ∙ ap (λ (xs : List Set). c.loop-set.lists ++ map mine xs) (sym split)
          ∙ before.1,
    )
