use Rattle.std.proofs.Common.{◌≡◌, ◌∙◌, ◌+◌, ◌∷◌, [], sym, ap, arith, List, ℕ, drop}
use Rattle.std.specs.Prelude.{◌==◌, ◌||◌}
use Rattle.std.proofs.lemmas.List.{drop_all}
use Rattle.ldv_value.proofs.Booleans.{or-assoc, or-false}
use Rattle.ldv_value.proofs.Places.{drop_item}
use Rattle.sql_model.specs.Scope.{place_of, places_in}
use Rattle.sql_model.specs.declared.expr.ColumnName.{ColumnName}
use Rattle.sql_check.specs.inner.Sources.{is_among}
use Rattle.sql_check.proofs.columns.grouped_places.Goals as goal

pub loop-name-preserved : goal.loop-name-preserved
loop-name-preserved c = λ place.
    let scope = c.args.scope.now in
    let names = c.args.names.now in
    let i = c.loop-name.name-index in
    let name = c.name-item.result in
    let old = c.loop-name.places.items in
    let rest = is_among (places_in scope (drop (i + 1) names)) place in
    let split : drop i names ≡ name ∷ drop (i + 1) names = drop_item names i name c.loop-name-test.true c.name-item.is in
    ap (λ b. b || rest) (c.in_ok-add_place.ensures place)
    ∙ ap (λ (n : ℕ). (is_among old place || (n == place)) || rest) c.place_of.ensures
    ∙ or-assoc (is_among old place) (place_of scope name == place) rest
    ∙ ap (λ (ns : List ColumnName). is_among old place || is_among (places_in scope ns) place) (sym split)
    ∙ c.loop-name.invariant place

pub returns : goal.returns
returns c = λ place.
    let names = c.args.names.now in
    let i = c.loop-name.name-index in
    let done : drop i names ≡ [] = drop_all i names (omega (arith, c.loop-name-test.false)) in
    sym (or-false (is_among c.loop-name.places.items place))
    ∙ ap (λ (ns : List ColumnName). is_among c.loop-name.places.items place || is_among (places_in c.args.scope.now ns) place) (sym done)
    ∙ c.loop-name.invariant place
