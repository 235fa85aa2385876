use Rattle.std.proofs.Common.{◌≡◌, ◌++◌, List, ℕ, ap, sym, ◌∙◌, subst}
use Rattle.std.specs.List.{flat_map}
use Rattle.std.proofs.lemmas.List.{map-append}
use Rattle.sql_model.specs.Kinds.{names_in}
use Rattle.sql_model.specs.Scope.{place_of, places_in}
use Rattle.dml_versions.specs.inner.Finding.{pick_names}
use Rattle.dml_versions.specs.inner.Making.{AreSetsPlaced}
use Rattle.dml_versions.specs.Types.{Set}
use Rattle.dml_versions.proofs.places.update_places.Goals as goal

pub returns : goal.returns
returns c = λ scope is.
    let update = c.args.update.now in
    let more : List ℕ = places_in scope (pick_names update.pick) in
    let split : c.args.places.now ≡ places_in scope (flat_map (λ set. names_in set.expr) c.items.result.now) ++ more =
    is
    ∙ map-append (place_of scope) (flat_map (λ set. names_in set.expr) update.sets) (pick_names update.pick)
    ∙ ap (λ (l : List Set). places_in scope (flat_map (λ set. names_in set.expr) l) ++ more) (sym c.items.ensures) in
    let sets = c.in_ok-sets.ensures scope more split in
    (subst (λ (l : List Set). AreSetsPlaced scope l c.in_ok-sets.sets) c.items.ensures sets.0, c.in_ok-pick.ensures scope sets.1)
