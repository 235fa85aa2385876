use Rattle.std.proofs.Common.{◌≡◌, ◌++◌, ap, ◌∙◌, List, ℕ, [], ◌∷◌, refl}
use Rattle.std.specs.Prelude.{◌&&◌, ◌||◌, not}
use Rattle.std.specs.List.{list_all}
use Rattle.sql_model.specs.Refusals.{groups, item_places, having_places, has_ungrouped_column}
use Rattle.sql_model.specs.Scope.{places_in}
use Rattle.sql_check.specs.inner.Sources.{is_among, AreSamePlaces}
use Rattle.sql_check.proofs.columns.lacks_in_scope.Goals as goal

-- the same places have the same ones among them
all_same : (places others : List ℕ) → AreSamePlaces places others → (tested : List ℕ)
    → list_all (is_among places) tested ≡ list_all (is_among others) tested
all_same places others same [] = refl
all_same places others same (place ∷ tested) = λ j. same place j && all_same places others same tested j

pub returns-else-not-core_resolves : goal.returns-else-not-core_resolves
returns-else-not-core_resolves c =
    let scope = c.args.scope.now in
    let core = c.args.core.now in
    c.has_ungrouped_column.ensures
    ∙ ap (λ b. groups core && not b)
    (all_same c.args.grouped.now (places_in scope core.group) c.requires (item_places scope core.items ++ having_places scope core.having))
    ∙ ap (λ b. not b || has_ungrouped_column scope core) c.if-not-core_resolves.ensures
