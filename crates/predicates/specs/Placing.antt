-- Expressions with the places of their columns.
use Rattle.std.specs.Prelude.{◌≡◌, ℕ, List, [], ◌∷◌, ◌++◌, map, length, take, drop}
use Rattle.predicates.specs.declared.placed.BoundExpr.{BoundExpr}
use Rattle.sql_model.specs.Kinds.{names_in}
use Rattle.sql_model.specs.Refusals.{names_of_items}
use Rattle.sql_model.specs.Scope.{InScope, places_in}
use Rattle.predicates.specs.Types.{Expr, Item}

-- the places that an expression takes of a list of places, and those that it leaves
abbrev pub own_places : Expr → List ℕ → List ℕ
own_places expr places = take (length (names_in expr)) places

abbrev pub other_places : Expr → List ℕ → List ℕ
other_places expr places = drop (length (names_in expr)) places

-- the places are those that its names have in a scope
abbrev pub IsPlaced : List InScope → BoundExpr → Type 0
IsPlaced scope placed = places_in scope (names_in placed.expr) ≡ placed.places

abbrev pub AreAllPlaced : List InScope → List BoundExpr → Type 0
AreAllPlaced scope [] = Unit {0}
AreAllPlaced scope (placed ∷ rest) = IsPlaced scope placed × AreAllPlaced scope rest

-- the placed expressions are those of the items, and the places are taken from the front
abbrev pub PlacesItems : List Item → List BoundExpr → List ℕ → List ℕ → Type 0
PlacesItems items placed places left =
    (map (λ p. p.expr) placed ≡ map (λ item. item.expr) items)
    × ((scope : List InScope) (more : List ℕ) → places ≡ places_in scope (names_of_items items) ++ more
    → (left ≡ more) × AreAllPlaced scope placed)
