-- Expressions at the front of a list of places.
use Rattle.std.proofs.Common.{◌≡◌, ◌∙◌, sym, ap, ℕ, ◌+◌, List, [], ◌∷◌, ◌++◌, drop, append_assoc}
use Rattle.std.specs.List.{flat_map}
use Rattle.std.proofs.lemmas.List.{map-append}
use Rattle.predicates.proofs.Lists.{take-mapped, drop-mapped}
use Rattle.predicates.specs.Placing.{own_places, other_places, IsPlaced, AreAllPlaced}
use Rattle.predicates.specs.Types.{ColumnName, Expr}
use Rattle.predicates.specs.declared.placed.BoundExpr.{BoundExpr}
use Rattle.sql_model.specs.Kinds.{names_in}
use Rattle.sql_model.specs.Scope.{InScope, place_of, places_in}

module _ (scope : List InScope) where
  pub places-append : (a b : List ColumnName) (more : List ℕ) → places_in scope (a ++ b) ++ more ≡ places_in scope a ++ (places_in scope b ++ more)
  places-append a b more = ap (λ l. l ++ more) (map-append (place_of scope) a b) ∙ append_assoc (places_in scope a) (places_in scope b) more

  -- the places that come first are those of the expression
  pub placed-front : (e : Expr) (l more : List ℕ) (placed : BoundExpr) → l ≡ places_in scope (names_in e) ++ more → placed.expr ≡ e → placed.places ≡ own_places e l
      → IsPlaced scope placed
  placed-front e l more placed is expr places =
      ap (λ (x : Expr). places_in scope (names_in x)) expr
      ∙ sym (places ∙ ap (own_places e) is ∙ take-mapped (place_of scope) (names_in e) more)

  pub others-front : (e : Expr) (l more new : List ℕ) → l ≡ places_in scope (names_in e) ++ more → new ≡ other_places e l → new ≡ more
  others-front e l more new is left = left ∙ ap (other_places e) is ∙ drop-mapped (place_of scope) (names_in e) more

  pub placed-more : (made : List BoundExpr) (placed : BoundExpr) → AreAllPlaced scope made → IsPlaced scope placed → AreAllPlaced scope (made ++ placed ∷ [])
  placed-more [] placed all one = (one, tt)
  placed-more (m ∷ made) placed all one = (all.0, placed-more made placed all.1 one)

  -- the places of items from an index on
  abbrev pub places_from : {X : Type 0} → (X → Expr) → List X → ℕ → List ℕ
  places_from expr items i = places_in scope (flat_map (λ x. names_in (expr x)) (drop i items))

  -- those of the item there are at the front
  pub item-front : {X : Type 0} (expr : X → Expr) (items : List X) (i : ℕ) (item : X) (l more : List ℕ) → drop i items ≡ item ∷ drop (i + 1) items
      → l ≡ places_from expr items i ++ more → l ≡ places_in scope (names_in (expr item)) ++ (places_from expr items (i + 1) ++ more)
  item-front {X} expr items i item l more split is =
      is
      ∙ ap (λ (xs : List X). places_in scope (flat_map (λ x. names_in (expr x)) xs) ++ more) split
      ∙ places-append (names_in (expr item)) (flat_map (λ x. names_in (expr x)) (drop (i + 1) items)) more

  -- and they are passed over
  pub item-passed : {X : Type 0} (expr : X → Expr) (items : List X) (i : ℕ) (item : X) (l new more : List ℕ) → drop i items ≡ item ∷ drop (i + 1) items
      → l ≡ places_from expr items i ++ more → new ≡ other_places (expr item) l → new ≡ places_from expr items (i + 1) ++ more
  item-passed expr items i item l new more split is passed =
      others-front (expr item) l (places_from expr items (i + 1) ++ more) new (item-front expr items i item l more split is) passed
