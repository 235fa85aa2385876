-- Tests and maps of lists that are joined or flattened, and of lists of one item.
use Rattle.std.proofs.Common.{◌≡◌, ℕ, List, [], ◌∷◌, ◌++◌, ap, ◌∙◌, refl}
use Rattle.std.specs.Prelude.{Bool, ◌&&◌, ◌||◌, map}
use Rattle.std.specs.List.{list_all, list_any, flat_map}
use Rattle.std.proofs.lemmas.List.Folds.{list_all-append, list_any-append}
use Rattle.sql_model.specs.declared.expr.ColumnName.{ColumnName}
use Rattle.sql_model.specs.Scope.{InScope, place_of, places_in}
use Rattle.sql_check.specs.inner.Sources.{is_among, all_among}
use Rattle.std.proofs.lemmas.List.{map-append}

module _ {X Y : Type 0} (p : Y → Bool) (f : X → List Y) where
  pub list_all-flat_map : (xs : List X) → list_all p (flat_map f xs) ≡ list_all (λ x. list_all p (f x)) xs
  list_all-flat_map [] = refl
  list_all-flat_map (x ∷ xs) = list_all-append p (f x) (flat_map f xs) ∙ ap (λ b. list_all p (f x) && b) (list_all-flat_map xs)

  pub list_any-flat_map : (xs : List X) → list_any p (flat_map f xs) ≡ list_any (λ x. list_any p (f x)) xs
  list_any-flat_map [] = refl
  list_any-flat_map (x ∷ xs) = list_any-append p (f x) (flat_map f xs) ∙ ap (λ b. list_any p (f x) || b) (list_any-flat_map xs)

module _ (scope : List InScope) (places : List ℕ) where
  pub all_among-append : (as_ bs : List ColumnName) → all_among scope places (as_ ++ bs) ≡ (all_among scope places as_ && all_among scope places bs)
  all_among-append as_ bs = ap (list_all (is_among places)) (map-append (place_of scope) as_ bs) ∙ list_all-append (is_among places) (places_in scope as_) (places_in scope bs)
