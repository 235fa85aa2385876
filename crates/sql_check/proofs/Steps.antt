-- One step of flattening a list from the left.
use Rattle.std.proofs.Common.{◌≡◌, ℕ, ◌+◌, ◌<◌, List, ◌++◌, length, get_or, drop, ap, sym, ◌∙◌, append_assoc}
use Rattle.std.specs.List.{flat_map}
use Rattle.sql_model.specs.declared.expr.ColumnName.{ColumnName}
use Rattle.sql_model.specs.Scope.{InScope, places_in}
use Rattle.sql_check.proofs.Mapped.{places_append}
use Rattle.ldv_value.proofs.Places.{drop_item}

pub flat_step : {X Y : Type 0} (f : X → List Y) (made : List Y) (xs : List X) (i : ℕ) (x : X) → i < length xs → x ≡ get_or xs i x → (made ++ f x) ++ flat_map f (drop (i + 1) xs) ≡ made ++ flat_map f (drop i xs)
flat_step f made xs i x h e =
    append_assoc made (f x) (flat_map f (drop (i + 1) xs))
    ∙ ap (λ zs. made ++ zs) (sym (ap (flat_map f) (drop_item xs i x h e)))

pub places_step : {X : Type 0} (scope : List InScope) (f : X → List ColumnName) (made : List ℕ) (xs : List X) (i : ℕ) (x : X) → i < length xs → x ≡ get_or xs i x → (made ++ places_in scope (f x)) ++ places_in scope (flat_map f (drop (i + 1) xs)) ≡ made ++ places_in scope (flat_map f (drop i xs))
places_step scope f made xs i x h e =
    append_assoc made (places_in scope (f x)) (places_in scope (flat_map f (drop (i + 1) xs)))
    ∙ ap (λ zs. made ++ zs) (sym (places_append scope (f x) (flat_map f (drop (i + 1) xs))) ∙ ap (places_in scope) (sym (ap (flat_map f) (drop_item xs i x h e))))
