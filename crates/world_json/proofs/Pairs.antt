-- An array of two items, read from its end.
use Rattle.std.proofs.Common.{◌≡◌, ◌≢◌, ◌+◌, List, [], ◌∷◌, ◌++◌, length, refl, ap, ◌∙◌, None, arith}
use Rattle.serde_json.specs.View.{view, items_view}
use Rattle.serde_json.specs.declared.value.Value.{Value}
use Rattle.world_json.specs.Shape.{foreign_in, foreign_of_two}

pub two_items : (items middle rest : List Value) (columns parent : Value) → items ≡ middle ++ (parent ∷ []) → middle ≡ rest ++ (columns ∷ []) → length rest ≡ 0
    → foreign_in (items_view items) ≡ foreign_of_two (view columns) (view parent)
two_items items middle [] columns parent ends begins none =
    let all : items ≡ columns ∷ parent ∷ [] = ends ∙ ap (λ (l : List Value). l ++ (parent ∷ [])) begins in
    ap (λ (l : List Value). foreign_in (items_view l)) all
two_items items middle (x ∷ rest) columns parent ends begins none = absurd (omega (arith, none))

-- another number of items is no foreign key
pub other_items : (items : List Value) → length items ≢ 2 → foreign_in (items_view items) ≡ None
other_items [] other = refl
other_items (columns ∷ []) other = refl
other_items (columns ∷ parent ∷ []) other = absurd (other refl)
other_items (columns ∷ parent ∷ more ∷ rest) other = refl
