-- Two sorted lists merged, step by step.
use Rattle.std.proofs.Common.{◌≡◌, List, [], ◌∷◌, refl, inl}
use Rattle.std.specs.Prelude.{Option}
use Rattle.std.specs.Option.{option_or}
use Rattle.std.specs.declared.cmp.Ordering.{Ordering}
use Rattle.std.specs.declared.cmp.Ordering.TheVariants.{Less, Equal, Greater}
use Rattle.run_model.specs.Between.{IsIn}
use Rattle.joined_data.specs.Merging.{merged, first_clash}

module _ {X : Type 0} (cmp : X → X → Ordering) where
  -- an item is before all of a list, or after all of it
  abbrev pub Before : X → List X → Type 0
  Before x ys = (y : X) → IsIn y ys → cmp x y ≡ Less

  abbrev pub After : X → List X → Type 0
  After y xs = (x : X) → IsIn x xs → cmp x y ≡ Greater

  module _ (both : X → X → X) where
    pub first_alone : (x : X) (xs ys : List X) → Before x ys → merged cmp both (x ∷ xs) ys ≡ x ∷ merged cmp both xs ys
    first_alone x xs [] before = refl
    first_alone x xs (y ∷ ys) before = let less : cmp x y ≡ Less = before y (inl refl) in rw less refl

    pub second_alone : (xs : List X) (y : X) (ys : List X) → After y xs → merged cmp both xs (y ∷ ys) ≡ y ∷ merged cmp both xs ys
    second_alone [] y ys after = refl
    second_alone (x ∷ xs) y ys after = let more : cmp x y ≡ Greater = after x (inl refl) in rw more refl

    pub together : (x : X) (xs : List X) (y : X) (ys : List X) → cmp x y ≡ Equal
        → merged cmp both (x ∷ xs) (y ∷ ys) ≡ both x y ∷ merged cmp both xs ys
    together x xs y ys same = rw same refl

  module _ {C : Type 0} (differ : X → X → Option C) where
    pub first_passed : (x : X) (xs ys : List X) → Before x ys → first_clash cmp differ (x ∷ xs) ys ≡ first_clash cmp differ xs ys
    first_passed x xs [] before = refl
    first_passed x xs (y ∷ ys) before = let less : cmp x y ≡ Less = before y (inl refl) in rw less refl

    pub second_passed : (xs : List X) (y : X) (ys : List X) → After y xs → first_clash cmp differ xs (y ∷ ys) ≡ first_clash cmp differ xs ys
    second_passed [] y ys after = refl
    second_passed (x ∷ xs) y ys after = let more : cmp x y ≡ Greater = after x (inl refl) in rw more refl

    pub compared : (x : X) (xs : List X) (y : X) (ys : List X) → cmp x y ≡ Equal
        → first_clash cmp differ (x ∷ xs) (y ∷ ys) ≡ option_or (differ x y) (first_clash cmp differ xs ys)
    compared x xs y ys same = rw same refl
