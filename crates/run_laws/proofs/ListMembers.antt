-- Members of a list that is searched, tested, filtered or mapped.
use Rattle.std.proofs.Common.{◌≡◌, List, [], ◌∷◌, refl, sym, ap, ◌∙◌, Bool, true, false, inl, inr}
use Rattle.std.specs.Prelude.{Option, Some, None, find, filter, ◌⊎◌}
use Rattle.std.specs.List.{filter_map, cons_option, list_any}
use Rattle.std.proofs.lemmas.Bool.{cases_Bool}
use Rattle.ldv_value.proofs.Booleans.{or-left, or-right}
use Rattle.run_model.specs.Between.{IsIn}

module _ {X : Type 0} where
  pub found_in : (p : X → Bool) (xs : List X) (x : X) → find p xs ≡ Some x → IsIn x xs
  found_in p [] x is = cc
  found_in p (y ∷ ys) x is = elim (cases_Bool (p y)) [
    | inl hit ↦ let e : Some y ≡ Some x = rw hit at is in let same : y ≡ x = cc in inl (sym same)
    | inr miss ↦ inr (found_in p ys x (rw miss at is))
  ]

  -- an item that passes the test isn't missed
  pub none_in : (p : X → Bool) (xs : List X) (x : X) → find p xs ≡ None → IsIn x xs → p x ≡ false
  none_in p [] x none is = absurd is
  none_in p (y ∷ ys) x none is = elim (cases_Bool (p y)) [
    | inl hit ↦ let never : Some y ≡ None = rw hit at none in cc
    | inr miss ↦ let rest : find p ys ≡ None = rw miss at none in by (λ more. none_in p ys x rest more) miss is
  ]
    where
      by : (IsIn x ys → p x ≡ false) → p y ≡ false → (x ≡ y) ⊎ IsIn x ys → p x ≡ false
      by later miss (inl same) = ap p same ∙ miss
      by later miss (inr more) = later more

  pub any_in : (p : X → Bool) (xs : List X) → list_any p xs ≡ true → (x : X) × (IsIn x xs × (p x ≡ true))
  any_in p [] any = cc
  any_in p (y ∷ ys) any = elim (cases_Bool (p y)) [
    | inl hit ↦ (y, (inl refl, hit))
    | inr miss ↦ let more = any_in p ys (rw miss at any) in (more.0, (inr more.1.0, more.1.1))
  ]

  pub in_any : (p : X → Bool) (xs : List X) (x : X) → IsIn x xs → p x ≡ true → list_any p xs ≡ true
  in_any p [] x is hit = absurd is
  in_any p (y ∷ ys) x (inl same) hit = or-left (p y) (list_any p ys) (ap p (sym same) ∙ hit)
  in_any p (y ∷ ys) x (inr more) hit = or-right (p y) (list_any p ys) (in_any p ys x more hit)

  pub in_filter : (p : X → Bool) (xs : List X) (x : X) → IsIn x xs → p x ≡ true → IsIn x (filter p xs)
  in_filter p [] x is hit = absurd is
  in_filter p (y ∷ ys) x (inl same) hit = let here : p y ≡ true = ap p (sym same) ∙ hit in rw here (inl same)
  in_filter p (y ∷ ys) x (inr more) hit = elim (cases_Bool (p y)) [
    | inl here ↦ rw here (inr (in_filter p ys x more hit))
    | inr miss ↦ rw miss (in_filter p ys x more hit)
  ]

  pub filter_in : (p : X → Bool) (xs : List X) (x : X) → IsIn x (filter p xs) → IsIn x xs × (p x ≡ true)
  filter_in p [] x is = absurd is
  filter_in p (y ∷ ys) x is = elim (cases_Bool (p y)) [
    | inl here ↦ by (λ more. filter_in p ys x more) here (rw here at is)
    | inr miss ↦ let more = filter_in p ys x (rw miss at is) in (inr more.0, more.1)
  ]
    where
      by : (IsIn x (filter p ys) → IsIn x ys × (p x ≡ true)) → p y ≡ true → (x ≡ y) ⊎ IsIn x (filter p ys)
          → IsIn x (y ∷ ys) × (p x ≡ true)
      by later here (inl same) = (inl same, ap p same ∙ here)
      by later here (inr more) = let rest = later more in (inr rest.0, rest.1)

module _ {X Y : Type 0} (f : X → Option Y) where
  in_cons : (o : Option Y) (y : Y) (ys : List Y) → o ≡ Some y → IsIn y (cons_option o ys)
  in_cons None y ys is = cc
  in_cons (Some z) y ys is = let same : z ≡ y = cc in inl (sym same)

  in_later : (o : Option Y) (y : Y) (ys : List Y) → IsIn y ys → IsIn y (cons_option o ys)
  in_later None y ys is = is
  in_later (Some z) y ys is = inr is

  pub in_filter_map : (xs : List X) (x : X) (y : Y) → IsIn x xs → f x ≡ Some y → IsIn y (filter_map f xs)
  in_filter_map [] x y is gives = absurd is
  in_filter_map (z ∷ zs) x y (inl same) gives = in_cons (f z) y (filter_map f zs) (ap f (sym same) ∙ gives)
  in_filter_map (z ∷ zs) x y (inr more) gives = in_later (f z) y (filter_map f zs) (in_filter_map zs x y more gives)

  pub filter_map_in : (xs : List X) (y : Y) → IsIn y (filter_map f xs) → (x : X) × (IsIn x xs × (f x ≡ Some y))
  filter_map_in [] y is = absurd is
  filter_map_in (z ∷ zs) y is = by (λ more. filter_map_in zs y more) (f z) refl is
    where
      by : (IsIn y (filter_map f zs) → (x : X) × (IsIn x zs × (f x ≡ Some y))) → (o : Option Y) → f z ≡ o
          → IsIn y (cons_option o (filter_map f zs)) → (x : X) × (IsIn x (z ∷ zs) × (f x ≡ Some y))
      by later None gives is = let more = later is in (more.0, (inr more.1.0, more.1.1))
      by later (Some u) gives (inl same) = (z, (inl refl, gives ∙ ap Some (sym same)))
      by later (Some u) gives (inr is) = let more = later is in (more.0, (inr more.1.0, more.1.1))
