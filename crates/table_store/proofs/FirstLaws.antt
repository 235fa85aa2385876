-- The first result that a function gives over the items of a list.
use Rattle.std.proofs.Common.{◌≡◌, ℕ, zero, suc, ◌+◌, ◌<◌, ◌≤◌, List, [], ◌∷◌, ◌++◌, length, take, get_or, refl, sym, ap, ◌∙◌, Bool, true, false, inl, inr, arith, add-one}
use Rattle.std.specs.Prelude.{Option, Some, None, is_some, map, filter, if◌then◌else◌}
use Rattle.std.proofs.lemmas.List.{take_all}
use Rattle.std.specs.List.{flat_map, filter_map, cons_option, list_any}
use Rattle.std.specs.Option.{option_map, option_and_then, option_or}
use Rattle.std.proofs.lemmas.Bool.{cases_Bool}
use Rattle.ldv_value.proofs.Booleans.{or-parts}
use Rattle.ldv_value.specs.Options.{first_some}
use Rattle.sql_model.specs.References.{first_in}

module _ {X Y : Type 0} (f : X → Option Y) where
  -- ---- a walk over the items

  first_at : (xs : List X) (k : ℕ) (d : X) → k < length xs → first_some f (take k xs) ≡ None → f (get_or xs k d) ≡ None
      → first_some f (take (suc k) xs) ≡ None
  first_at [] k d inside before here = absurd (omega (arith, inside))
  first_at (x ∷ xs) zero d inside before here = ap (λ (o : Option Y). option_or o None) here
  first_at (x ∷ xs) (suc k) d inside before here = by (λ later. first_at xs k d (omega (arith, inside)) later here) (f x) refl
    where
      by : (first_some f (take k xs) ≡ None → first_some f (take (suc k) xs) ≡ None)
          → (o : Option Y) → f x ≡ o → first_some f (take (suc (suc k)) (x ∷ xs)) ≡ None
      by more None none =
          let later : first_some f (take k xs) ≡ None = sym (ap (λ (o : Option Y). option_or o (first_some f (take k xs))) none) ∙ before in
          ap (λ (o : Option Y). option_or o (first_some f (take (suc k) xs))) none ∙ more later
      by more (Some y) some =
          let wrong : Some y ≡ None = sym (ap (λ (o : Option Y). option_or o (first_some f (take k xs))) some) ∙ before in
          cc

  pub first_more : (xs : List X) (i : ℕ) (d : X) → i < length xs → first_some f (take i xs) ≡ None → f (get_or xs i d) ≡ None
      → first_some f (take (i + 1) xs) ≡ None
  first_more xs i d inside before here = rw add-one (first_at xs i d inside before here)

  pub first_found : (xs : List X) (i : ℕ) (d : X) (y : Y) → i < length xs → first_some f (take i xs) ≡ None → f (get_or xs i d) ≡ Some y
      → first_some f xs ≡ Some y
  first_found [] i d y inside before here = absurd (omega (arith, inside))
  first_found (x ∷ xs) zero d y inside before here = ap (λ (o : Option Y). option_or o (first_some f xs)) here
  first_found (x ∷ xs) (suc i) d y inside before here = by (λ later. first_found xs i d y (omega (arith, inside)) later here) (f x) refl
    where
      by : (first_some f (take i xs) ≡ None → first_some f xs ≡ Some y) → (o : Option Y) → f x ≡ o → first_some f (x ∷ xs) ≡ Some y
      by more None none =
          let later : first_some f (take i xs) ≡ None = sym (ap (λ (o : Option Y). option_or o (first_some f (take i xs))) none) ∙ before in
          ap (λ (o : Option Y). option_or o (first_some f xs)) none ∙ more later
      by more (Some z) some =
          let wrong : Some z ≡ None = sym (ap (λ (o : Option Y). option_or o (first_some f (take i xs))) some) ∙ before in
          cc

-- ---- a walk that stops at the first

module _ {X Y Z : Type 0} (f : X → Option Y) (h : Y → Z) where
  here_some : (o : Option Z) (v : Option Y) → o ≡ option_map h v → is_some o ≡ true → (y : Y) × (v ≡ Some y)
  here_some o None is some = let wrong : false ≡ true = sym (ap is_some is) ∙ some in cc
  here_some o (Some y) is some = (y, refl)

  here_none : (o : Option Z) (v : Option Y) → o ≡ option_map h v → is_some o ≡ false → v ≡ None
  here_none o None is none = refl
  here_none o (Some y) is none = let wrong : true ≡ false = sym (ap is_some is) ∙ none in cc

  pub first_stops : (xs : List X) (i : ℕ) (d : X) (o : Option Z) → i < length xs → first_some f (take i xs) ≡ None
      → o ≡ option_map h (f (get_or xs i d)) → is_some o ≡ true → o ≡ option_map h (first_some f xs)
  first_stops xs i d o within before is some =
      let found = here_some o (f (get_or xs i d)) is some in
      is ∙ ap (option_map h) (found.1 ∙ sym (first_found f xs i d found.0 within before found.1))

  pub first_goes_on : (xs : List X) (i : ℕ) (d : X) (o : Option Z) → i < length xs → first_some f (take i xs) ≡ None
      → o ≡ option_map h (f (get_or xs i d)) → is_some o ≡ false → first_some f (take (i + 1) xs) ≡ None
  first_goes_on xs i d o within before is none = first_more f xs i d within before (here_none o (f (get_or xs i d)) is none)

  pub first_ends : (xs : List X) (i : ℕ) → length xs ≤ i → first_some f (take i xs) ≡ None → None ≡ option_map h (first_some f xs)
  first_ends xs i all before = ap (option_map h) (sym before ∙ ap (first_some f) (take_all i xs all))

-- ---- lists of lists

first_append : {Y : Type 0} (xs ys : List Y) → first_in (xs ++ ys) ≡ option_or (first_in xs) (first_in ys)
first_append [] ys = refl
first_append (x ∷ xs) ys = refl

pub first_flat : {X Y : Type 0} (f : X → List Y) (xs : List X) → first_in (flat_map f xs) ≡ first_some (λ x. first_in (f x)) xs
first_flat f [] = refl
first_flat {Y = Y} f (x ∷ xs) = first_append (f x) (flat_map f xs) ∙ ap (λ (o : Option Y). option_or (first_in (f x)) o) (first_flat f xs)

first_cons : {Y : Type 0} (o : Option Y) (ys : List Y) → first_in (cons_option o ys) ≡ option_or o (first_in ys)
first_cons None ys = refl
first_cons (Some y) ys = refl

pub first_filter_map : {X Y : Type 0} (f : X → Option Y) (xs : List X) → first_in (filter_map f xs) ≡ first_some f xs
first_filter_map f [] = refl
first_filter_map {Y = Y} f (x ∷ xs) = first_cons (f x) (filter_map f xs) ∙ ap (λ (o : Option Y). option_or (f x) o) (first_filter_map f xs)

-- ---- other items

pub first_agree : {X Y : Type 0} (f g : X → Option Y) → ((x : X) → f x ≡ g x) → (xs : List X) → first_some f xs ≡ first_some g xs
first_agree f g same [] = refl
first_agree f g same (x ∷ xs) = λ j. option_or (same x j) (first_agree f g same xs j)

pub first_map : {X Z Y : Type 0} (f : Z → Option Y) (g : X → Z) (xs : List X) → first_some f (map g xs) ≡ first_some (λ x. f (g x)) xs
first_map f g [] = refl
first_map {Y = Y} f g (x ∷ xs) = ap (λ (o : Option Y). option_or (f (g x)) o) (first_map f g xs)

pub first_filter : {X Y : Type 0} (f : X → Option Y) (p : X → Bool) (xs : List X)
    → first_some f (filter p xs) ≡ first_some (λ x. if p x then f x else None) xs
first_filter f p [] = refl
first_filter {Y = Y} f p (x ∷ xs) = elim (cases_Bool (p x)) [
  | inl hit ↦ rw hit (ap (λ (o : Option Y). option_or (f x) o) (first_filter f p xs))
  | inr miss ↦ rw miss (first_filter f p xs)
]

by_option : {Z Y : Type 0} (f : Z → Option Y) (o : Option Z) (zs : List Z)
    → first_some f (cons_option o zs) ≡ option_or (option_and_then f o) (first_some f zs)
by_option f None zs = refl
by_option f (Some z) zs = refl

pub first_filtered : {X Z Y : Type 0} (f : Z → Option Y) (g : X → Option Z) (xs : List X)
    → first_some f (filter_map g xs) ≡ first_some (λ x. option_and_then f (g x)) xs
first_filtered f g [] = refl
first_filtered {Y = Y} f g (x ∷ xs) = by_option f (g x) (filter_map g xs) ∙ ap (λ (o : Option Y). option_or (option_and_then f (g x)) o) (first_filtered f g xs)

-- ---- items of which none passes a test

pub first_none : {X Y : Type 0} (f : X → Option Y) → ((x : X) → f x ≡ None) → (xs : List X) → first_some f xs ≡ None
first_none f none [] = refl
first_none f none (x ∷ xs) = λ j. option_or (none x j) (first_none f none xs j)

pub first_none_of : {X Y : Type 0} (f : X → Option Y) (p : X → Bool) → ((x : X) → p x ≡ false → f x ≡ None) → (xs : List X) → list_any p xs ≡ false
    → first_some f xs ≡ None
first_none_of f p none [] is = refl
first_none_of f p none (x ∷ xs) is =
    let parts = or-parts (p x) (list_any p xs) is in
    λ j. option_or (none x parts.0 j) (first_none_of f p none xs parts.1 j)

pub first_agree_of : {X Y : Type 0} (f g : X → Option Y) (p : X → Bool) → ((x : X) → p x ≡ false → f x ≡ g x) → (xs : List X) → list_any p xs ≡ false
    → first_some f xs ≡ first_some g xs
first_agree_of f g p same [] is = refl
first_agree_of f g p same (x ∷ xs) is =
    let parts = or-parts (p x) (list_any p xs) is in
    λ j. option_or (same x parts.0 j) (first_agree_of f g p same xs parts.1 j)
