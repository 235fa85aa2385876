-- Facts that lists keep when some items are dropped, and the others lose a part.
use Rattle.std.proofs.Common.{◌≡◌, ℕ, ◌≤◌, List, [], ◌∷◌, length, map, filter, Option, Some, None, refl, ap, ◌∙◌, Bool, true, false, if◌then◌else◌, filter_map, nat_le, arith, inl, inr}
use Rattle.std.specs.List.{list_all, list_any, cons_option, AllByRecursion}
use Rattle.std.proofs.lemmas.Bool.{and_parts, and_from, or_parts, or_from, cases_Bool}
use Rattle.std.proofs.lemmas.Bool.Decides.{nat_tests}
use Rattle.sql_model.proofs.SortedLists.{sorted-all, first-all}
use Rattle.package_layout.specs.inner.Order.{is_below_next, rises}
use Rattle.sql_model.specs.Keys.{repeats}

pub kept_if : {A : Type 0} (b : Bool) (z y : A) → (if b then Some z else None) ≡ Some y → y ≡ z
kept_if true z y is = cc
kept_if false z y is = cc

pub shorter_still : (short long limit : ℕ) → short ≤ long → nat_le long limit ≡ true → nat_le short limit ≡ true
shorter_still short long limit less within = grind (arith, nat_tests)

-- ---- an item is below all that come later

abbrev pub Chains : {A : Type 0} → (A → A → Bool) → Type 0
Chains {A} r = (a b c : A) → r a b ≡ true → r b c ≡ true → r a c ≡ true

-- ---- one item more, or none

module _ {Y : Type 0} where
  all_more : (p : Y → Bool) (o : Option Y) (ys : List Y) → ((y : Y) → o ≡ Some y → p y ≡ true) → list_all p ys ≡ true → list_all p (cons_option o ys) ≡ true
  all_more p None ys one rest = rest
  all_more p (Some y) ys one rest = and_from (p y) (list_all p ys) (one y refl) rest

  typed_more : (P : Y → Type 0) (o : Option Y) (ys : List Y) → ((y : Y) → o ≡ Some y → P y) → AllByRecursion P ys → AllByRecursion P (cons_option o ys)
  typed_more P None ys one rest = rest
  typed_more P (Some y) ys one rest = (one y refl, rest)

  rises_more : (below : Y → Y → Bool) (o : Option Y) (ys : List Y) → ((y : Y) → o ≡ Some y → is_below_next below y ys ≡ true) → rises below ys ≡ true → rises below (cons_option o ys) ≡ true
  rises_more below None ys one rest = rest
  rises_more below (Some y) ys one rest = and_from (is_below_next below y ys) (rises below ys) (one y refl) rest

  shorter_more : (o : Option Y) (y : Y) (ys zs : List Y) → length ys ≤ length zs → length (cons_option o ys) ≤ length (y ∷ zs)
  shorter_more None y ys zs less = omega arith
  shorter_more (Some x) y ys zs less = omega arith

module _ {Y L : Type 0} (h : Y → L) where
  none_more : (p : L → Bool) (o : Option Y) (ys : List Y) → ((y : Y) → o ≡ Some y → p (h y) ≡ false) → list_any p (map h ys) ≡ false → list_any p (map h (cons_option o ys)) ≡ false
  none_more p None ys one rest = rest
  none_more p (Some y) ys one rest = or_from (p (h y)) (list_any p (map h ys)) (one y refl) rest

  unique_more : (same : L → L → Bool) (o : Option Y) (ys : List Y) → ((y : Y) → o ≡ Some y → list_any (same (h y)) (map h ys) ≡ false) → repeats same (map h ys) ≡ false → repeats same (map h (cons_option o ys)) ≡ false
  unique_more same None ys one rest = rest
  unique_more same (Some y) ys one rest = or_from (list_any (same (h y)) (map h ys)) (repeats same (map h ys)) (one y refl) rest

-- ---- all items: `g` has each whole, `f` keeps some of it or drops it

module _ {X Y : Type 0} (g : X → Y) (f : X → Option Y) where
  pub tests_stay : (p q : Y → Bool) → ((x : X) (y : Y) → f x ≡ Some y → p (g x) ≡ true → q y ≡ true) → (xs : List X) → list_all p (map g xs) ≡ true → list_all q (filter_map f xs) ≡ true
  tests_stay p q keeps [] all = refl
  tests_stay p q keeps (x ∷ xs) all =
      let both = and_parts (p (g x)) (list_all p (map g xs)) all in
      all_more q (f x) (filter_map f xs) (λ y is. keeps x y is both.0) (tests_stay p q keeps xs both.1)

  pub types_stay : (P : Y → Type 0) → ((x : X) (y : Y) → f x ≡ Some y → P (g x) → P y) → (xs : List X) → AllByRecursion P (map g xs) → AllByRecursion P (filter_map f xs)
  types_stay P keeps [] all = tt
  types_stay P keeps (x ∷ xs) all = typed_more P (f x) (filter_map f xs) (λ y is. keeps x y is all.0) (types_stay P keeps xs all.1)

  pub no_longer : (xs : List X) → length (filter_map f xs) ≤ length (map g xs)
  no_longer [] = omega arith
  no_longer (x ∷ xs) = shorter_more (f x) (g x) (filter_map f xs) (map g xs) (no_longer xs)

  pub within_still : (xs : List X) (limit : ℕ) → nat_le (length (map g xs)) limit ≡ true → nat_le (length (filter_map f xs)) limit ≡ true
  within_still xs limit within = shorter_still (length (filter_map f xs)) (length (map g xs)) limit (no_longer xs) within

  -- what is kept has the key of the whole item
  module _ {K : Type 0} (key : Y → K) (keeps : (x : X) (y : Y) → f x ≡ Some y → key y ≡ key (g x)) where
    abbrev by_key : (K → K → Bool) → Y → Y → Bool
    by_key r a b = r (key a) (key b)

    pub rises_still : (r : K → K → Bool) → Chains r → (xs : List X) → rises (by_key r) (map g xs) ≡ true → rises (by_key r) (filter_map f xs) ≡ true
    rises_still r chains [] all = refl
    rises_still r chains (x ∷ xs) all =
        let both = and_parts (is_below_next (by_key r) (g x) (map g xs)) (rises (by_key r) (map g xs)) all in
        let chained : Chains (by_key r) = λ a b c. chains (key a) (key b) (key c) in
        let later : list_all (by_key r (g x)) (map g xs) ≡ true = sorted-all (by_key r) chained (g x) (map g xs) all in
        let kept : list_all (by_key r (g x)) (filter_map f xs) ≡ true =
        tests_stay (by_key r (g x)) (by_key r (g x)) (λ z y is hit. ap (r (key (g x))) (keeps z y is) ∙ hit) xs later in
        rises_more (by_key r) (f x) (filter_map f xs)
        (λ y is. first-all (by_key r) chained y (filter_map f xs) (ap (λ (k : K). list_all (λ z. r k (key z)) (filter_map f xs)) (keeps x y is) ∙ kept))
        (rises_still r chains xs both.1)

    module _ {L : Type 0} (h : K → L) where
      abbrev at_key : Y → L
      at_key y = h (key y)

      pub none_still : (p : L → Bool) (xs : List X) → list_any p (map at_key (map g xs)) ≡ false → list_any p (map at_key (filter_map f xs)) ≡ false
      none_still p [] none = refl
      none_still p (x ∷ xs) none =
          let both = or_parts (p (at_key (g x))) (list_any p (map at_key (map g xs))) none in
          none_more at_key p (f x) (filter_map f xs) (λ y is. ap (λ (k : K). p (h k)) (keeps x y is) ∙ both.0) (none_still p xs both.1)

      pub unique_still : (same : L → L → Bool) (xs : List X) → repeats same (map at_key (map g xs)) ≡ false → repeats same (map at_key (filter_map f xs)) ≡ false
      unique_still same [] none = refl
      unique_still same (x ∷ xs) none =
          let both = or_parts (list_any (same (at_key (g x))) (map at_key (map g xs))) (repeats same (map at_key (map g xs))) none in
          unique_more at_key same (f x) (filter_map f xs)
          (λ y is. ap (λ (k : K). list_any (same (h k)) (map at_key (filter_map f xs))) (keeps x y is) ∙ none_still (same (at_key (g x))) xs both.0)
          (unique_still same xs both.1)

-- some items, each with what is kept of it
pub some_kept : {X Y : Type 0} (p : X → Bool) (h : X → Y) (xs : List X) → map h (filter p xs) ≡ filter_map (λ x. if p x then Some (h x) else None) xs
some_kept p h [] = refl
some_kept p h (x ∷ xs) = elim (cases_Bool (p x)) [
  | inl hit ↦ rw hit (ap (λ ys. h x ∷ ys) (some_kept p h xs))
  | inr miss ↦ rw miss (some_kept p h xs)
]
