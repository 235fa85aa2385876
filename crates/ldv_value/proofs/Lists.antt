-- Lists: tests over them, searches in them, and their fronts.
use Rattle.std.proofs.Common.{◌≡◌, suc, zero, ℕ, List, [], ◌∷◌, ◌++◌, length, take, drop, get_or, map, Bool, true, false, ◌&&◌, ◌||◌, cond, refl, ap, subst, inl, inr, Some, IsTrue}
use Rattle.std.specs.Prelude.{find}
use Rattle.std.specs.List.{list_any, list_all, filter, AllByRecursion}
pub use Rattle.std.proofs.lemmas.List.{append-nil, nil_from_length as nil-from-length, length-append, length-map}
pub use Rattle.std.proofs.lemmas.List.Folds.{find-append, list_all-append, list_any-append, list_all-map}
pub use Rattle.std.proofs.lemmas.List.Elements.{filter-append, filter_map-append, filter_agree as filter-agree}
pub use Rattle.std.proofs.lemmas.Simd.{map-map}
use Rattle.ldv_value.proofs.Booleans.{and-first, and-second, and-from, and-parts, or-from, or-parts}
use Rattle.ldv_value.proofs.Cases.{cases-bool}
use Rattle.ldv_value.specs.Sorted.{is_strictly_sorted}

-- ---- fronts

module _ {A : Type 0} where
  pub take-front : (xs ys : List A) → take (length xs) (xs ++ ys) ≡ xs
  take-front [] ys = refl
  take-front (x ∷ xs) ys = ap (λ (l : List A). x ∷ l) (take-front xs ys)

  pub drop-front : (xs ys : List A) → drop (length xs) (xs ++ ys) ≡ ys
  drop-front [] ys = refl
  drop-front (x ∷ xs) ys = drop-front xs ys

  pub get_or-front : (xs : List A) (y : A) (ys : List A) (d : A) → get_or (xs ++ y ∷ ys) (length xs) d ≡ y
  get_or-front [] y ys d = refl
  get_or-front (x ∷ xs) y ys d = get_or-front xs y ys d

-- a zero more at the end
pub zero-last : (numbers : List ℕ) (k : ℕ) → get_or (numbers ++ 0 ∷ []) k 0 ≡ get_or numbers k 0
zero-last [] zero = refl
zero-last [] (suc k) = refl
zero-last (n ∷ ns) zero = refl
zero-last (n ∷ ns) (suc k) = zero-last ns k

-- ---- any, all and found

pub list_any-map : {X Y : Type 0} (p : Y → Bool) (f : X → Y) (xs : List X) → list_any p (map f xs) ≡ list_any (λ x. p (f x)) xs
list_any-map p f [] = refl
list_any-map p f (x ∷ xs) = ap (λ b. p (f x) || b) (list_any-map p f xs)

module _ {X : Type 0} where
  pub list_any-false : (xs : List X) → list_any (λ x. false) xs ≡ false
  list_any-false [] = refl
  list_any-false (x ∷ xs) = list_any-false xs

  -- what is found passes the test
  pub found-passes : (p : X → Bool) (xs : List X) (x : X) → find p xs ≡ Some x → p x ≡ true
  found-passes p [] x is = cc
  found-passes p (y ∷ ys) x is = elim (cases-bool (p y)) [
    | inl hit ↦ let e : Some y ≡ Some x = rw hit at is in let same : y ≡ x = cc in subst (λ (z : X). p z ≡ true) same hit
    | inr miss ↦ found-passes p ys x (rw miss at is)
  ]

  -- what is found passes each test that all pass
  pub found-all : (p q : X → Bool) (xs : List X) (x : X) → list_all q xs ≡ true → find p xs ≡ Some x → q x ≡ true
  found-all p q [] x all is = cc
  found-all p q (y ∷ ys) x all is = elim (cases-bool (p y)) [
    | inl hit ↦ let e : Some y ≡ Some x = rw hit at is in let same : y ≡ x = cc in subst (λ (z : X). q z ≡ true) same (and-first (q y) (list_all q ys) all)
    | inr miss ↦ found-all p q ys x (and-second (q y) (list_all q ys) all) (rw miss at is)
  ]

  pub all-tested : (p : X → Bool) (xs : List X) → list_all p xs ≡ true → AllByRecursion (λ x. IsTrue (p x)) xs
  all-tested p [] all = tt
  all-tested p (x ∷ xs) all = (and-first (p x) (list_all p xs) all, all-tested p xs (and-second (p x) (list_all p xs) all))

  pub tested-all : (p : X → Bool) (xs : List X) → AllByRecursion (λ x. IsTrue (p x)) xs → list_all p xs ≡ true
  tested-all p [] all = refl
  tested-all p (x ∷ xs) all = and-from (p x) (list_all p xs) all.0 (tested-all p xs all.1)

  pub all-weaker : (P Q : X → Type 0) → ((x : X) → P x → Q x) → (xs : List X) → AllByRecursion P xs → AllByRecursion Q xs
  all-weaker P Q h [] all = tt
  all-weaker P Q h (x ∷ xs) all = (h x all.0, all-weaker P Q h xs all.1)

  pub list_all-weaker : (p q : X → Bool) → ((x : X) → p x ≡ true → q x ≡ true) → (xs : List X) → list_all p xs ≡ true → list_all q xs ≡ true
  list_all-weaker p q h [] all = refl
  list_all-weaker p q h (x ∷ xs) all =
      and-from (q x) (list_all q xs) (h x (and-first (p x) (list_all p xs) all)) (list_all-weaker p q h xs (and-second (p x) (list_all p xs) all))

  pub list_all-filter : (p q : X → Bool) (xs : List X) → list_all p xs ≡ true → list_all p (filter q xs) ≡ true
  list_all-filter p q [] all = refl
  list_all-filter p q (x ∷ xs) all =
      let rest = list_all-filter p q xs (and-second (p x) (list_all p xs) all) in
      elim (q x) as (λ b. list_all p (cond b (x ∷ filter q xs) (filter q xs)) ≡ true) [
        | true ↦ and-from (p x) (list_all p (filter q xs)) (and-first (p x) (list_all p xs) all) rest
        | false ↦ rest
      ]

  pub list_any-filter : (p q : X → Bool) (xs : List X) → list_any p xs ≡ false → list_any p (filter q xs) ≡ false
  list_any-filter p q [] none = refl
  list_any-filter p q (x ∷ xs) none =
      let parts = or-parts (p x) (list_any p xs) none in
      let rest = list_any-filter p q xs parts.1 in
      elim (q x) as (λ b. list_any p (cond b (x ∷ filter q xs) (filter q xs)) ≡ false) [
        | true ↦ or-from (p x) (list_any p (filter q xs)) parts.0 rest
        | false ↦ rest
      ]

  -- two filters in either order
  pub filter-filter : (p q : X → Bool) (xs : List X) → filter p (filter q xs) ≡ filter q (filter p xs)
  filter-filter p q [] = refl
  filter-filter p q (x ∷ xs) = both (p x) (q x) refl refl (filter-filter p q xs)
    where
      both : (a b : Bool) → p x ≡ a → q x ≡ b → filter p (filter q xs) ≡ filter q (filter p xs)
          → filter p (cond b (x ∷ filter q xs) (filter q xs)) ≡ filter q (cond a (x ∷ filter p xs) (filter p xs))
      both true true ip iq rest = rw (ip, iq) (ap (λ (l : List X). x ∷ l) rest)
      both true false ip iq rest = rw iq rest
      both false true ip iq rest = rw ip rest
      both false false ip iq rest = rest

-- ---- sorted lists

-- the list of items that come in the same order is sorted where the list is
pub sorted-map : {X Y : Type 0} (p : X → X → Bool) (q : Y → Y → Bool) (f : X → Y)
    → ((a b : X) → q (f a) (f b) ≡ p a b) → (xs : List X)
    → is_strictly_sorted q (map f xs) ≡ is_strictly_sorted p xs
sorted-map p q f same [] = refl
sorted-map p q f same (x ∷ []) = refl
sorted-map p q f same (x ∷ y ∷ ys) = λ j. same x y j && sorted-map p q f same (y ∷ ys) j

-- by an order over what f gives
pub sorted-under : {X Y : Type 0} (precedes : Y → Y → Bool) (f : X → Y) (xs : List X)
    → is_strictly_sorted precedes (map f xs) ≡ is_strictly_sorted (λ a b. precedes (f a) (f b)) xs
sorted-under precedes f xs = sorted-map (λ a b. precedes (f a) (f b)) precedes f (λ a b. refl) xs

-- all have the one, and all the other
pub list_all-both : {X : Type 0} (p q : X → Bool) (xs : List X) → list_all p xs ≡ true → list_all q xs ≡ true → list_all (λ x. p x && q x) xs ≡ true
list_all-both p q [] ps qs = refl
list_all-both p q (x ∷ xs) ps qs =
    let a = and-parts (p x) (list_all p xs) ps in
    let b = and-parts (q x) (list_all q xs) qs in
    and-from (p x && q x) (list_all (λ x. p x && q x) xs) (and-from (p x) (q x) a.0 b.0) (list_all-both p q xs a.1 b.1)
