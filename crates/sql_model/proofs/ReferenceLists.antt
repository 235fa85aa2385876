-- Lists without some of their items: whether an item passes a test, and which one is first.
use Rattle.std.proofs.Common.{◌≡◌, List, [], ◌∷◌, ◌++◌, refl, sym, ap, ◌∙◌, Bool, true, false, inl, inr}
use Rattle.std.specs.Prelude.{Some, map, filter, not, ◌&&◌, ◌||◌, if◌then◌else◌}
use Rattle.std.specs.List.{flat_map, list_any, list_all}
use Rattle.std.proofs.lemmas.Bool.{cases_Bool}
use Rattle.ldv_value.proofs.Booleans.{and-parts, or-assoc}
use Rattle.sql_model.specs.References.{first_in}

-- ---- what some item has

-- where each item that passes stays, some item that is left passes exactly where some did
pub any_kept : {X : Type 0} (p k : X → Bool) (xs : List X) → list_all k (filter p xs) ≡ true
    → list_any p (filter k xs) ≡ list_any p xs
any_kept p k [] kept = refl
any_kept p k (x ∷ xs) kept = elim (cases_Bool (p x)) [
  | inl hit ↦
      let both = and-parts (k x) (list_all k (filter p xs)) (rw hit at kept) in
      rw (both.0, hit) refl
  | inr miss ↦
      let more : list_any p (filter k xs) ≡ list_any p xs = any_kept p k xs (rw miss at kept) in
      elim (cases_Bool (k x)) [
        | inl stays ↦ rw (stays, miss) more
        | inr goes ↦ rw (goes, miss) more
      ]
]

-- an item that is left passes only where one did
pub any_fewer : {X : Type 0} (p k : X → Bool) (xs : List X) → list_any p (filter k xs) ≡ true → list_any p xs ≡ true
any_fewer p k [] is = is
any_fewer p k (x ∷ xs) is = elim (cases_Bool (p x)) [
  | inl hit ↦ rw hit refl
  | inr miss ↦ elim (cases_Bool (k x)) [
    | inl stays ↦ rw miss (any_fewer p k xs (rw (stays, miss) at is))
    | inr goes ↦ rw miss (any_fewer p k xs (rw goes at is))
  ]
]

swap : (a b c : Bool) → (a || (b || c)) ≡ (b || (a || c))
swap true true c = refl
swap true false c = refl
swap false b c = refl

-- those that change, and those that don't
pub any_split : {X : Type 0} (p q : X → Bool) (xs : List X)
    → list_any p xs ≡ (list_any p (filter (λ x. not (q x)) xs) || list_any p (filter q xs))
any_split p q [] = refl
any_split p q (x ∷ xs) =
    let more : list_any p xs ≡ (list_any p (filter (λ y. not (q y)) xs) || list_any p (filter q xs)) = any_split p q xs in
    elim (cases_Bool (q x)) [
      | inl changes ↦ rw changes (ap (λ b. p x || b) more ∙ swap (p x) (list_any p (filter (λ y. not (q y)) xs)) (list_any p (filter q xs)))
      | inr stays ↦ rw stays (ap (λ b. p x || b) more ∙ sym (or-assoc (p x) (list_any p (filter (λ y. not (q y)) xs)) (list_any p (filter q xs))))
    ]

-- the same where those that change are replaced
pub any_replaced : {X : Type 0} (p q : X → Bool) (new : X → X) (xs : List X)
    → list_any p (map (λ x. if q x then new x else x) xs) ≡ (list_any p (filter (λ x. not (q x)) xs) || list_any p (map new (filter q xs)))
any_replaced p q new [] = refl
any_replaced p q new (x ∷ xs) =
    let more : list_any p (map (λ y. if q y then new y else y) xs) ≡ (list_any p (filter (λ y. not (q y)) xs) || list_any p (map new (filter q xs))) = any_replaced p q new xs in
    elim (cases_Bool (q x)) [
      | inl changes ↦ rw changes (ap (λ b. p (new x) || b) more ∙ swap (p (new x)) (list_any p (filter (λ y. not (q y)) xs)) (list_any p (map new (filter q xs))))
      | inr stays ↦ rw stays (ap (λ b. p x || b) more ∙ sym (or-assoc (p x) (list_any p (filter (λ y. not (q y)) xs)) (list_any p (map new (filter q xs)))))
    ]

-- ---- lost keys

-- A key that a row has that stays as it is (`out`) is had by no changed row before (`old`). So it doesn't matter
-- for what is lost that rows that stay as they are were left out (`few`).
pub lost_same : (few out old new : Bool) → (few ≡ true → out ≡ true) → (out ≡ true → old ≡ false)
    → ((few || old) && not (few || new)) ≡ ((out || old) && not (out || new))
lost_same true true old new less apart = refl
lost_same true false old new less apart = let wrong : false ≡ true = less refl in cc
lost_same false true old new less apart = rw (apart refl) refl
lost_same false false old new less apart = refl

-- ---- which item is first

-- What is first among all that items give is first among what those that stay give, where its item stays.
module _ {X Y : Type 0} (k : X → Bool) (ky : Y → Bool) (f : X → List Y)
    (its : (x : X) (y : Y) (ys : List Y) → f x ≡ y ∷ ys → ky y ≡ k x) where
  pub first_kept : (xs : List X) → ((y : Y) → first_in (flat_map f xs) ≡ Some y → ky y ≡ true)
      → first_in (flat_map f (filter k xs)) ≡ first_in (flat_map f xs)
  first_kept [] kept = refl
  first_kept (x ∷ xs) kept = by (λ more. first_kept xs more) (f x) refl
    where
      by : (((y : Y) → first_in (flat_map f xs) ≡ Some y → ky y ≡ true) → first_in (flat_map f (filter k xs)) ≡ first_in (flat_map f xs))
          → (l : List Y) → f x ≡ l → first_in (flat_map f (filter k (x ∷ xs))) ≡ first_in (flat_map f (x ∷ xs))
      by again [] none =
          let whole : first_in (flat_map f (x ∷ xs)) ≡ first_in (flat_map f xs) = ap (λ (l : List Y). first_in (l ++ flat_map f xs)) none in
          let more : first_in (flat_map f (filter k xs)) ≡ first_in (flat_map f xs) = again (λ y is. kept y (whole ∙ is)) in
          elim (cases_Bool (k x)) [
            | inl stays ↦ rw stays (ap (λ (l : List Y). first_in (l ++ flat_map f (filter k xs))) none ∙ more ∙ sym whole)
            | inr goes ↦ rw goes (more ∙ sym whole)
          ]
      by again (y ∷ ys) some =
          let whole : first_in (flat_map f (x ∷ xs)) ≡ Some y = ap (λ (l : List Y). first_in (l ++ flat_map f xs)) some in
          let stays : k x ≡ true = sym (its x y ys some) ∙ kept y whole in
          rw stays (ap (λ (l : List Y). first_in (l ++ flat_map f (filter k xs))) some ∙ sym whole)
