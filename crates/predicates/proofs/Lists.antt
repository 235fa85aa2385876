-- Lists.
use Rattle.std.proofs.Common.{◌≡◌, ◌==◌, ℕ, zero, suc, ◌+◌, ◌<◌, Bool, true, false, cond, arith, List, [], ◌∷◌, ◌++◌, map, length, take, drop, get_or, refl, sym, ap, ◌∙◌, inl, inr, append_assoc, add-one, drop-cons}
use Rattle.std.specs.List.{AllByRecursion}
use Rattle.std.specs.Prelude.{filter, slice_get, IfSome, Option, Some, None}
use Rattle.std.proofs.lemmas.Bool.{cases_Bool}
use Rattle.std.proofs.lemmas.Bool.Decides.{Decides-eqb}
use Rattle.ldv_value.proofs.Booleans.{true≢false}

-- an item moved from those that are left to those that are made
pub moved-one : {X : Type 0} (made rest : List X) (x y : X) → x ≡ y → (made ++ x ∷ []) ++ rest ≡ made ++ y ∷ rest
moved-one made rest x y same = append_assoc made (x ∷ []) rest ∙ ap (λ z. made ++ z ∷ rest) same

-- what is taken of none, and left of it
pub none-taken : (X : Type 0) (n : ℕ) → ◌≡◌ {A = List X} [] (take n [])
none-taken X zero = refl
none-taken X (suc n) = refl

pub none-left : (X : Type 0) (n : ℕ) → ◌≡◌ {A = List X} [] (drop n [])
none-left X zero = refl
none-left X (suc n) = refl

pub take-joined : {A B : Type 0} (xs ys : List A) (l : List B) → take (length (xs ++ ys)) l ≡ take (length xs) l ++ take (length ys) (drop (length xs) l)
take-joined [] ys l = refl
take-joined {A} {B} (x ∷ xs) ys [] = none-taken B (length ys)
take-joined (x ∷ xs) ys (y ∷ l) = ap (λ r. y ∷ r) (take-joined xs ys l)

pub drop-joined : {A B : Type 0} (xs ys : List A) (l : List B) → drop (length (xs ++ ys)) l ≡ drop (length ys) (drop (length xs) l)
drop-joined [] ys l = refl
drop-joined {A} {B} (x ∷ xs) ys [] = none-left B (length ys)
drop-joined (x ∷ xs) ys (y ∷ l) = drop-joined xs ys l

-- the same below a function
pub moved-mapped : {A B C : Type 0} (f : A → C) (g : B → C) (made : List A) (x : A) (y : B) (rest : List B) → f x ≡ g y
    → map f (made ++ x ∷ []) ++ map g rest ≡ map f made ++ map g (y ∷ rest)
moved-mapped f g [] x y rest same = ap (λ z. z ∷ map g rest) same
moved-mapped f g (m ∷ made) x y rest same = ap (λ l. f m ∷ l) (moved-mapped f g made x y rest same)

-- as many as were mapped, at the front
pub take-mapped : {A B : Type 0} (f : A → B) (xs : List A) (more : List B) → take (length xs) (map f xs ++ more) ≡ map f xs
take-mapped f [] more = refl
take-mapped f (x ∷ xs) more = ap (λ l. f x ∷ l) (take-mapped f xs more)

pub drop-mapped : {A B : Type 0} (f : A → B) (xs : List A) (more : List B) → drop (length xs) (map f xs ++ more) ≡ more
drop-mapped f [] more = refl
drop-mapped f (x ∷ xs) more = drop-mapped f xs more

-- an item that passes a test, or doesn't
module _ {X : Type 0} (test : X → Bool) (old : List X) (x : X) (met : Bool) (is : met ≡ test x) where
  pub kept-one : met ≡ true → (new : List X) → new ≡ old ++ x ∷ [] → (rest : List X) → new ++ filter test rest ≡ old ++ filter test (x ∷ rest)
  kept-one passes new made rest =
      ap (λ l. l ++ filter test rest) made
      ∙ append_assoc old (x ∷ []) (filter test rest)
      ∙ ap (λ b. old ++ cond b (x ∷ filter test rest) (filter test rest)) (sym (sym is ∙ passes))

  pub left-one : met ≡ false → (rest : List X) → old ++ filter test rest ≡ old ++ filter test (x ∷ rest)
  left-one fails rest = ap (λ b. old ++ cond b (x ∷ filter test rest) (filter test rest)) (sym (sym is ∙ fails))

module _ {X : Type 0} where
  -- a filter after another is one that tests both
  pub both_filters : (p q r : X → Bool) → ((x : X) → r x ≡ cond (q x) (p x) false) → (xs : List X) → filter p (filter q xs) ≡ filter r xs
  both_filters p q r is [] = refl
  both_filters p q r is (x ∷ xs) = elim (cases_Bool (q x)) [
    | inl hit ↦
        let same : r x ≡ p x = is x ∙ ap (λ b. cond b (p x) false) hit in
        rw (hit, same) (ap (λ l. cond (p x) (x ∷ l) l) (both_filters p q r is xs))
    | inr miss ↦
        let same : r x ≡ false = is x ∙ ap (λ b. cond b (p x) false) miss in
        rw (miss, same) (both_filters p q r is xs)
  ]

  -- a second filter that leaves out nothing more
  pub kept_twice : (p q : X → Bool) (xs : List X) → AllByRecursion (λ x. p x ≡ true → q x ≡ true) xs → filter p (filter q xs) ≡ filter p xs
  kept_twice p q [] implied = refl
  kept_twice p q (x ∷ xs) implied = elim (cases_Bool (q x)) [
    | inl hit ↦ rw hit (ap (λ l. cond (p x) (x ∷ l) l) (kept_twice p q xs implied.1))
    | inr miss ↦ elim (cases_Bool (p x)) [
      | inl passes ↦ absurd (true≢false (sym (implied.0 passes) ∙ miss))
      | inr fails ↦ rw (miss, fails) (kept_twice p q xs implied.1)
    ]
  ]

  -- a filter that leaves out nothing
  pub all_kept : (p : X → Bool) → ((x : X) → p x ≡ true) → (xs : List X) → filter p xs ≡ xs
  all_kept p all [] = refl
  all_kept p all (x ∷ xs) = rw (all x) (ap (λ l. x ∷ l) (all_kept p all xs))

pub none-counted : {X : Type 0} (xs : List X) → (length xs == 0) ≡ true → xs ≡ []
none-counted [] is = refl
none-counted (x ∷ xs) is = let none : length (x ∷ xs) ≡ 0 = (Decides-eqb (length (x ∷ xs)) 0).0 is in absurd (omega (arith, none))

pub IfSome-weaker : {X : Type 0} (o : Option X) (P Q : X → Type 0) → ((x : X) → P x → Q x) → IfSome o P → IfSome o Q
IfSome-weaker None P Q weaker holds = tt
IfSome-weaker (Some x) P Q weaker holds = weaker x holds

pub drop-number : (xs : List ℕ) (i : ℕ) → i < length xs → drop i xs ≡ get_or xs i 0 ∷ drop (i + 1) xs
drop-number xs i below = drop-cons xs i 0 below ∙ ap (λ (n : ℕ). get_or xs i 0 ∷ drop n xs) (sym (add-one i))

-- an item of a list that each item of another became, with one item more at its end
pub got-mapped : {A B : Type 0} (f : A → B) (xs : List A) (last : B) (i : ℕ) (x : A) → slice_get xs i ≡ Some x → slice_get (map f xs ++ last ∷ []) i ≡ Some (f x)
got-mapped f [] last i x is = cc
got-mapped f (y ∷ xs) last zero x is = let same : y ≡ x = cc in ap (λ z. Some (f z)) same
got-mapped f (y ∷ xs) last (suc i) x is = got-mapped f xs last i x is
