-- Items, each once, at the place where it comes first.
use Rattle.std.proofs.Common.{◌≡◌, ◌∙◌, sym, ap, refl, Bool, true, false, not, cond, ◌||◌, List, [], ◌∷◌, ◌++◌}
use Rattle.std.specs.Prelude.{if◌then◌else◌}
use Rattle.std.specs.List.{filter, list_any, AllByRecursion}
use Rattle.std.specs.Cmp.{IsEquivalence}
use Rattle.std.proofs.lemmas.Map.Views.{any-filter_same}
use Rattle.ldv_value.proofs.ItemLists.{all_filter}
use Rattle.ldv_value.proofs.Lists.{append-nil, filter-append, list_any-filter}
use Rattle.trace_graph.specs.Graph.{distinct_items}

-- an item at the end, if none that is the same is there
abbrev pub with_item : {X : Type 0} → (X → X → Bool) → List X → X → List X
with_item same xs x = if list_any (same x) xs then xs else xs ++ x ∷ []

module _ {X : Type 0} (same : X → X → Bool) (p : X → Bool) (xs : List X) (x : X) where
  -- a filter that leaves the item out, and one that keeps it
  filter_out : p x ≡ false → filter p (with_item same xs x) ≡ filter p xs
  filter_out out = by (list_any (same x) xs)
    where
      by : (b : Bool) → filter p (if b then xs else xs ++ x ∷ []) ≡ filter p xs
      by true = refl
      by false = filter-append p xs (x ∷ []) ∙ ap (λ b. filter p xs ++ cond b (x ∷ []) []) out ∙ append-nil (filter p xs)

  filter_kept : p x ≡ true → list_any (same x) (filter p xs) ≡ list_any (same x) xs
      → filter p (with_item same xs x) ≡ with_item same (filter p xs) x
  filter_kept kept any = by (list_any (same x) xs) any
    where
      by : (b : Bool) → list_any (same x) (filter p xs) ≡ b
          → filter p (if b then xs else xs ++ x ∷ []) ≡ with_item same (filter p xs) x
      by true is = sym (ap (λ c. if c then filter p xs else filter p xs ++ x ∷ []) is)
      by false is =
          filter-append p xs (x ∷ []) ∙ ap (λ b. filter p xs ++ cond b (x ∷ []) []) kept
          ∙ sym (ap (λ c. if c then filter p xs else filter p xs ++ x ∷ []) is)

under_head : {X : Type 0} (y x : X) (xs : List X) (b : Bool)
    → y ∷ (if b then xs else xs ++ x ∷ []) ≡ (if (false || b) then y ∷ xs else (y ∷ xs) ++ x ∷ [])
under_head y x xs true = refl
under_head y x xs false = refl

-- with an item that isn't the same as the head
pub with_item-cons : {X : Type 0} (same : X → X → Bool) (y x : X) (xs : List X) → same x y ≡ false
    → y ∷ with_item same xs x ≡ with_item same (y ∷ xs) x
with_item-cons same y x xs apart =
    under_head y x xs (list_any (same x) xs)
    ∙ sym (ap (λ c. if (c || list_any (same x) xs) then y ∷ xs else (y ∷ xs) ++ x ∷ []) apart)

-- with one that is the same
pub with_item-head : {X : Type 0} (same : X → X → Bool) (y x : X) (xs : List X) → same x y ≡ true
    → with_item same (y ∷ xs) x ≡ y ∷ xs
with_item-head same y x xs hit = ap (λ c. if (c || list_any (same x) xs) then y ∷ xs else (y ∷ xs) ++ x ∷ []) hit

module _ {X : Type 0} {same : X → X → Bool} (laws : IsEquivalence same) where
  -- what is the same as the item isn't the same as another from which the item is apart
  apart_stays : (y x k : X) → same x y ≡ false → same x k ≡ true → not (same y k) ≡ true
  apart_stays y x k apart hit = ap not (laws.symm y k ∙ sym (laws.congr x k y hit) ∙ apart)

  any_apart : (y x : X) (xs : List X) → same x y ≡ false
      → list_any (same x) (filter (λ z. not (same y z)) xs) ≡ list_any (same x) xs
  any_apart y x xs apart =
      any-filter_same (same x) (λ z. not (same y z)) true (λ k hit. apart_stays y x k apart hit) xs

  -- one item more at the end
  pub distinct_more : (xs : List X) (x : X) → distinct_items same (xs ++ x ∷ []) ≡ with_item same (distinct_items same xs) x
  distinct_more [] x = refl
  distinct_more (y ∷ ys) x =
      ap (λ l. y ∷ filter (λ z. not (same y z)) l) (distinct_more ys x) ∙ by (same x y) refl
    where
      by : (b : Bool) → same x y ≡ b
          → y ∷ filter (λ z. not (same y z)) (with_item same (distinct_items same ys) x)
          ≡ with_item same (y ∷ filter (λ z. not (same y z)) (distinct_items same ys)) x
      by true hit =
          ap (λ l. y ∷ l) (filter_out same (λ z. not (same y z)) (distinct_items same ys) x (ap not (laws.symm y x ∙ hit)))
          ∙ sym (with_item-head same y x (filter (λ z. not (same y z)) (distinct_items same ys)) hit)
      by false apart =
          ap (λ l. y ∷ l) (filter_kept same (λ z. not (same y z)) (distinct_items same ys) x
          (ap not (laws.symm y x ∙ apart)) (any_apart y x (distinct_items same ys) apart))
          ∙ with_item-cons same y x (filter (λ z. not (same y z)) (distinct_items same ys)) apart

  -- each item has one that is the same
  pub any_distinct : (xs : List X) (x : X) → list_any (same x) (distinct_items same xs) ≡ list_any (same x) xs
  any_distinct [] x = refl
  any_distinct (y ∷ ys) x = by (any_distinct ys x) (same x y) refl
    where
      by : list_any (same x) (distinct_items same ys) ≡ list_any (same x) ys → (b : Bool) → same x y ≡ b
          → (same x y || list_any (same x) (filter (λ z. not (same y z)) (distinct_items same ys)))
          ≡ (same x y || list_any (same x) ys)
      by rest true hit =
          ap (λ c. c || list_any (same x) (filter (λ z. not (same y z)) (distinct_items same ys))) hit
          ∙ sym (ap (λ c. c || list_any (same x) ys) hit)
      by rest false apart = ap (λ c. same x y || c) (any_apart y x (distinct_items same ys) apart ∙ rest)

-- ---- no two the same

abbrev pub AllApart : {X : Type 0} → (X → X → Bool) → List X → Type 0
AllApart same [] = Unit {0}
AllApart same (x ∷ xs) = (list_any (same x) xs ≡ false) × AllApart same xs

-- a filter finds nothing that was not there
apart_filter : {X : Type 0} (same : X → X → Bool) (p : X → Bool) (xs : List X) → AllApart same xs → AllApart same (filter p xs)
apart_filter same p [] apart = tt
apart_filter same p (x ∷ xs) apart = by (apart_filter same p xs apart.1) (p x)
  where
    by : AllApart same (filter p xs) → (b : Bool) → AllApart same (cond b (x ∷ filter p xs) (filter p xs))
    by rest true = (list_any-filter (same x) p xs apart.0, rest)
    by rest false = rest

list_any-filter-not : {X : Type 0} (q : X → Bool) (xs : List X) → list_any q (filter (λ z. not (q z)) xs) ≡ false
list_any-filter-not q [] = refl
list_any-filter-not q (x ∷ xs) = by (list_any-filter-not q xs) (q x) refl
  where
    by : list_any q (filter (λ z. not (q z)) xs) ≡ false → (b : Bool) → q x ≡ b
        → list_any q (cond (not b) (x ∷ filter (λ z. not (q z)) xs) (filter (λ z. not (q z)) xs)) ≡ false
    by rest true is = rest
    by rest false is = ap (λ c. c || list_any q (filter (λ z. not (q z)) xs)) is ∙ rest

pub distinct_apart : {X : Type 0} (same : X → X → Bool) (xs : List X) → AllApart same (distinct_items same xs)
distinct_apart same [] = tt
distinct_apart same (x ∷ xs) =
    (list_any-filter-not (same x) (distinct_items same xs), apart_filter same (λ y. not (same x y)) (distinct_items same xs) (distinct_apart same xs))

-- ---- what holds of each

pub all_distinct : {X : Type 0} (P : X → Type 0) (same : X → X → Bool) (xs : List X) → AllByRecursion P xs → AllByRecursion P (distinct_items same xs)
all_distinct P same [] all = tt
all_distinct P same (x ∷ xs) all = (all.0, all_filter P (λ y. not (same x y)) (distinct_items same xs) (all_distinct P same xs all.1))
