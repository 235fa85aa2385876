-- Every stable sort gives the same list, whatever its steps. Sorting a part of a list gives that part of the
-- sorted list.
use Rattle.std.proofs.Common.{◌≡◌, ℕ, suc, ◌+◌, List, [], ◌∷◌, get_or, refl, sym, ap, ◌∙◌, subst, Bool, true, false, inl, inr, arith}
use Rattle.std.specs.Prelude.{filter, not, ◌&&◌, if◌then◌else◌}
use Rattle.std.specs.Cmp.{IsTotalOrder}
use Rattle.std.specs.List.Sorted.{IsSortedBy, IsStableBy, ties}
use Rattle.std.specs.declared.cmp.Ordering.{Ordering}
use Rattle.std.specs.declared.cmp.Ordering.TheVariants.{Less, Equal, Greater}
use Rattle.std.specs.Ordering.{is_gt, is_lt, ordering_reverse}
use Rattle.std.proofs.lemmas.Cmp.{upto, on_total, then_total, back_total, tied_itself}
use Rattle.std.specs.List.{list_all}
use Rattle.ldv_value.proofs.Booleans.{and-parts, true≢false}
use Rattle.ldv_value.proofs.Cases.{cases-bool}
use Rattle.ldv_value.specs.Order.{order, order_total}
use Rattle.sql_model.specs.QueryAnswer.{SortKey, order_in_direction, order_by}
use Rattle.ldv_value.specs.Cells.{value_at}
use Rattle.sql_model.specs.Sorting.{put_sorted, sorted_by}
use Rattle.sql_model.specs.Types.{Value}

-- ---- a sorted list

pub reverse_upto : (o : Ordering) → is_gt o ≡ true → is_gt (ordering_reverse o) ≡ false
reverse_upto Less g = cc
reverse_upto Equal g = cc
reverse_upto Greater g = refl

module _ {A : Type 0} (cmp : A → A → Ordering) where
  abbrev UpTo : A → A → Type 0
  UpTo x y = is_gt (cmp x y) ≡ false

  abbrev UpToAll : A → List A → Type 0
  UpToAll x [] = Unit {0}
  UpToAll x (y ∷ ys) = UpTo x y × UpToAll x ys

  abbrev Rises : List A → Type 0
  Rises [] = Unit {0}
  Rises (x ∷ xs) = UpToAll x xs × Rises xs

  put_all : (p : A → Bool) (x : A) (ys : List A) → list_all p (put_sorted cmp x ys) ≡ true
      → (p x ≡ true) × (list_all p ys ≡ true)
  put_all p x [] all = ((and-parts (p x) true all).0, refl)
  put_all p x (y ∷ ys) all = elim (cases-bool (is_gt (cmp x y))) [
    | inl after ↦
        let kk : (p y && list_all p (put_sorted cmp x ys)) ≡ true = rw after at all in
        let both = and-parts (p y) (list_all p (put_sorted cmp x ys)) kk in
        let more = put_all p x ys both.1 in
        (more.0, λ j. both.0 j && more.1 j)
    | inr before ↦
        let kk : (p x && list_all p (y ∷ ys)) ≡ true = rw before at all in
        and-parts (p x) (list_all p (y ∷ ys)) kk
  ]

  -- a test that all of the sorted list pass all of the list pass
  pub sorted_all : (p : A → Bool) (xs : List A) → list_all p (sorted_by cmp xs) ≡ true → list_all p xs ≡ true
  sorted_all p [] all = refl
  sorted_all p (x ∷ xs) all = let both = put_all p x (sorted_by cmp xs) all in λ j. both.0 j && sorted_all p xs both.1 j

  -- an item that goes leaves the others where they are
  put_gone : (p : A → Bool) (x : A) (ys : List A) → p x ≡ false → filter p (put_sorted cmp x ys) ≡ filter p ys
  put_gone p x [] gone = rw gone refl
  put_gone p x (y ∷ ys) gone = elim (cases-bool (is_gt (cmp x y))) [
    | inl after ↦ rw after (λ j. if p y then y ∷ put_gone p x ys gone j else put_gone p x ys gone j)
    | inr before ↦ rw (before, gone) refl
  ]

  put_first : (x : A) (ys : List A) → UpToAll x ys → put_sorted cmp x ys ≡ x ∷ ys
  put_first x [] first = refl
  put_first x (y ∷ ys) first = rw first.0 refl

  filter_upto : (p : A → Bool) (x : A) (ys : List A) → UpToAll x ys → UpToAll x (filter p ys)
  filter_upto p x [] first = tt
  filter_upto p x (y ∷ ys) first = elim (cases-bool (p y)) [
    | inl here ↦ rw here (first.0, filter_upto p x ys first.1)
    | inr gone ↦ rw gone (filter_upto p x ys first.1)
  ]

  module _ (total : IsTotalOrder cmp) where
    turned : (x y : A) → is_gt (cmp x y) ≡ true → UpTo y x
    turned x y g = ap is_gt (total.antisymm y x) ∙ reverse_upto (cmp x y) g

    upto_more : (x y : A) (zs : List A) → UpTo x y → UpToAll y zs → UpToAll x zs
    upto_more x y [] first more = tt
    upto_more x y (z ∷ zs) first more = (upto total x y z first more.0, upto_more x y zs first more.1)

    upto_put : (y x : A) (ys : List A) → UpTo y x → UpToAll y ys → UpToAll y (put_sorted cmp x ys)
    upto_put y x [] first more = (first, tt)
    upto_put y x (z ∷ zs) first more = elim (cases-bool (is_gt (cmp x z))) [
      | inl after ↦ rw after (more.0, upto_put y x zs first more.1)
      | inr before ↦ rw before (first, more)
    ]

    put_rises : (x : A) (ys : List A) → Rises ys → Rises (put_sorted cmp x ys)
    put_rises x [] rises = (tt, tt)
    put_rises x (y ∷ ys) rises = elim (cases-bool (is_gt (cmp x y))) [
      | inl after ↦ rw after (upto_put y x ys (turned x y after) rises.0, put_rises x ys rises.1)
      | inr before ↦ rw before ((before, upto_more x y ys before rises.0), rises)
    ]

    sorted_rises : (xs : List A) → Rises (sorted_by cmp xs)
    sorted_rises [] = tt
    sorted_rises (x ∷ xs) = put_rises x (sorted_by cmp xs) (sorted_rises xs)

    put_part : (p : A → Bool) (x : A) (ys : List A) → p x ≡ true → Rises ys
        → put_sorted cmp x (filter p ys) ≡ filter p (put_sorted cmp x ys)
    put_part p x [] here rises = rw here refl
    put_part p x (y ∷ ys) here rises = elim (cases-bool (is_gt (cmp x y))) [
      | inl after ↦ elim (cases-bool (p y)) [
        | inl there ↦ rw (after, there, after) (λ j. y ∷ put_part p x ys here rises.1 j)
        | inr gone ↦ rw (after, gone) (put_part p x ys here rises.1)
      ]
      | inr before ↦
          let first : UpToAll x (filter p (y ∷ ys)) = filter_upto p x (y ∷ ys) (before, upto_more x y ys before rises.0) in
          let whole : put_sorted cmp x (y ∷ ys) ≡ x ∷ y ∷ ys = put_first x (y ∷ ys) (before, upto_more x y ys before rises.0) in
          let kept : filter p (x ∷ y ∷ ys) ≡ x ∷ filter p (y ∷ ys) = ap (λ (b : Bool). if b then x ∷ filter p (y ∷ ys) else filter p (y ∷ ys)) here in
          put_first x (filter p (y ∷ ys)) first ∙ sym kept ∙ sym (ap (filter p) whole)
    ]

    -- the sort of those that pass a test
    pub sorted_part : (p : A → Bool) (xs : List A) → sorted_by cmp (filter p xs) ≡ filter p (sorted_by cmp xs)
    sorted_part p [] = refl
    sorted_part p (x ∷ xs) = elim (cases-bool (p x)) [
      | inl here ↦ rw here (ap (put_sorted cmp x) (sorted_part p xs) ∙ put_part p x (sorted_by cmp xs) here (sorted_rises xs))
      | inr gone ↦ rw gone (sorted_part p xs ∙ sym (put_gone p x (sorted_by cmp xs) gone))
    ]

    -- ---- items that tie

    reversed : (o : Ordering) → is_lt o ≡ false → is_gt (ordering_reverse o) ≡ false
    reversed Less h = cc
    reversed Equal h = refl
    reversed Greater h = refl

    back : (o : Ordering) → is_gt o ≡ false → is_lt (ordering_reverse o) ≡ false
    back Less h = refl
    back Equal h = refl
    back Greater h = cc

    abbrev less : A → A → Bool
    less x y = is_lt (cmp x y)

    not-less : (x y : A) → less x y ≡ false → UpTo y x
    not-less x y h = ap is_gt (total.antisymm y x) ∙ reversed (cmp x y) h

    upto-less : (x y : A) → UpTo x y → less y x ≡ false
    upto-less x y h = ap is_lt (total.antisymm y x) ∙ back (cmp x y) h

    neither : (a b : Bool) → (not a && not b) ≡ true → (a ≡ false) × (b ≡ false)
    neither true b h = cc
    neither false true h = cc
    neither false false h = (refl, refl)

    both-not : (a b : Bool) → a ≡ false → b ≡ false → (not a && not b) ≡ true
    both-not a b first second = λ j. not (first j) && not (second j)

    tie-parts : (x y : A) → ties less x y ≡ true → UpTo y x × UpTo x y
    tie-parts x y tie = let two = neither (less x y) (less y x) tie in (not-less x y two.0, not-less y x two.1)

    tie-of : (x y : A) → UpTo y x → UpTo x y → ties less x y ≡ true
    tie-of x y after before = both-not (less x y) (less y x) (upto-less y x after) (upto-less x y before)

    upto-itself : (x : A) → UpTo x x
    upto-itself x = ap is_gt (tied_itself total x)

    itself : (x : A) → ties less x x ≡ true
    itself x = tie-of x x (upto-itself x) (upto-itself x)

    upto-ties : (x a : A) → ties less x a ≡ true → (xs : List A) → UpToAll a (filter (ties less x) xs)
    upto-ties x a tie [] = tt
    upto-ties x a tie (b ∷ xs) = elim (cases-bool (ties less x b)) [
      | inl same ↦ rw same (upto total a x b (tie-parts x a tie).0 (tie-parts x b same).1, upto-ties x a tie xs)
      | inr apart ↦ rw apart (upto-ties x a tie xs)
    ]

    sort-ties : (x : A) (xs : List A) → sorted_by cmp (filter (ties less x) xs) ≡ filter (ties less x) xs
    sort-ties x [] = refl
    sort-ties x (a ∷ xs) = elim (cases-bool (ties less x a)) [
      | inl tie ↦ rw tie (ap (put_sorted cmp a) (sort-ties x xs) ∙ put_first a (filter (ties less x) xs) (upto-ties x a tie xs))
      | inr apart ↦ rw apart (sort-ties x xs)
    ]

    stays : (xs : List A) (x : A) → filter (ties less x) (sorted_by cmp xs) ≡ filter (ties less x) xs
    stays xs x = sym (sorted_part (ties less x) xs) ∙ sort-ties x xs

    -- ---- one list alone is sorted and stable

    rises-of : (ys : List A) → IsSortedBy less ys → Rises ys
    rises-of [] sorted = tt
    rises-of (y ∷ []) sorted = (tt, tt)
    rises-of (y ∷ z ∷ zs) sorted =
        let more : IsSortedBy less (z ∷ zs) = λ k d low below.
        let next : suc (k + 1) ≡ suc k + 1 = omega arith in
        ap (λ (n : ℕ). less (get_or (y ∷ z ∷ zs) n d) (get_or (z ∷ zs) k d)) next ∙ sorted (suc k) d (omega arith) (omega (arith, below)) in
        let rest = rises-of (z ∷ zs) more in
        let first : UpTo y z = not-less z y (sorted 0 y (omega arith) (omega arith)) in
        ((first, upto_more y z zs first rest.0), rest)

    none-tie : (z y : A) → is_gt (cmp y z) ≡ true → (l : List A) → UpToAll y l → filter (ties less z) l ≡ []
    none-tie z y above [] up = refl
    none-tie z y above (w ∷ l) up = elim (cases-bool (ties less z w)) [
      | inl tie ↦ absurd (true≢false (sym above ∙ upto total y w z up.0 (tie-parts z w tie).0))
      | inr apart ↦ rw apart (none-tie z y above l up.1)
    ]

    at-front : (z : A) (zs : List A) → filter (ties less z) (z ∷ zs) ≡ z ∷ filter (ties less z) zs
    at-front z zs = ap (λ (b : Bool). if b then z ∷ filter (ties less z) zs else filter (ties less z) zs) (itself z)

    none-front : (z : A) (zs : List A) → [] ≡ filter (ties less z) (z ∷ zs) → ⊥
    none-front z zs is = let no : [] ≡ z ∷ filter (ties less z) zs = is ∙ at-front z zs in cc

    upto-head : (y z : A) (ys zs : List A) → UpToAll y ys → filter (ties less z) (y ∷ ys) ≡ filter (ties less z) (z ∷ zs) → UpTo y z
    upto-head y z ys zs up same = elim (cases-bool (is_gt (cmp y z))) [
      | inl above ↦ absurd (none-front z zs (sym (none-tie z y above (y ∷ ys) (upto-itself y, up)) ∙ same))
      | inr not ↦ not
    ]

    tails : (p : A → Bool) (y z : A) (ys zs : List A) → y ≡ z → filter p (y ∷ ys) ≡ filter p (z ∷ zs) → filter p ys ≡ filter p zs
    tails p y z ys zs is same = elim (cases-bool (p y)) [
      | inl here ↦
          let there : p z ≡ true = ap p (sym is) ∙ here in
          let both : y ∷ filter p ys ≡ z ∷ filter p zs = sym (ap (λ (b : Bool). if b then y ∷ filter p ys else filter p ys) here) ∙ same ∙ ap (λ (b : Bool). if b then z ∷ filter p zs else filter p zs) there in
          cc
      | inr gone ↦
          let away : p z ≡ false = ap p (sym is) ∙ gone in
          sym (ap (λ (b : Bool). if b then y ∷ filter p ys else filter p ys) gone) ∙ same ∙ ap (λ (b : Bool). if b then z ∷ filter p zs else filter p zs) away
    ]

    unique : (ys zs : List A) → Rises ys → Rises zs → ((x : A) → filter (ties less x) ys ≡ filter (ties less x) zs) → ys ≡ zs
    unique [] [] first second same = refl
    unique [] (z ∷ zs) first second same = absurd (none-front z zs (same z))
    unique (y ∷ ys) [] first second same = absurd (none-front y ys (sym (same y)))
    unique (y ∷ ys) (z ∷ zs) first second same =
        let before : UpTo y z = upto-head y z ys zs first.0 (same z) in
        let after : UpTo z y = upto-head z y zs ys second.0 (sym (same y)) in
        let tie : ties less y z ≡ true = tie-of y z after before in
        let heads : y ∷ filter (ties less y) ys ≡ z ∷ filter (ties less y) zs =
        sym (at-front y ys) ∙ same y ∙ ap (λ (b : Bool). if b then z ∷ filter (ties less y) zs else filter (ties less y) zs) tie in
        let is : y ≡ z = cc in
        λ j. is j ∷ unique ys zs first.1 second.1 (λ x. tails (ties less x) y z ys zs is (same x)) j

    pub sorted-is : (xs ys : List A) → IsSortedBy less ys → IsStableBy less xs ys → ys ≡ sorted_by cmp xs
    sorted-is xs ys sorted stable = unique ys (sorted_by cmp xs) (rises-of ys sorted) (sorted_rises xs) (λ x. stable x ∙ sym (stays xs x))

-- ---- the order of answer rows

directed_total : (place : ℕ) (descending : Bool)
    → IsTotalOrder (λ (a b : List Value). order_in_direction descending (order (value_at a place) (value_at b place)))
directed_total place false = on_total (λ (values : List Value). value_at values place) order_total
directed_total place true =
    let back : IsTotalOrder (λ (a b : List Value). order (value_at b place) (value_at a place)) = back_total (on_total (λ (values : List Value). value_at values place) order_total) in
    let turn : (λ (a b : List Value). order (value_at b place) (value_at a place)) ≡ (λ (a b : List Value). ordering_reverse (order (value_at a place) (value_at b place))) = λ j a b. order_total.antisymm (value_at b place) (value_at a place) j in
    subst (λ (R : List Value → List Value → Ordering). IsTotalOrder R) turn back

pub order_by_total : (keys : List SortKey) → IsTotalOrder (order_by keys)
order_by_total [] = record { antisymm = λ x y. refl; trans = λ x y z a b. a; congr = λ x y z a. refl }
order_by_total (key ∷ keys) = then_total (directed_total key.place key.descending) (order_by_total keys)
