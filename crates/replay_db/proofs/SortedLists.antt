-- Lists strictly sorted by a key: two with the same items are equal, and each item is found by its key.
use Rattle.std.proofs.Common.{◌≡◌, List, [], ◌∷◌, refl, sym, ap, ◌∙◌, subst, Bool, true, false, inl, inr}
use Rattle.std.specs.Prelude.{Option, Some, None, find, ◌&&◌, ◌⊎◌}
use Rattle.std.specs.List.{filter_map, cons_option}
use Rattle.std.proofs.lemmas.Bool.{and_parts, and_from}
use Rattle.ldv_value.proofs.Lists.{found-passes}
use Rattle.package_layout.specs.inner.Order.{is_below_next, rises}
use Rattle.run_model.specs.Between.{IsIn}
use Rattle.run_laws.proofs.ListMembers.{found_in, none_in, in_filter_map, filter_map_in}

-- ---- sorted lists

module _ {X K : Type 0} (key : X → K) (lower : K → K → Bool) (itself : (k : K) → lower k k ≡ false)
    (chain : (a b c : K) → lower a b ≡ true → lower b c ≡ true → lower a c ≡ true) where
  abbrev pub under : X → X → Bool
  under x y = lower (key x) (key y)

  abbrev pub Sorted : List X → Type 0
  Sorted xs = rises under xs ≡ true

  next_under : (x y : X) (ys : List X) → under x y ≡ true → is_below_next under y ys ≡ true → is_below_next under x ys ≡ true
  next_under x y [] first next = refl
  next_under x y (z ∷ zs) first next = chain (key x) (key y) (key z) first next

  -- all later items are above the first
  pub all_under : (x : X) (ys : List X) → is_below_next under x ys ≡ true → Sorted ys → (z : X) → IsIn z ys → under x z ≡ true
  all_under x [] next rest z is = absurd is
  all_under x (y ∷ ys) next rest z (inl same) = ap (under x) same ∙ next
  all_under x (y ∷ ys) next rest z (inr more) =
      let both = and_parts (is_below_next under y ys) (rises under ys) rest in
      all_under x ys (next_under x y ys next both.0) both.1 z more

  not_itself : (x y : X) → under x y ≡ true → key x ≡ key y → true ≡ false
  not_itself x y above same = sym above ∙ ap (λ k. lower k (key y)) same ∙ itself (key y)

  -- two items of one key are one
  pub same_item : (xs : List X) → Sorted xs → (x y : X) → IsIn x xs → IsIn y xs → key x ≡ key y → x ≡ y
  same_item [] sorted x y in_x in_y same = absurd in_x
  same_item (z ∷ zs) sorted x y (inl x_is) (inl y_is) same = x_is ∙ sym y_is
  same_item (z ∷ zs) sorted x y (inl x_is) (inr y_in) same =
      let both = and_parts (is_below_next under z zs) (rises under zs) sorted in
      let never : true ≡ false = not_itself z y (all_under z zs both.0 both.1 y y_in) (ap key (sym x_is) ∙ same) in cc
  same_item (z ∷ zs) sorted x y (inr x_in) (inl y_is) same =
      let both = and_parts (is_below_next under z zs) (rises under zs) sorted in
      let never : true ≡ false = not_itself z x (all_under z zs both.0 both.1 x x_in) (ap key (sym y_is) ∙ sym same) in cc
  same_item (z ∷ zs) sorted x y (inr x_in) (inr y_in) same =
      same_item zs (and_parts (is_below_next under z zs) (rises under zs) sorted).1 x y x_in y_in same

  -- the first of two lists with the same items is the same
  first_same : (x y : X) (xs ys : List X) → Sorted (x ∷ xs) → Sorted (y ∷ ys) → IsIn x (y ∷ ys) → IsIn y (x ∷ xs) → x ≡ y
  first_same x y xs ys sx sy (inl same) back = same
  first_same x y xs ys sx sy (inr more) (inl same) = sym same
  first_same x y xs ys sx sy (inr in_ys) (inr in_xs) =
      let bx = and_parts (is_below_next under x xs) (rises under xs) sx in
      let by = and_parts (is_below_next under y ys) (rises under ys) sy in
      let up : under x y ≡ true = all_under x xs bx.0 bx.1 y in_xs in
      let down : under y x ≡ true = all_under y ys by.0 by.1 x in_ys in
      let never : true ≡ false = sym (chain (key x) (key y) (key x) up down) ∙ itself (key x) in cc

  rest_in : (x y : X) (xs ys : List X) → Sorted (x ∷ xs) → x ≡ y → ((z : X) → IsIn z (x ∷ xs) → IsIn z (y ∷ ys)) → (z : X) → IsIn z xs → IsIn z ys
  rest_in x y xs ys sx same there z is = by (there z (inr is))
    where
      by : (z ≡ y) ⊎ IsIn z ys → IsIn z ys
      by (inr more) = more
      by (inl first) =
          let both = and_parts (is_below_next under x xs) (rises under xs) sx in
          let never : true ≡ false = not_itself x z (all_under x xs both.0 both.1 z is) (ap key (same ∙ sym first)) in cc

  pub same_list : (xs ys : List X) → Sorted xs → Sorted ys → ((z : X) → IsIn z xs → IsIn z ys) → ((z : X) → IsIn z ys → IsIn z xs) → xs ≡ ys
  same_list [] [] sx sy there back = refl
  same_list [] (y ∷ ys) sx sy there back = absurd (back y (inl refl))
  same_list (x ∷ xs) [] sx sy there back = absurd (there x (inl refl))
  same_list (x ∷ xs) (y ∷ ys) sx sy there back =
      let first : x ≡ y = first_same x y xs ys sx sy (there x (inl refl)) (back y (inl refl)) in
      let bx = and_parts (is_below_next under x xs) (rises under xs) sx in
      let by = and_parts (is_below_next under y ys) (rises under ys) sy in
      let rest : xs ≡ ys = same_list xs ys bx.1 by.1 (rest_in x y xs ys sx first there) (rest_in y x ys xs sy (sym first) back) in
      λ j. first j ∷ rest j

  -- what a function leaves of each item, with the item's key, is sorted too
  module _ (f : X → Option X) (keeps : (x y : X) → f x ≡ Some y → key y ≡ key x) where
    kept_next : (x : X) (ys : List X) → ((z : X) → IsIn z ys → under x z ≡ true) → is_below_next under x (filter_map f ys) ≡ true
    kept_next x [] all = refl
    kept_next x (y ∷ ys) all = by (kept_next x ys (λ z is. all z (inr is))) (f y) refl
      where
        by : is_below_next under x (filter_map f ys) ≡ true → (o : Option X) → f y ≡ o
            → is_below_next under x (cons_option o (filter_map f ys)) ≡ true
        by later None gives = later
        by later (Some u) gives = ap (lower (key x)) (keeps y u gives) ∙ all y (inl refl)

    pub filter_map_sorted : (xs : List X) → Sorted xs → Sorted (filter_map f xs)
    filter_map_sorted [] sorted = refl
    filter_map_sorted (x ∷ xs) sorted =
        let both = and_parts (is_below_next under x xs) (rises under xs) sorted in
        by (filter_map_sorted xs both.1) (kept_next x xs (all_under x xs both.0 both.1)) (f x) refl
      where
        first_at : (u : X) (zs : List X) → key u ≡ key x → is_below_next under x zs ≡ true → is_below_next under u zs ≡ true
        first_at u [] same next = refl
        first_at u (z ∷ zs) same next = ap (λ k. lower k (key z)) same ∙ next

        by : Sorted (filter_map f xs) → is_below_next under x (filter_map f xs) ≡ true → (o : Option X) → f x ≡ o
            → rises under (cons_option o (filter_map f xs)) ≡ true
        by later next None gives = later
        by later next (Some u) gives =
            and_from (is_below_next under u (filter_map f xs)) (rises under (filter_map f xs))
            (first_at u (filter_map f xs) (keeps x u gives) next) later

  -- ---- items by key

  module _ (equal : K → K → Bool) (is : (a b : K) → equal a b ≡ true → a ≡ b) (self : (k : K) → equal k k ≡ true) where
    abbrev pub at : K → List X → Option X
    at k xs = find (λ x. equal (key x) k) xs

    pub at_key : (k : K) (xs : List X) (x : X) → at k xs ≡ Some x → key x ≡ k
    at_key k xs x found = is (key x) k (found-passes (λ y. equal (key y) k) xs x found)

    -- an item of a sorted list is the one that is found by its key
    pub at_item : (xs : List X) → Sorted xs → (x : X) → IsIn x xs → at (key x) xs ≡ Some x
    at_item xs sorted x is_in = by (at (key x) xs) refl
      where
        by : (o : Option X) → at (key x) xs ≡ o → at (key x) xs ≡ Some x
        by None none =
            let never : true ≡ false = sym (self (key x)) ∙ none_in (λ y. equal (key y) (key x)) xs x none is_in in cc
        by (Some y) found =
            let there : IsIn y xs = found_in (λ z. equal (key z) (key x)) xs y found in
            found ∙ ap Some (same_item xs sorted y x there is_in (at_key (key x) xs y found))

    -- a list is what is found in it by the keys of another that has all its keys
    pub found_all : (small whole : List X) → Sorted small → Sorted whole → ((x : X) → IsIn x small → (y : X) × (IsIn y whole × (key y ≡ key x)))
        → filter_map (λ y. at (key y) small) whole ≡ small
    found_all small whole s_small s_whole cover =
        same_list (filter_map (λ y. at (key y) small) whole) small
        (filter_map_sorted (λ y. at (key y) small) (λ x y found. at_key (key x) small y found) whole s_whole)
        s_small
        (λ z there. let from = filter_map_in (λ y. at (key y) small) whole z there in found_in (λ x. equal (key x) (key from.0)) small z from.1.1)
        (λ z there.
        let of = cover z there in
        in_filter_map (λ y. at (key y) small) whole of.0 z of.1.0 (ap (λ k. at k small) of.1.1 ∙ at_item small s_small z there))
