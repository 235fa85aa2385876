-- Names that are kept in place.
use Rattle.std.proofs.Common.{◌≡◌, ◌∙◌, ap, refl, ℕ, zero, suc, ◌+◌, ◌<◌, ◌≤◌, List, [], ◌∷◌, length, Bool, true, false, take, drop, arith}
use Rattle.std.specs.Prelude.{filter, map, slice_index_or}
use Rattle.std.specs.List.{SwappedAt}
use Rattle.std.proofs.lemmas.List.{take_all}
use Rattle.std.proofs.lemmas.List.Filters.{FiltersInPlace, FiltersInPlace-more_no, FiltersInPlace-more_swap}
use Rattle.sql_engine.specs.inner.Taking.{InPlace, is_taken}
use Rattle.sql_engine.specs.declared.marks.Mark.{Mark}

module _ (test : List ℕ → Bool) (all : List (List ℕ)) where
  to_filters : (now : List (List ℕ)) (kept place : ℕ) → InPlace test all now kept place → FiltersInPlace test all now kept place
  to_filters now kept place is = record { front = is.front; rest = is.rest; behind = is.behind; within = is.within; long = is.long }

  of_filters : (now : List (List ℕ)) (kept place : ℕ) → FiltersInPlace test all now kept place → InPlace test all now kept place
  of_filters now kept place is = record { front = is.front; rest = is.rest; behind = is.behind; within = is.within; long = is.long }

  -- what is at a place hangs on nothing else
  item_at : (xs : List (List ℕ)) (place : ℕ) (d e : List ℕ) → place < length xs → slice_index_or xs place d ≡ slice_index_or xs place e
  item_at [] place d e within = absurd (omega (arith, within))
  item_at (x ∷ xs) zero d e within = refl
  item_at (x ∷ xs) (suc place) d e within = item_at xs place d e (omega (arith, within))

  module _ (now : List (List ℕ)) (kept place : ℕ) (is : InPlace test all now kept place) (within : place < length now) where
    abbrev item : List ℕ
    item = slice_index_or now place []

    item_is : item ≡ slice_index_or now place item
    item_is = item_at now place [] item within

    pub goes-in-place : test item ≡ false → InPlace test all now kept (place + 1)
    goes-in-place miss = of_filters now kept (place + 1) (FiltersInPlace-more_no {x = item} (to_filters now kept place is) within miss item_is)

    pub stays-in-place : (new : List (List ℕ)) → SwappedAt now new kept place → test item ≡ true → InPlace test all new (kept + 1) (place + 1)
    stays-in-place new swapped hit =
        of_filters new (kept + 1) (place + 1) (FiltersInPlace-more_swap {x = item} {zs = new} (to_filters now kept place is) within hit item_is swapped)

  pub none-in-place : InPlace test all all 0 0
  none-in-place = record { front = refl; rest = refl; behind = omega arith; within = omega arith; long = refl }

  pub all-in-place : (now : List (List ℕ)) (kept place : ℕ) → InPlace test all now kept place → length all ≤ place → take kept now ≡ filter test all
  all-in-place now kept place is out = is.front ∙ ap (filter test) (take_all place all out)

-- the item at a place of what is left
dropped_at : (xs ys : List (List ℕ)) (place : ℕ) (d : List ℕ) → drop place xs ≡ drop place ys → length xs ≡ length ys
    → slice_index_or xs place d ≡ slice_index_or ys place d
dropped_at [] [] place d same long = refl
dropped_at [] (y ∷ ys) place d same long = absurd (omega (arith, long))
dropped_at (x ∷ xs) [] place d same long = absurd (omega (arith, long))
dropped_at (x ∷ xs) (y ∷ ys) zero d same long = cc
dropped_at (x ∷ xs) (y ∷ ys) (suc place) d same long = dropped_at xs ys place d same (omega (arith, long))

mapped_at : (test : List ℕ → Bool) (names : List (List ℕ)) (marks : List Mark) (place : ℕ) (d : List ℕ) (e : Mark)
    → map test names ≡ map is_taken marks → place < length marks
    → test (slice_index_or names place d) ≡ is_taken (slice_index_or marks place e)
mapped_at test [] [] place d e same within = absurd (omega (arith, within))
mapped_at test [] (m ∷ ms) place d e same within = cc
mapped_at test (n ∷ ns) [] place d e same within = absurd (omega (arith, within))
mapped_at test (n ∷ ns) (m ∷ ms) zero d e same within = cc
mapped_at test (n ∷ ns) (m ∷ ms) (suc place) d e same within =
    let more : map test ns ≡ map is_taken ms = cc in
    mapped_at test ns ms place d e more (omega (arith, within))

-- the test of the name at a place is its mark
pub marked-at : (test : List ℕ → Bool) (names now : List (List ℕ)) (marks : List Mark) (kept place : ℕ) (e : Mark)
    → InPlace test names now kept place → map test names ≡ map is_taken marks → place < length marks
    → test (slice_index_or now place []) ≡ is_taken (slice_index_or marks place e)
marked-at test names now marks kept place e is same within =
    ap test (dropped_at now names place [] is.rest is.long) ∙ mapped_at test names marks place [] e same within
