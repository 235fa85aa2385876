-- Members put into an object: they are there, and the others stay.
use Rattle.std.proofs.Common.{◌≡◌, ℕ, List, [], ◌∷◌, ◌++◌, refl, sym, ap, ◌∙◌, Bool, true, false, Ordering, Less, Equal, Greater, nat_cmp, inl, inr}
use Rattle.std.specs.Prelude.{◌⊎◌, Some, find, codes}
use Rattle.std.specs.Cmp.Lexicographic.{slice_cmp}
use Rattle.std.specs.Ordering.{match_ordering}
use Rattle.std.proofs.lemmas.Bool.{cases_Bool}
use Rattle.std.proofs.lemmas.Map.Lookups.{exact_bytes}
use Rattle.serde_json.specs.Data.{Data, Members, no_members, member, put}
use Rattle.run_model.specs.Between.{IsIn}
use Rattle.prov_export.specs.Reading.{is_number, number_at}

abbrev pub Entry : Type 0
Entry = List ℕ × Data

abbrev pub entries : Members → List Entry
entries no_members = []
entries (member k d ms) = (k, d) ∷ entries ms

abbrev pub has_place : ℕ → Entry → Bool
has_place place entry = is_number place (number_at (codes "ldv:place") entry.1)

pub put_there : (k : List ℕ) (d : Data) (ms : Members) → IsIn (k, d) (entries (put k d ms))
put_there k d no_members = inl refl
put_there k d (member l e ms) = by (slice_cmp nat_cmp k l) refl (put_there k d ms)
  where
    by : (o : Ordering) → slice_cmp nat_cmp k l ≡ o → IsIn (k, d) (entries (put k d ms))
        → IsIn (k, d) (entries (match_ordering o (member k d (member l e ms)) (member l d ms) (member l e (put k d ms))))
    by Less is more = inl refl
    by Equal is more = let same : k ≡ l = exact_bytes k l is in inl (λ j. (same j, d))
    by Greater is more = inr more

pub put_keeps : (k : List ℕ) (d : Data) (ms : Members) (x : Entry) → (x.0 ≡ k → ⊥) → IsIn x (entries ms) → IsIn x (entries (put k d ms))
put_keeps k d no_members x other is = absurd is
put_keeps k d (member l e ms) x other is = by (slice_cmp nat_cmp k l) refl is (λ more. put_keeps k d ms x other more)
  where
    by : (o : Ordering) → slice_cmp nat_cmp k l ≡ o → (x ≡ (l, e)) ⊎ IsIn x (entries ms) → (IsIn x (entries ms) → IsIn x (entries (put k d ms)))
        → IsIn x (entries (match_ordering o (member k d (member l e ms)) (member l d ms) (member l e (put k d ms))))
    by Less same is more = inr is
    by Equal same (inl first) more =
        let name : x.0 ≡ l = ap (λ (y : Entry). y.0) first in absurd (other (name ∙ sym (exact_bytes k l same)))
    by Equal same (inr later) more = inr later
    by Greater same (inl first) more = inl first
    by Greater same (inr later) more = inr (more later)

pub put_from : (k : List ℕ) (d : Data) (ms : Members) (x : Entry) → IsIn x (entries (put k d ms)) → (x ≡ (k, d)) ⊎ IsIn x (entries ms)
put_from k d no_members x (inl same) = inl same
put_from k d no_members x (inr never) = absurd never
put_from k d (member l e ms) x is = by (slice_cmp nat_cmp k l) refl is (λ more. put_from k d ms x more)
  where
    later : (x ≡ (k, d)) ⊎ IsIn x (entries ms) → (x ≡ (k, d)) ⊎ ((x ≡ (l, e)) ⊎ IsIn x (entries ms))
    later (inl same) = inl same
    later (inr more) = inr (inr more)

    by : (o : Ordering) → slice_cmp nat_cmp k l ≡ o
        → IsIn x (entries (match_ordering o (member k d (member l e ms)) (member l d ms) (member l e (put k d ms))))
        → (IsIn x (entries (put k d ms)) → (x ≡ (k, d)) ⊎ IsIn x (entries ms))
        → (x ≡ (k, d)) ⊎ ((x ≡ (l, e)) ⊎ IsIn x (entries ms))
    by Less same (inl first) more = inl first
    by Less same (inr rest) more = inr rest
    by Equal same (inl first) more = let name : l ≡ k = sym (exact_bytes k l same) in inl (first ∙ λ j. (name j, d))
    by Equal same (inr rest) more = inr (inr rest)
    by Greater same (inl first) more = inr (inl first)
    by Greater same (inr rest) more = later (more rest)

-- ---- lists

module _ {X : Type 0} where
  pub in_first : (x : X) (xs ys : List X) → IsIn x xs → IsIn x (xs ++ ys)
  in_first x [] ys is = absurd is
  in_first x (z ∷ zs) ys (inl same) = inl same
  in_first x (z ∷ zs) ys (inr more) = inr (in_first x zs ys more)

  pub in_second : (x : X) (xs ys : List X) → IsIn x ys → IsIn x (xs ++ ys)
  in_second x [] ys is = is
  in_second x (z ∷ zs) ys is = inr (in_second x zs ys is)

  pub in_either : (x : X) (xs ys : List X) → IsIn x (xs ++ ys) → IsIn x xs ⊎ IsIn x ys
  in_either x [] ys is = inr is
  in_either x (z ∷ zs) ys (inl same) = inl (inl same)
  in_either x (z ∷ zs) ys (inr more) = by (in_either x zs ys more)
    where
      by : IsIn x zs ⊎ IsIn x ys → IsIn x (z ∷ zs) ⊎ IsIn x ys
      by (inl one) = inl (inr one)
      by (inr two) = inr two

  -- what passes a test is found, or another that does
  pub find_some : (p : X → Bool) (xs : List X) (x : X) → IsIn x xs → p x ≡ true
      → (y : X) × ((find p xs ≡ Some y) × (IsIn y xs × (p y ≡ true)))
  find_some p [] x is hit = absurd is
  find_some p (z ∷ zs) x is hit = elim (cases_Bool (p z)) [
    | inl here ↦ (z, (rw here refl, (inl refl, here)))
    | inr miss ↦ by miss is (λ more. find_some p zs x more hit)
  ]
    where
      by : p z ≡ false → (x ≡ z) ⊎ IsIn x zs → (IsIn x zs → (y : X) × ((find p zs ≡ Some y) × (IsIn y zs × (p y ≡ true))))
          → (y : X) × ((find p (z ∷ zs) ≡ Some y) × (IsIn y (z ∷ zs) × (p y ≡ true)))
      by miss (inl same) rest = let never : true ≡ false = sym hit ∙ ap p same ∙ miss in cc
      by miss (inr more) rest = let found = rest more in (found.0, (rw miss found.1.0, (inr found.1.1.0, found.1.1.1)))
