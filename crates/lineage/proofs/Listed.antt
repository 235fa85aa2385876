-- The entries of a set, listed with the names of their tables.
use Rattle.std.proofs.Common.{◌≡◌, sym, ap, subst, refl, ℕ, zero, suc, ◌<◌, get_or, ◌⊎◌, inl, inr, Bool, true, false, cond, T, List, [], ◌∷◌, map, length, Option, Some, is_some, IsTrue}
use Rattle.std.specs.declared.cmp.Ordering.{Ordering}
use Rattle.std.specs.declared.cmp.Ordering.TheVariants.{Less, Equal, Greater}
use Rattle.std.specs.List.{AllByRecursion}
use Rattle.std.specs.List.Sorted.{IsStrictlySortedBy}
use Rattle.std.specs.Ordering.{nat_cmp, eq_by_cmp, is_lt, ordering_then}
use Rattle.std.specs.Cmp.{ranked}
use Rattle.std.specs.Cmp.Lexicographic.{slice_cmp, nat_list_cmp_total}
use Rattle.std.specs.Map.{keys_of}
use Rattle.std.specs.FinMap.{find, is_sorted, entries, entries_sorted, from_entries, get-entries, nat_cmp-IsAntisymmetric}
use Rattle.std.specs.FinMap.Entries.{below_all}
use Rattle.std.proofs.lemmas.Cmp.{tied_itself}
use Rattle.std.proofs.lemmas.Map.Keys.{Less-from_sorted}
use Rattle.lineage.specs.Lineage.{Row, row_cmp, Lineage, IsNamed, name_at, member, members_of}
use Rattle.lineage.proofs.Laws.{row_total}
use Rattle.ldv_value.proofs.Booleans.{t-first, t-second, t-both}
use Rattle.ldv_value.proofs.Orderings.{t-less}
use Rattle.ldv_value.proofs.SortedMaps.{entries-sorted}
use Rattle.sql_model.specs.MemberOrder.{member_cmp}

-- ---- entries of which the keys are sorted

below_rest : (row : Row) (es : List (Row × ℕ)) → AllByRecursion (λ q. row_cmp row q ≡ Less) (keys_of es) → T (below_all row_cmp row es)
below_rest row [] h = tt
below_rest row (e ∷ es) h = t-both _ _ (subst (λ r. T (is_lt r)) (sym h.0) tt) (below_rest row es h.1)

sorted_keys : (es : List (Row × ℕ)) → IsStrictlySortedBy row_cmp (keys_of es) → T (is_sorted row_cmp es)
unfolding IsStrictlySortedBy
sorted_keys [] h = tt
sorted_keys (e ∷ es) h = t-both _ _ (below_rest e.0 es h.0) (sorted_keys es h.1)

pub listed : (es : List (Row × ℕ)) → IsStrictlySortedBy row_cmp (keys_of es) → entries (from_entries {R = row_cmp} es) ≡ es
listed es h = entries-sorted row_total es (sorted_keys es h)

-- ---- the tables of entries have names

abbrev pub AllNamed : List (List ℕ) → List (Row × ℕ) → Type 0
AllNamed names [] = Unit {0}
AllNamed names (e ∷ es) = (e.0.0 < length names) × AllNamed names es

found_first : (e : Row × ℕ) (es : List (Row × ℕ)) → IsTrue (is_some (find row_cmp e.0 (e ∷ es)))
found_first e es = rw (tied_itself row_total e.0) refl

found_later : (b : Bool) (v : ℕ) (o : Option ℕ) → IsTrue (is_some o) → IsTrue (is_some (cond b (Some v) o))
found_later true v o h = refl
found_later false v o h = h

named_found : (names : List (List ℕ)) (es : List (Row × ℕ)) → ((row : Row) → IsTrue (is_some (find row_cmp row es)) → row.0 < length names) → AllNamed names es
named_found names [] h = tt
named_found names (e ∷ es) h = (h e.0 (found_first e es), named_found names es (λ row there. h row (found_later (eq_by_cmp row_cmp row e.0) e.1 (find row_cmp row es) there)))

pub named_entries : (names : List (List ℕ)) (set : Lineage) → IsNamed names set → AllNamed names (entries set)
named_entries names set h = named_found names (entries set) (λ row there. h row (rw (get-entries set row) there))

-- ---- members are sorted

name_got : (names : List (List ℕ)) (place : ℕ) → name_at names place ≡ get_or names place []
name_got [] place = refl
name_got (x ∷ xs) zero = refl
name_got (x ∷ xs) (suc place) = name_got xs place

pub then_less : (r s : Ordering) → ordering_then r s ≡ Less → (r ≡ Less) ⊎ ((r ≡ Equal) × (s ≡ Less))
then_less Less s h = inl refl
then_less Equal s h = inr (refl, h)
then_less Greater s h = cc

module _ (names : List (List ℕ)) (sorted : IsStrictlySortedBy (slice_cmp nat_cmp) names) where
  pub names-increase : (i j : ℕ) → i < j → j < length names → slice_cmp nat_cmp (name_at names i) (name_at names j) ≡ Less
  names-increase i j below within = rw (name_got names i, name_got names j) (Less-from_sorted (slice_cmp nat_cmp) names i j [] sorted below within)

  member_below : (a b : Row × ℕ) → row_cmp a.0 b.0 ≡ Less → b.0.0 < length names → member_cmp (member names a) (member names b) ≡ Less
  member_below a b below within = elim (then_less (nat_cmp a.0.0 b.0.0) (nat_cmp a.0.1 b.0.1) below) [
    | inl earlier ↦ rw (names-increase a.0.0 b.0.0 (ranked a.0.0 b.0.0 Less (sym earlier)) within) refl
    | inr same ↦
        let table : name_at names a.0.0 ≡ name_at names b.0.0 = ap (name_at names) (nat_cmp-IsAntisymmetric a.0.0 b.0.0 same.0) in
        rw (table, tied_itself nat_list_cmp_total (name_at names b.0.0)) same.1
  ]

  members_after : (a : Row × ℕ) (es : List (Row × ℕ)) → T (below_all row_cmp a.0 es) → AllNamed names es → AllByRecursion (λ m. member_cmp (member names a) m ≡ Less) (map (member names) es)
  members_after a [] h named = tt
  members_after a (e ∷ es) h named = (member_below a e (t-less _ (t-first _ _ h)) named.0, members_after a es (t-second _ _ h) named.1)

  members_sorted : (es : List (Row × ℕ)) → T (is_sorted row_cmp es) → AllNamed names es → IsStrictlySortedBy member_cmp (map (member names) es)
  unfolding IsStrictlySortedBy
  members_sorted [] h named = tt
  members_sorted (e ∷ es) h named = (members_after e es (t-first _ _ h) named.1, members_sorted es (t-second _ _ h) named.1)

  pub members-sorted : (set : Lineage) → IsNamed names set → IsStrictlySortedBy member_cmp (members_of names set)
  members-sorted set named = members_sorted (entries set) (entries_sorted set) (named_entries names set named)
