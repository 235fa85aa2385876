-- Processes with different names, in the order of their names: each precedes the next.
use Rattle.std.proofs.Common.{◌≡◌, ◌≢◌, ℕ, List, [], ◌∷◌, refl, sym, ap, ◌∙◌, Bool, true, false, inl, inr}
use Rattle.std.specs.List.{AllByRecursion}
use Rattle.std.specs.Ordering.{nat_cmp, is_lt, ordering_reverse}
use Rattle.std.specs.declared.cmp.Ordering.{Ordering}
use Rattle.std.specs.declared.cmp.Ordering.TheVariants.{Less, Equal, Greater}
use Rattle.std.specs.Cmp.Lexicographic.{slice_cmp}
use Rattle.std.proofs.lemmas.Bool.{cases_Bool}
use Rattle.std.proofs.lemmas.Cmp.{nat_list_cmp_total}
use Rattle.std.proofs.lemmas.Map.Text.{is_eq-slice_cmp}
use Rattle.std.specs.Ordering.{is_eq}
use Rattle.ldv_value.specs.Sorted.{is_strictly_sorted, text_precedes}
use Rattle.ldv_value.proofs.Booleans.{and-from}
use Rattle.ldv_value.proofs.Lists.{all-weaker}
use Rattle.ldv_value.proofs.Orderings.{is_lt-true}
use Rattle.ldv_value.proofs.SameBytes.{bytes_eq-true}
use Rattle.run_model.specs.Core.{Process}
use Rattle.run_model.specs.Outcome.{insert_by_name, by_name}
use Rattle.ldv_value.proofs.ItemLists.{all_of_map}
use Rattle.run_laws.proofs.ProcessNames.{name_of, names, Distinct}

-- ---- the order of names

abbrev pub goes_first : Process → Process → Bool
goes_first p q = text_precedes p.name q.name

before_by : (a b : List ℕ) (o : Ordering) → slice_cmp nat_cmp a b ≡ o → is_lt o ≡ false → a ≢ b
    → text_precedes b a ≡ true
before_by a b Less is later apart = absurd cc
before_by a b Equal is later apart =
    absurd (apart (bytes_eq-true a b (sym (is_eq-slice_cmp a b) ∙ ap is_eq is)))
before_by a b Greater is later apart =
    ap is_lt (nat_list_cmp_total.antisymm b a ∙ ap ordering_reverse is)

-- one of two different names precedes the other
other_first : (p q : Process) → goes_first p q ≡ false → p.name ≢ q.name → goes_first q p ≡ true
other_first p q later apart = before_by p.name q.name (slice_cmp nat_cmp p.name q.name) refl later apart

pub first_trans : (p q r : Process) → goes_first p q ≡ true → goes_first q r ≡ true → goes_first p r ≡ true
first_trans p q r one two =
    ap is_lt
    (nat_list_cmp_total.trans p.name q.name r.name (is_lt-true (slice_cmp nat_cmp p.name q.name) one)
    (is_lt-true (slice_cmp nat_cmp q.name r.name) two))

-- ---- lists in that order

abbrev After : Process → Process → Type 0
After p q = goes_first p q ≡ true

abbrev Rises : List Process → Type 0
Rises [] = Unit {0}
Rises (p ∷ ps) = AllByRecursion (After p) ps × Rises ps

insert_all : (P : Process → Type 0) (p : Process) (qs : List Process) → P p → AllByRecursion P qs
    → AllByRecursion P (insert_by_name p qs)
insert_all P p [] here all = (here, tt)
insert_all P p (q ∷ qs) here all = elim (cases_Bool (goes_first p q)) [
  | inl first ↦ rw first (here, all)
  | inr later ↦ rw later (all.0, insert_all P p qs here all.1)
]

pub sorted_all : (P : Process → Type 0) (ps : List Process) → AllByRecursion P ps → AllByRecursion P (by_name ps)
sorted_all P [] all = tt
sorted_all P (p ∷ ps) all = insert_all P p (by_name ps) all.0 (sorted_all P ps all.1)

abbrev pub Apart : Process → Process → Type 0
Apart p q = p.name ≢ q.name

insert_rises : (p : Process) (qs : List Process) → AllByRecursion (Apart p) qs → Rises qs → Rises (insert_by_name p qs)
insert_rises p [] apart rises = (tt, tt)
insert_rises p (q ∷ qs) apart rises = elim (cases_Bool (goes_first p q)) [
  | inl first ↦
      rw first ((first, all-weaker (After q) (After p) (λ r. first_trans p q r first) qs rises.0), rises)
  | inr later ↦
      rw later
      (insert_all (After q) p qs (other_first p q later apart.0) rises.0, insert_rises p qs apart.1 rises.1)
]

name_rises : (ps : List Process) → Distinct (names ps) → Rises (by_name ps)
name_rises [] distinct = tt
name_rises (p ∷ ps) distinct =
    insert_rises p (by_name ps)
    (sorted_all (Apart p) ps (all_of_map (λ (m : List ℕ). p.name ≢ m) name_of ps distinct.0))
    (name_rises ps distinct.1)

rises_sorted : (ps : List Process) → Rises ps → is_strictly_sorted goes_first ps ≡ true
rises_sorted [] rises = refl
rises_sorted (p ∷ []) rises = refl
rises_sorted (p ∷ q ∷ qs) rises =
    and-from (goes_first p q) (is_strictly_sorted goes_first (q ∷ qs)) rises.0.0 (rises_sorted (q ∷ qs) rises.1)

pub names_sorted : (ps : List Process) → Distinct (names ps) → is_strictly_sorted goes_first (by_name ps) ≡ true
names_sorted ps distinct = rises_sorted (by_name ps) (name_rises ps distinct)
