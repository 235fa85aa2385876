-- The outcome of a run, over slots and as it is defined.
use Rattle.std.proofs.Common.{◌≡◌, List, [], ◌∷◌, ◌++◌, map, reverse, refl, sym, ap, ◌∙◌, Bool, true, false, inl, inr, if◌then◌else◌, append_assoc, length, arith}
use Rattle.std.specs.Prelude.{unwrap_or}
use Rattle.std.specs.Cmp.{IsTotalOrder}
use Rattle.std.specs.Cmp.Lexicographic.{slice_cmp}
use Rattle.std.specs.Ordering.{nat_cmp, is_gt, is_lt, ordering_reverse}
use Rattle.std.specs.declared.cmp.Ordering.{Ordering}
use Rattle.std.specs.declared.cmp.Ordering.TheVariants.{Less, Equal, Greater}
use Rattle.std.proofs.lemmas.Cmp.{upto, on_total, nat_list_cmp_total}
use Rattle.std.proofs.lemmas.List.{reverse-append}
use Rattle.ldv_value.proofs.Cases.{cases-bool}
use Rattle.ldv_value.proofs.Lists.{append-nil}
use Rattle.sql_model.specs.Sorting.{put_sorted, sorted_by}
use Rattle.sql_model.proofs.StableSorting.{reverse_upto}
use Rattle.run_model.specs.Core.{Process, Core}
use Rattle.run_model.specs.Outcome.{insert_by_name, by_name, outcome_of_process, outcomes_of_paths, outcome_of}
use Rattle.run_model.specs.declared.outcome.ProcOutcome.{ProcOutcome}
use Rattle.script_code.specs.declared.code.Code.{Code}
use Rattle.proc_core.specs.declared.machine.Machine.{Machine}
use Rattle.proc_core.specs.declared.process.SlotProcess.{SlotProcess}
use Rattle.proc_core.specs.inner.SlotOutcome.{slot_outcome, slot_outcomes, name_cmp, slot_outcomes_by_name, slot_outcome_of}
use Rattle.proc_core.specs.Stands.{IsProcess, AreProcesses, IsCore}

-- ---- names in order

pub name_total : IsTotalOrder name_cmp
name_total = on_total (λ (o : ProcOutcome). o.name.parts) nat_list_cmp_total

below_by : (o : Ordering) → is_lt o ≡ is_gt (ordering_reverse o)
below_by Less = refl
below_by Equal = refl
below_by Greater = refl

-- one is above another
abbrev above : ProcOutcome → ProcOutcome → Bool
above a b = is_gt (name_cmp a b)

below_is : (a b : ProcOutcome) → is_lt (name_cmp a b) ≡ above b a
below_is a b = below_by (name_cmp a b) ∙ ap is_gt (sym (name_total.antisymm b a))

turned : (a b : ProcOutcome) → above a b ≡ true → above b a ≡ false
turned a b is = ap is_gt (name_total.antisymm b a) ∙ reverse_upto (name_cmp a b) is

-- before the first that is above it
abbrev insert : ProcOutcome → List ProcOutcome → List ProcOutcome
insert x [] = x ∷ []
insert x (z ∷ zs) = if above z x then x ∷ z ∷ zs else z ∷ insert x zs

abbrev inserted : List ProcOutcome → List ProcOutcome
inserted [] = []
inserted (x ∷ xs) = insert x (inserted xs)

abbrev put : ProcOutcome → List ProcOutcome → List ProcOutcome
put y zs = put_sorted name_cmp y zs

-- the two ways to put an item in its place commute
commutes : (y x : ProcOutcome) (zs : List ProcOutcome) → put y (insert x zs) ≡ insert x (put y zs)
commutes y x [] = elim (cases-bool (above y x)) [
  | inl more ↦ rw more refl
  | inr less ↦ rw less refl
]
commutes y x (z ∷ zs) = elim (cases-bool (above z x)) [
  | inl first ↦ elim (cases-bool (above y z)) [
    | inl after ↦ elim (cases-bool (above y x)) [
      | inl more ↦ rw (first, after, more, first) refl
      | inr less ↦
          let no : above y z ≡ false = upto name_total y x z less (turned z x first) in
          let never : true ≡ false = sym after ∙ no in
          absurd cc
    ]
    | inr before ↦ elim (cases-bool (above y x)) [
      | inl more ↦ rw (first, before, more) refl
      | inr less ↦ rw (first, before, less, first) refl
    ]
  ]
  | inr second ↦ elim (cases-bool (above y z)) [
    | inl after ↦ rw (second, after, second) (ap (λ (l : List ProcOutcome). z ∷ l) (commutes y x zs))
    | inr before ↦
        let less : above y x ≡ false = upto name_total y z x before second in
        rw (second, before, less, second) refl
  ]
]

put_last : (xs : List ProcOutcome) (x : ProcOutcome) → sorted_by name_cmp (xs ++ x ∷ []) ≡ insert x (sorted_by name_cmp xs)
put_last [] x = refl
put_last (y ∷ xs) x = ap (put y) (put_last xs x) ∙ commutes y x (sorted_by name_cmp xs)

-- from the last to the first
abbrev backwards : List ProcOutcome → List ProcOutcome
backwards [] = []
backwards (x ∷ xs) = backwards xs ++ x ∷ []

sorted_inserted : (xs : List ProcOutcome) → sorted_by name_cmp (backwards xs) ≡ inserted xs
sorted_inserted [] = refl
sorted_inserted (x ∷ xs) = put_last (backwards xs) x ∙ ap (insert x) (sorted_inserted xs)

pub reversed : (rs : List SlotProcess) → reverse (map slot_outcome rs) ≡ slot_outcomes rs
reversed [] = refl
reversed (r ∷ rs) = reverse-append (slot_outcome r ∷ []) (map slot_outcome rs) ∙ ap (λ (l : List ProcOutcome). l ++ slot_outcome r ∷ []) (reversed rs)

-- the outcome of the last process comes first
outcomes_last : (rs : List SlotProcess) (r : SlotProcess) → slot_outcomes (rs ++ r ∷ []) ≡ slot_outcome r ∷ slot_outcomes rs
outcomes_last [] r = refl
outcomes_last (q ∷ rs) r = ap (λ (l : List ProcOutcome). l ++ slot_outcome q ∷ []) (outcomes_last rs r)

-- the last process is taken
pub outcome_taken : (before after : List ProcOutcome) (old new : List SlotProcess) (r : SlotProcess) (o : ProcOutcome) (all : List ProcOutcome)
    → old ≡ new ++ r ∷ [] → o ≡ slot_outcome r → after ≡ before ++ o ∷ [] → before ++ slot_outcomes old ≡ all
    → after ++ slot_outcomes new ≡ all
outcome_taken before after old new r o all left is push so_far =
    ap (λ (l : List ProcOutcome). l ++ slot_outcomes new) (push ∙ ap (λ (x : ProcOutcome). before ++ x ∷ []) is)
    ∙ append_assoc before (slot_outcome r ∷ []) (slot_outcomes new)
    ∙ ap (λ (l : List ProcOutcome). before ++ l) (sym (outcomes_last new r))
    ∙ ap (λ (rs : List SlotProcess). before ++ slot_outcomes rs) (sym left)
    ∙ so_far

-- none is left
pub outcomes_taken : (made : List ProcOutcome) (left : List SlotProcess) (all : List ProcOutcome) → length left ≡ 0 → made ++ slot_outcomes left ≡ all → made ≡ all
outcomes_taken made [] all none so_far = sym (append-nil made) ∙ so_far
outcomes_taken made (r ∷ rs) all none so_far = absurd (omega (arith, none))

-- ---- processes

insert_same : (p : Process) (qs : List Process) → map outcome_of_process (insert_by_name p qs) ≡ insert (outcome_of_process p) (map outcome_of_process qs)
insert_same p [] = refl
insert_same p (q ∷ qs) = elim (cases-bool (is_lt (slice_cmp nat_cmp p.name q.name))) [
  | inl first ↦
      let above_it : above (outcome_of_process q) (outcome_of_process p) ≡ true = sym (below_is (outcome_of_process p) (outcome_of_process q)) ∙ first in
      rw (first, above_it) refl
  | inr second ↦
      let not_above : above (outcome_of_process q) (outcome_of_process p) ≡ false = sym (below_is (outcome_of_process p) (outcome_of_process q)) ∙ second in
      rw (second, not_above) (ap (λ (l : List ProcOutcome). outcome_of_process q ∷ l) (insert_same p qs))
]

by_name_same : (ps : List Process) → map outcome_of_process (by_name ps) ≡ inserted (map outcome_of_process ps)
by_name_same [] = refl
by_name_same (p ∷ ps) = insert_same p (by_name ps) ∙ ap (insert (outcome_of_process p)) (by_name_same ps)

module _ (codes : List Code) where
  outcome_same : (r : SlotProcess) (p : Process) → IsProcess codes r p → slot_outcome r ≡ outcome_of_process p
  outcome_same r p is = λ i. record {
    name = record { parts = is.5.name i };
    status = unwrap_or (is.5.status i) 0;
    printed = is.5.printed i;
    replies = is.5.replies i;
  }

  outcomes_same : (rs : List SlotProcess) (ps : List Process) → AreProcesses codes rs ps → slot_outcomes rs ≡ backwards (map outcome_of_process ps)
  outcomes_same [] [] are = refl
  outcomes_same [] (p ∷ ps) are = absurd are
  outcomes_same (r ∷ rs) [] are = absurd are
  outcomes_same (r ∷ rs) (p ∷ ps) are = λ i. outcomes_same rs ps are.1 i ++ outcome_same r p are.0 i ∷ []

pub outcome_is : (m : Machine) (c : Core) → IsCore m c → slot_outcome_of m ≡ outcome_of c
outcome_is m c core =
    let processes : slot_outcomes_by_name m.processes.items ≡ map outcome_of_process (by_name c.processes) =
    ap (sorted_by name_cmp) (outcomes_same m.codes m.processes.items c.processes core.processes)
    ∙ sorted_inserted (map outcome_of_process c.processes) ∙ sym (by_name_same c.processes) in
    λ i. record { processes = processes i; paths = outcomes_of_paths (core.files i) }
