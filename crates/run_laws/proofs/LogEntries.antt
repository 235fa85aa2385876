-- The recorded entries of a process: those in the logs at the end of a run, and those that are left.
use Rattle.std.proofs.Common.{◌≡◌, ◌≢◌, ℕ, zero, suc, List, [], ◌∷◌, length, refl, sym, ◌∙◌, subst, false, inl, inr}
use Rattle.std.specs.Prelude.{Some, map, filter, drop, not, ◌==◌, slice_get, bytes_eq}
use Rattle.std.specs.List.{AllByRecursion}
use Rattle.std.proofs.lemmas.Bool.{cases_Bool}
use Rattle.ldv_value.proofs.Booleans.{not-false}
use Rattle.ldv_value.proofs.Lists.{all-weaker, nil-from-length}
use Rattle.ldv_value.proofs.SameBytes.{bytes_eq-true, bytes_eq-itself, bytes_eq-other, nat_eq-true}
use Rattle.run_laws.specs.Types.{Entry, Log}
use Rattle.run_model.specs.Core.{Process, Core}
use Rattle.run_model.specs.LogDatabase.{entries_left, logs_after}
use Rattle.run_model.specs.Outcome.{insert_by_name, by_name}
use Rattle.run_model.specs.WorldRun.{has_asked, log_of, logs_of}
use Rattle.run_laws.proofs.ProcessNames.{name_of, names, at_name, Distinct}
use Rattle.run_laws.proofs.SortedNames.{goes_first, sorted_all}
use Rattle.ldv_value.proofs.ItemLists.{all_of_map}

-- ---- of the logs of some processes

-- the entries under a name
abbrev pub entries_under : List ℕ → List Process → List Entry
entries_under name ps = entries_left name (map log_of (filter has_asked ps))

no_entries : (es : List Entry) → not (length es == 0) ≡ false → es ≡ []
no_entries es idle = nil-from-length es (nat_eq-true (length es) 0 (not-false (length es == 0) idle))

-- another process in front
under_other : (name : List ℕ) (q : Process) (ps : List Process) → bytes_eq name q.name ≡ false
    → entries_under name (q ∷ ps) ≡ entries_under name ps
under_other name q ps other = elim (cases_Bool (has_asked q)) [
  | inl asked ↦ rw (asked, other) refl
  | inr idle ↦ rw idle refl
]

under_front : (name : List ℕ) (q : Process) (xs ys : List Process) → entries_under name xs ≡ entries_under name ys
    → entries_under name (q ∷ xs) ≡ entries_under name (q ∷ ys)
under_front name q xs ys same = elim (cases_Bool (bytes_eq name q.name)) [
  | inl hit ↦ elim (cases_Bool (has_asked q)) [
    | inl asked ↦ rw (asked, hit) refl
    | inr idle ↦ rw idle same
  ]
  | inr miss ↦ under_other name q xs miss ∙ same ∙ sym (under_other name q ys miss)
]

-- no process has the name
abbrev IsOther : List ℕ → Process → Type 0
IsOther name p = bytes_eq name p.name ≡ false

under_none : (name : List ℕ) (ps : List Process) → AllByRecursion (IsOther name) ps → entries_under name ps ≡ []
under_none name [] others = refl
under_none name (p ∷ ps) others = under_other name p ps others.0 ∙ under_none name ps others.1

-- the process itself in front
under_own : (p : Process) (ps : List Process) → AllByRecursion (IsOther p.name) ps
    → entries_under p.name (p ∷ ps) ≡ p.entries
under_own p ps others = elim (cases_Bool (has_asked p)) [
  | inl asked ↦ rw (asked, bytes_eq-itself p.name) refl
  | inr idle ↦ rw idle (under_none p.name ps others ∙ sym (no_entries p.entries idle))
]

-- ---- in the order of names

insert_other : (name : List ℕ) (p : Process) (qs : List Process) → bytes_eq name p.name ≡ false
    → entries_under name (insert_by_name p qs) ≡ entries_under name qs
insert_other name p [] other = under_other name p [] other
insert_other name p (q ∷ qs) other = elim (cases_Bool (goes_first p q)) [
  | inl first ↦ rw first (under_other name p (q ∷ qs) other)
  | inr later ↦ rw later (under_front name q (insert_by_name p qs) qs (insert_other name p qs other))
]

insert_own : (p : Process) (qs : List Process) → AllByRecursion (IsOther p.name) qs
    → entries_under p.name (insert_by_name p qs) ≡ p.entries
insert_own p [] others = under_own p [] others
insert_own p (q ∷ qs) others = elim (cases_Bool (goes_first p q)) [
  | inl first ↦ rw first (under_own p (q ∷ qs) others)
  | inr later ↦ rw later (under_other p.name q (insert_by_name p qs) others.0 ∙ insert_own p qs others.1)
]

-- processes after one have other names than it
others_of : (p : Process) (ps : List Process) → AllByRecursion (λ m. p.name ≢ m) (names ps)
    → AllByRecursion (IsOther p.name) ps
others_of p ps apart =
    all-weaker (λ (q : Process). p.name ≢ q.name) (IsOther p.name)
    (λ q differ. bytes_eq-other p.name q.name differ) ps
    (all_of_map (λ (m : List ℕ). p.name ≢ m) name_of ps apart)

sorted_entries : (ps : List Process) (k : ℕ) (q : Process) → Distinct (names ps) → slice_get ps k ≡ Some q
    → entries_under q.name (by_name ps) ≡ q.entries
sorted_entries [] zero q distinct is = absurd cc
sorted_entries [] (suc k) q distinct is = absurd cc
sorted_entries (p ∷ ps) zero q distinct is =
    let same : p ≡ q = cc in
    subst (λ (x : Process). entries_under x.name (by_name (p ∷ ps)) ≡ x.entries) same
    (insert_own p (by_name ps) (sorted_all (IsOther p.name) ps (others_of p ps distinct.0)))
sorted_entries (p ∷ ps) (suc k) q distinct is =
    let apart : p.name ≢ q.name = at_name (λ (m : List ℕ). p.name ≢ m) ps k q distinct.0 is in
    let other : bytes_eq q.name p.name ≡ false = bytes_eq-other q.name p.name (λ same. apart (sym same)) in
    insert_other q.name p (by_name ps) other ∙ sorted_entries ps k q distinct.1 is

-- the logs of a run's end have what each process asked
pub logged_entries : (c : Core) (k : ℕ) (q : Process) → Distinct (names c.processes) → slice_get c.processes k ≡ Some q
    → entries_left q.name (logs_of c) ≡ q.entries
logged_entries c k q distinct is = sorted_entries c.processes k q distinct is

-- ---- after a reply

pub left_after : (name : List ℕ) (logs : List Log)
    → entries_left name (logs_after name logs) ≡ drop 1 (entries_left name logs)
left_after name [] = refl
left_after name (log ∷ logs) = elim (cases_Bool (bytes_eq name log.process.parts)) [
  | inl hit ↦ rw hit (rw hit refl)
  | inr miss ↦ rw miss (rw miss (left_after name logs))
]

-- of another process nothing is taken
pub left_other : (name other : List ℕ) (logs : List Log) → other ≢ name
    → entries_left other (logs_after name logs) ≡ entries_left other logs
left_other name other [] apart = refl
left_other name other (log ∷ logs) apart = elim (cases_Bool (bytes_eq name log.process.parts)) [
  | inl hit ↦
      let own : name ≡ log.process.parts = bytes_eq-true name log.process.parts hit in
      let miss : bytes_eq other log.process.parts ≡ false =
      bytes_eq-other other log.process.parts (λ same. apart (same ∙ sym own)) in
      rw hit (rw miss refl)
  | inr miss ↦ rw miss
      (elim (cases_Bool (bytes_eq other log.process.parts)) [
        | inl here ↦ rw here refl
        | inr there ↦ rw there (left_other name other logs apart)
      ])
]
