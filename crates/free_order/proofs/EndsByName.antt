-- Runs that end alike, by name, have the same outcome.
use Rattle.std.proofs.Common.{◌≡◌, ◌≢◌, ℕ, List, [], ◌∷◌, refl, sym, ap, ◌∙◌, subst, Bool, true, false, T, inl, inr}
use Rattle.std.specs.Prelude.{Option, Some, None, cond, map, option_map, bytes_eq, if◌then◌else◌, is_some}
use Rattle.std.specs.List.{list_all, AllByRecursion}
use Rattle.std.specs.Cmp.Lexicographic.{nat_list_cmp_total}
use Rattle.std.specs.FinMap.Entries.{same_entries}
use Rattle.std.specs.FinMap.Entries as entries
use Rattle.std.specs.FinMap.{slice_cmp-IsAntisymmetric, nat_cmp-IsAntisymmetric}
use Rattle.std.proofs.lemmas.Bool.{cases_Bool}
use Rattle.ldv_value.specs.FileState.{path_cmp}
use Rattle.ldv_value.proofs.FileLists.{eq_by_cmp-path, sorted-to}
use Rattle.ldv_value.proofs.Lists.{map-map}
use Rattle.ldv_value.proofs.SameBytes.{bytes_eq-true, bytes_eq-other}
use Rattle.free_order.specs.Types.{ProcOutcome, PathOutcome, Outcome}
use Rattle.run_model.specs.Core.{Process, Core}
use Rattle.run_model.specs.LogDatabase.{LogDatabase}
use Rattle.run_model.specs.Outcome.{insert_by_name, by_name, outcome_of_process, outcome_of}
use Rattle.run_model.specs.State.{State}
use Rattle.ldv_value.proofs.ItemLists.{all_of_map}
use Rattle.run_laws.proofs.ProcessNames.{name_of, names, Distinct}
use Rattle.run_laws.proofs.SortedNames.{goes_first, sorted_all, names_sorted, Apart}
use Rattle.free_order.proofs.Boards.{Solo, Board}
use Rattle.free_order.proofs.ByName.{named, solo_of, solos, board_of}

-- ---- in the order of names the same process stands under a name

insert_named : (p : Process) (qs : List Process) (name : List ℕ) → AllByRecursion (Apart p) qs
    → named name (insert_by_name p qs) ≡ (if bytes_eq name p.name then Some p else named name qs)
insert_named p [] name apart = refl
insert_named p (q ∷ qs) name apart = elim (cases_Bool (goes_first p q)) [
  | inl first ↦ rw first refl
  | inr later ↦ rw later
      (elim (cases_Bool (bytes_eq name q.name)) [
        | inl hit ↦
            let here : name ≡ q.name = bytes_eq-true name q.name hit in
            let miss : bytes_eq name p.name ≡ false = bytes_eq-other name p.name (λ there. apart.0 (sym there ∙ here)) in
            rw (hit, miss) refl
        | inr miss ↦ rw miss (insert_named p qs name apart.1)
      ])
]

sorted_named : (ps : List Process) (name : List ℕ) → Distinct (names ps) → named name (by_name ps) ≡ named name ps
sorted_named [] name distinct = refl
sorted_named (p ∷ ps) name distinct =
    insert_named p (by_name ps) name (sorted_all (Apart p) ps (all_of_map (λ (m : List ℕ). p.name ≢ m) name_of ps distinct.0))
    ∙ ap (λ (o : Option Process). if bytes_eq name p.name then Some p else o) (sorted_named ps name distinct.1)

-- ---- outcomes under names

abbrev outcomes : List Process → List (List ℕ × ProcOutcome)
outcomes = map (λ p. (p.name, outcome_of_process p))

found_outcome : (ps : List Process) (name : List ℕ) → entries.find path_cmp name (outcomes ps) ≡ option_map outcome_of_process (named name ps)
found_outcome [] name = refl
found_outcome (p ∷ ps) name =
    (λ j. cond (eq_by_cmp-path name p.name j) (Some (outcome_of_process p)) (found_outcome ps name j))
    ∙ by (bytes_eq name p.name) (named name ps)
  where
    by : (hit : Bool) (o : Option Process)
        → cond hit (Some (outcome_of_process p)) (option_map outcome_of_process o) ≡ option_map outcome_of_process (cond hit (Some p) o)
    by true o = refl
    by false o = refl

by_solo : (ps : List Process) (o : Option Process) → option_map outcome_of_process o ≡ option_map (λ (x : Solo). outcome_of_process x.own) (option_map (solo_of (names ps)) o)
by_solo ps None = refl
by_solo ps (Some p) = refl

under : (ps : List Process) (name : List ℕ) → Distinct (names ps)
    → entries.find path_cmp name (outcomes (by_name ps)) ≡ option_map (λ (x : Solo). outcome_of_process x.own) (solos ps name)
under ps name distinct =
    found_outcome (by_name ps) name
    ∙ ap (option_map outcome_of_process) (sorted_named ps name distinct)
    ∙ by_solo ps (named name ps)

process_outcomes : (ps qs : List Process) → Distinct (names ps) → Distinct (names qs) → ((name : List ℕ) → solos ps name ≡ solos qs name)
    → map outcome_of_process (by_name ps) ≡ map outcome_of_process (by_name qs)
process_outcomes ps qs distinct other same =
    let both : outcomes (by_name ps) ≡ outcomes (by_name qs) =
    same_entries path_cmp nat_list_cmp_total (slice_cmp-IsAntisymmetric nat_cmp-IsAntisymmetric) (outcomes (by_name ps)) (outcomes (by_name qs))
    (sorted-to (λ (p : Process). p.name) outcome_of_process (by_name ps) (names_sorted ps distinct))
    (sorted-to (λ (p : Process). p.name) outcome_of_process (by_name qs) (names_sorted qs other))
    (λ name. under ps name distinct ∙ ap (option_map (λ (x : Solo). outcome_of_process x.own)) (same name) ∙ sym (under qs name other)) in
    sym (map-map (λ (e : List ℕ × ProcOutcome). e.1) (λ (p : Process). (p.name, outcome_of_process p)) (by_name ps))
    ∙ ap (map (λ (e : List ℕ × ProcOutcome). e.1)) both
    ∙ map-map (λ (e : List ℕ × ProcOutcome). e.1) (λ (p : Process). (p.name, outcome_of_process p)) (by_name qs)

-- ---- the outcome

abbrev board_paths : Board → List PathOutcome
board_paths b = map (λ path. record { path = path; content = b.bytes path }) b.touched

pub same_outcome : (s t : State LogDatabase) → Distinct (names s.core.processes) → Distinct (names t.core.processes) → board_of s ≡ board_of t
    → outcome_of s.core ≡ outcome_of t.core
same_outcome s t distinct other same =
    let processes : map outcome_of_process (by_name s.core.processes) ≡ map outcome_of_process (by_name t.core.processes) =
    process_outcomes s.core.processes t.core.processes distinct other (λ name. ap (λ (b : Board). b.solo name) same) in
    let paths : board_paths (board_of s) ≡ board_paths (board_of t) = ap board_paths same in
    λ j. record { processes = processes j; paths = paths j }

-- ---- who stands under a name

pub solo_found : (ps : List Process) (name : List ℕ) (x : Solo) → solos ps name ≡ Some x
    → (p : Process) × (named name ps ≡ Some p) × (solo_of (names ps) p ≡ x)
solo_found ps name x is = by (named name ps) refl is
  where
    by : (o : Option Process) → named name ps ≡ o → option_map (solo_of (names ps)) o ≡ Some x
        → (p : Process) × (named name ps ≡ Some p) × (solo_of (names ps) p ≡ x)
    by None found there = absurd cc
    by (Some p) found there = let same : solo_of (names ps) p ≡ x = cc in (p, found, same)
