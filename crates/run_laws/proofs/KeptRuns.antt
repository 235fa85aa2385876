-- Keeping the replies of a database doesn't change a run, and the kept questions and replies are the logs of
-- its processes.
use Rattle.std.proofs.Common.{◌≡◌, ◌≢◌, ℕ, zero, suc, ◌+◌, List, [], ◌∷◌, ◌++◌, refl, sym, ap, ◌∙◌, subst, Bool, true, false, inl, inr, arith, eq-eqb}
use Rattle.std.specs.Prelude.{Option, Some, None, bytes_eq, slice_get, slice_set, ◌==◌, if◌then◌else◌}
use Rattle.std.specs.List.{AllByRecursion}
use Rattle.std.proofs.lemmas.Bool.{cases_Bool}
use Rattle.std.proofs.lemmas.List.{append-nil}
use Rattle.ldv_value.proofs.Lists.{all-weaker}
use Rattle.ldv_value.proofs.Options.{same-some}
use Rattle.ldv_value.proofs.SameBytes.{bytes_eq-itself, bytes_eq-other, nat_eq-true}
use Rattle.ldv_value.proofs.ItemLists.{all_append}
use Rattle.run_laws.specs.Types.{Reply, Entry, Event}
use Rattle.run_laws.specs.declared.kept.Kept.{Kept}
use Rattle.run_laws.specs.KeptReplies.{KeepingDatabase, keeping_base, with_answer, kept_of, logs_kept}
use Rattle.run_laws.specs.KeptLaw.{nothing_kept, KeptLaw}
use Rattle.run_model.specs.Core.{Process, Core, is_over}
use Rattle.run_model.specs.Database.{Question, Answer, Gives, Diverges, Base}
use Rattle.run_model.specs.Events.{events, events_of_step}
use Rattle.run_model.specs.Run.{first_pick, later_picks, chosen, move, run, steps}
use Rattle.run_model.specs.RunLaw.{start_state_of}
use Rattle.run_model.specs.Schedule.{choose}
use Rattle.run_model.specs.State.{State, StepResult}
use Rattle.run_model.specs.Step.{Ask, entry_of, process_with_reply, local_step, ask_of_process, next_ask, took_of, told, asking}
use Rattle.run_model.specs.WorldRun.{logs_of}
use Rattle.run_model.proofs.Equations.{run-zero, run-over, run-suc, steps-zero, steps-over, steps-suc, events-zero, events-over, events-suc}
use Rattle.run_laws.proofs.Askers.{next_named}
use Rattle.run_laws.proofs.KeptNames.{AskedKept, IsNamed, logs_same}
use Rattle.run_laws.proofs.KeptSplits.{is_by, entries_kept}
use Rattle.run_laws.proofs.ProcessNames.{Later, Grows, found_later, set_grows, name_of, names_set, place_of_name, Named, named_later}
use Rattle.run_laws.proofs.ProcessPlaces.{set_there, set_other}
use Rattle.run_laws.proofs.QuietSteps.{entries_in, Quiets, quiet_quiets}

-- ---- the same run

module _ {Db : Type 0} where
  abbrev bare : State (KeepingDatabase Db) → State Db
  bare s = record { core = s.core; db = s.db.db }

  abbrev bare_step : StepResult (KeepingDatabase Db) → StepResult Db
  bare_step t = record { process = t.process; state = bare t.state; acts = t.acts }

  told_bare : (number : ℕ) (a : Ask) (s : State (KeepingDatabase Db)) (answer : Answer Db)
      → bare_step (told number a s (with_answer s.db.kept a.question answer)) ≡ told number a (bare s) answer
  told_bare number a s (Gives reply db lists) = refl
  told_bare number a s Diverges = refl

module _ {Db : Type 0} (base : Base Db) where
  asking_bare : (number : ℕ) (s : State (KeepingDatabase Db)) (o : Option Ask)
      → bare_step (asking (keeping_base base) number s o) ≡ asking base number (bare s) o
  asking_bare number s None = refl
  asking_bare number s (Some a) = told_bare number a s (base s.db.db a.question)

  move_bare : (pick : Option ℕ) (s : State (KeepingDatabase Db)) → bare_step (move (keeping_base base) pick s) ≡ move base pick (bare s)
  move_bare pick s =
      let number : ℕ = choose pick s.core in
      asking_bare number (chosen number s) (next_ask number (chosen number s).core)

  run_bare : (n : ℕ) (picks : List ℕ) (s : State (KeepingDatabase Db)) → bare (run (keeping_base base) n picks s) ≡ run base n picks (bare s)
  run_bare zero picks s = ap bare (run-zero (keeping_base base) picks s) ∙ sym (run-zero base picks (bare s))
  run_bare (suc n) picks s = elim (cases_Bool (is_over s.core)) [
    | inl over ↦ ap bare (run-over (keeping_base base) (suc n) picks s over) ∙ sym (run-over base (suc n) picks (bare s) over)
    | inr going ↦
        ap bare (run-suc (keeping_base base) n picks s going)
        ∙ run_bare n (later_picks picks) (move (keeping_base base) (first_pick picks) s).state
        ∙ ap (λ (t : StepResult Db). run base n (later_picks picks) t.state) (move_bare (first_pick picks) s)
        ∙ sym (run-suc base n picks (bare s) going)
  ]

  steps_bare : (n : ℕ) (picks : List ℕ) (s : State (KeepingDatabase Db)) → steps (keeping_base base) n picks s ≡ steps base n picks (bare s)
  steps_bare zero picks s = steps-zero (keeping_base base) picks s ∙ sym (steps-zero base picks (bare s))
  steps_bare (suc n) picks s = elim (cases_Bool (is_over s.core)) [
    | inl over ↦ steps-over (keeping_base base) (suc n) picks s over ∙ sym (steps-over base (suc n) picks (bare s) over)
    | inr going ↦
        steps-suc (keeping_base base) n picks s going
        ∙ ap (λ (k : ℕ). 1 + k) (steps_bare n (later_picks picks) (move (keeping_base base) (first_pick picks) s).state)
        ∙ ap (λ (t : StepResult Db). 1 + steps base n (later_picks picks) t.state) (move_bare (first_pick picks) s)
        ∙ sym (steps-suc base n picks (bare s) going)
  ]

  events_bare : (n number : ℕ) (picks : List ℕ) (s : State (KeepingDatabase Db))
      → events (keeping_base base) n number picks s ≡ events base n number picks (bare s)
  events_bare zero number picks s = events-zero (keeping_base base) number picks s ∙ sym (events-zero base number picks (bare s))
  events_bare (suc n) number picks s = elim (cases_Bool (is_over s.core)) [
    | inl over ↦
        events-over (keeping_base base) (suc n) number picks s over ∙ sym (events-over base (suc n) number picks (bare s) over)
    | inr going ↦
        let one : StepResult (KeepingDatabase Db) = move (keeping_base base) (first_pick picks) s in
        events-suc (keeping_base base) n number picks s going
        ∙ ap (λ (es : List Event). events_of_step number one ++ es) (events_bare n (number + 1) (later_picks picks) one.state)
        ∙ ap (λ (t : StepResult Db). events_of_step number t ++ events base n (number + 1) (later_picks picks) t.state) (move_bare (first_pick picks) s)
        ∙ sym (events-suc base n number picks (bare s) going)
  ]

-- ---- entries of a name

entries_append : (name : List ℕ) (kept more : List Kept) → entries_kept name (kept ++ more) ≡ entries_kept name kept ++ entries_kept name more
entries_append name [] more = refl
entries_append name (k ∷ kept) more = elim (cases_Bool (is_by name k)) [
  | inl same ↦ rw same (ap (λ (es : List Entry). k.entry ∷ es) (entries_append name kept more))
  | inr apart ↦ rw apart (entries_append name kept more)
]

one_same : (name : List ℕ) (q : Question) (reply : Reply) → q.process ≡ name
    → entries_kept name (kept_of q reply ∷ []) ≡ entry_of q reply ∷ []
one_same name q reply same =
    ap (λ (b : Bool). if b then entry_of q reply ∷ [] else [])
    (ap (λ (n : List ℕ). bytes_eq name n) same ∙ bytes_eq-itself name)

one_other : (name : List ℕ) (q : Question) (reply : Reply) → name ≢ q.process → entries_kept name (kept_of q reply ∷ []) ≡ []
one_other name q reply apart =
    ap (λ (b : Bool). if b then entry_of q reply ∷ [] else []) (bytes_eq-other name q.process apart)

-- that of no one
none_kept : (name : List ℕ) (kept : List Kept) → AllByRecursion (λ (k : Kept). name ≢ k.process.parts) kept → entries_kept name kept ≡ []
none_kept name [] apart = refl
none_kept name (k ∷ kept) apart =
    ap (λ (b : Bool). if b then k.entry ∷ entries_kept name kept else entries_kept name kept) (bytes_eq-other name k.process.parts apart.0)
    ∙ none_kept name kept apart.1

-- ---- what is kept is what the processes asked

record Known (ps : List Process) (k : Kept) : Type 0 where
  number : ℕ
  process : Process
  there : slice_get ps number ≡ Some process
  named : process.name ≡ k.process.parts

record KeepsAll (kept : List Kept) (ps : List Process) : Type 0 where
  named : Named ps
  each : (k : ℕ) (p : Process) → slice_get ps k ≡ Some p → p.entries ≡ entries_kept p.name kept
  known : AllByRecursion (Known ps) kept

known_later : (ps qs : List Process) → Grows ps qs → (k : Kept) → Known ps k → Known qs k
known_later ps qs grows k known =
    let found = found_later ps qs known.number known.process grows known.there in
    record { number = known.number; process = found.0; there = found.1; named = found.2.name ∙ known.named }

-- a step that asks nothing
module _ (kept : List Kept) (ps qs : List Process) (all : KeepsAll kept ps) (grows : Grows ps qs) (named : Named qs)
    (entries : (k : ℕ) → entries_in (slice_get qs k) ≡ entries_in (slice_get ps k)) where
  known_there : AllByRecursion (Known qs) kept
  known_there = all-weaker (Known ps) (Known qs) (known_later ps qs grows) kept all.known

  -- a new process has the name of none that asked
  new_apart : (k : ℕ) (q : Process) → slice_get qs k ≡ Some q → slice_get ps k ≡ None → (x : Kept) → Known ps x
      → q.name ≢ x.process.parts
  new_apart k q here none x known same =
      let found = found_later ps qs known.number known.process grows known.there in
      let place : k ≡ known.number =
      place_of_name qs k known.number q found.0 named.distinct here found.1 (same ∙ sym (found.2.name ∙ known.named)) in
      let wrong : None ≡ Some known.process = sym none ∙ ap (slice_get ps) place ∙ known.there in
      absurd cc

  each_by : (k : ℕ) (q : Process) → slice_get qs k ≡ Some q → (o : Option Process) → slice_get ps k ≡ o
      → q.entries ≡ entries_kept q.name kept
  each_by k q here None none =
      let empty : q.entries ≡ [] = sym (ap entries_in here) ∙ entries k ∙ ap entries_in none in
      empty
      ∙ sym (none_kept q.name kept
      (all-weaker (Known ps) (λ (x : Kept). q.name ≢ x.process.parts) (new_apart k q here none) kept all.known))
  each_by k q here (Some p) there =
      let found = found_later ps qs k p grows there in
      let same : found.0 ≡ q = same-some found.0 q (sym found.1 ∙ here) in
      let name : q.name ≡ p.name = sym (ap name_of same) ∙ found.2.name in
      sym (ap entries_in here) ∙ entries k ∙ ap entries_in there
      ∙ all.each k p there
      ∙ ap (λ (n : List ℕ). entries_kept n kept) (sym name)

  quiet_keeps : KeepsAll kept qs
  quiet_keeps = record {
    named = named;
    each = λ k q here. each_by k q here (slice_get ps k) refl;
    known = known_there;
  }

-- a step that asks
module _ (kept : List Kept) (ps : List Process) (all : KeepsAll kept ps) (number : ℕ) (p : Process) (a : Ask) (reply : Reply)
    (is : slice_get ps number ≡ Some p) (by : a.question.process ≡ p.name) where
  abbrev q : Process
  q = process_with_reply a reply p

  abbrev after : List Process
  after = slice_set ps number q

  abbrev one : Kept
  one = kept_of a.question reply

  later : Later p q
  later = record { name = refl; spawned = omega arith; rest = entry_of a.question reply ∷ []; entries = refl }

  grows : Grows ps after
  grows = set_grows ps number p q is later

  there : slice_get after number ≡ Some q
  there = set_there ps number p q is

  named_after : Named after
  named_after = named_later ps after grows (names_set ps number p q is refl) all.named

  asker_keeps : q.entries ≡ entries_kept q.name (kept ++ one ∷ [])
  asker_keeps =
      ap (λ (es : List Entry). es ++ entry_of a.question reply ∷ []) (all.each number p is)
      ∙ ap (λ (es : List Entry). entries_kept p.name kept ++ es) (sym (one_same p.name a.question reply by))
      ∙ sym (entries_append p.name kept (one ∷ []))

  other_keeps : (k : ℕ) (r : Process) → k ≢ number → slice_get after k ≡ Some r → r.entries ≡ entries_kept r.name (kept ++ one ∷ [])
  other_keeps k r apart here =
      let before : slice_get ps k ≡ Some r = sym (set_other ps number k q apart) ∙ here in
      let differs : r.name ≢ a.question.process =
      λ same. apart (place_of_name ps k number r p all.named.distinct before is (same ∙ by)) in
      all.each k r before
      ∙ sym (append-nil (entries_kept r.name kept))
      ∙ ap (λ (es : List Entry). entries_kept r.name kept ++ es) (sym (one_other r.name a.question reply differs))
      ∙ sym (entries_append r.name kept (one ∷ []))

  each_after : (k : ℕ) (r : Process) → slice_get after k ≡ Some r → (b : Bool) → (k == number) ≡ b
      → r.entries ≡ entries_kept r.name (kept ++ one ∷ [])
  each_after k r here true same =
      let place : k ≡ number = nat_eq-true k number same in
      let found : q ≡ r = same-some q r (sym there ∙ ap (slice_get after) (sym place) ∙ here) in
      subst (λ (x : Process). x.entries ≡ entries_kept x.name (kept ++ one ∷ [])) found asker_keeps
  each_after k r here false apart =
      other_keeps k r
      (λ same. (let itself : (k == k) ≡ true = eq-eqb k k refl in let wrong : true ≡ false = sym itself ∙ ap (λ (m : ℕ). k == m) same ∙ apart in cc))
      here

  took_keeps : KeepsAll (kept ++ one ∷ []) after
  took_keeps = record {
    named = named_after;
    each = λ k r here. each_after k r here (k == number) refl;
    known =
        all_append (Known after) kept (one ∷ [])
        (all-weaker (Known ps) (Known after) (known_later ps after grows) kept all.known)
        (record { number = number; process = q; there = there; named = sym by }, tt);
  }

-- ---- steps and runs

module _ {Db : Type 0} where
  -- of a run over a database whose replies are kept
  abbrev Holds : State (KeepingDatabase Db) → Type 0
  Holds s = KeepsAll s.db.kept s.core.processes

  told_keeps : (number : ℕ) (a : Ask) (s : State (KeepingDatabase Db)) (answer : Answer Db) → Holds s
      → (o : Option Process) → slice_get s.core.processes number ≡ o → ask_of_process o ≡ Some a
      → Holds (told number a s (with_answer s.db.kept a.question answer)).state
  told_keeps number a s Diverges all o is asks = all
  told_keeps number a s (Gives reply db lists) all None is asks = absurd cc
  told_keeps number a s (Gives reply db lists) all (Some p) is asks =
      subst (λ (o : Option Process). KeepsAll (s.db.kept ++ kept_of a.question reply ∷ []) (took_of o number a reply s.core).processes) (sym is)
      (took_keeps s.db.kept s.core.processes all number p a reply is (next_named (slice_get p.script p.place) p a asks))

module _ {Db : Type 0} (base : Base Db) where
  asking_keeps : (number : ℕ) (s : State (KeepingDatabase Db)) (o : Option Ask) → next_ask number s.core ≡ o → Holds s
      → Holds (asking (keeping_base base) number s o).state
  asking_keeps number s None is all =
      let quiets : Quiets s.core (local_step number s.core) = quiet_quiets number s.core in
      quiet_keeps s.db.kept s.core.processes (local_step number s.core).core.processes all quiets.grows (quiets.named all.named) quiets.entries
  asking_keeps number s (Some a) is all =
      told_keeps number a s (base s.db.db a.question) all (slice_get s.core.processes number) refl is

  move_keeps : (pick : Option ℕ) (s : State (KeepingDatabase Db)) → Holds s → Holds (move (keeping_base base) pick s).state
  move_keeps pick s all =
      let number : ℕ = choose pick s.core in
      asking_keeps number (chosen number s) (next_ask number (chosen number s).core) refl all

  run_keeps : (n : ℕ) (picks : List ℕ) (s : State (KeepingDatabase Db)) → Holds s → Holds (run (keeping_base base) n picks s)
  run_keeps zero picks s all = subst Holds (sym (run-zero (keeping_base base) picks s)) all
  run_keeps (suc n) picks s all = elim (cases_Bool (is_over s.core)) [
    | inl over ↦ subst Holds (sym (run-over (keeping_base base) (suc n) picks s over)) all
    | inr going ↦
        subst Holds (sym (run-suc (keeping_base base) n picks s going))
        (run_keeps n (later_picks picks) (move (keeping_base base) (first_pick picks) s).state (move_keeps (first_pick picks) s all))
  ]

-- ---- at the end

all_found : (P : Process → Type 0) (ps : List Process) → ((k : ℕ) (p : Process) → slice_get ps k ≡ Some p → P p) → AllByRecursion P ps
all_found P [] at = tt
all_found P (p ∷ ps) at = (at 0 p refl, all_found P ps (λ k q there. at (suc k) q there))

named_at : (ps : List Process) (k : ℕ) (p : Process) (x : Kept) → slice_get ps k ≡ Some p → p.name ≡ x.process.parts → IsNamed ps x
named_at [] zero p x there named = cc
named_at [] (suc k) p x there named = cc
named_at (q ∷ ps) zero p x there named = inl (sym named ∙ sym (ap name_of (same-some q p there)))
named_at (q ∷ ps) (suc k) p x there named = inr (named_at ps k p x there named)

known_named : (ps : List Process) (x : Kept) → Known ps x → IsNamed ps x
known_named ps x known = named_at ps known.number known.process x known.there known.named

logs_are : (kept : List Kept) (c : Core) → KeepsAll kept c.processes → logs_kept kept ≡ logs_of c
logs_are kept c all =
    logs_same c.processes kept all.named.distinct (all_found (AskedKept kept) c.processes all.each)
    (all-weaker (Known c.processes) (IsNamed c.processes) (known_named c.processes) kept all.known)

starts_kept : (p : Process) → p.name ≡ 0 ∷ [] → p.entries ≡ [] → KeepsAll [] (p ∷ [])
starts_kept p named none = record {
  named = record { distinct = (tt, tt); made = (inl named, tt) };
  each = λ k q there. first k q there;
  known = tt;
} where
  first : (k : ℕ) (q : Process) → slice_get (p ∷ []) k ≡ Some q → q.entries ≡ []
  first zero q there = ap (λ (x : Process). x.entries) (sym (same-some p q there)) ∙ none
  first (suc zero) q there = cc
  first (suc (suc k)) q there = cc

pub kept_law : (Db : Type 0) → KeptLaw Db
kept_law Db base n picks start seed files script db =
    let k : State (KeepingDatabase Db) = start_state_of start seed files script (nothing_kept db) in
    let s : State Db = start_state_of start seed files script db in
    let same : bare (run (keeping_base base) n picks k) ≡ run base n picks s = run_bare base n picks k in
    let core : (run (keeping_base base) n picks k).core ≡ (run base n picks s).core = ap (λ (t : State Db). t.core) same in
    record {
      core = core;
      db = ap (λ (t : State Db). t.db) same;
      told = events_bare base n 1 picks k;
      count = steps_bare base n picks k;
      logs =
          logs_are (run (keeping_base base) n picks k).db.kept (run (keeping_base base) n picks k).core
          (run_keeps base n picks k (starts_kept _ refl refl))
          ∙ ap logs_of core;
    }
