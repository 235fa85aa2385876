-- The run over recorded replies is the run over the database that gave them: at each step the logs have the
-- questions that each process will still ask, with the replies.
use Rattle.std.proofs.Common.{◌≡◌, ◌≢◌, ℕ, zero, suc, ◌+◌, List, [], ◌∷◌, ◌++◌, refl, sym, ap, ◌∙◌, subst, Bool, true, arith, inl, inr}
use Rattle.std.specs.Prelude.{Option, Some, None, drop, slice_get, slice_set, ◌==◌, if◌then◌else◌}
use Rattle.std.specs.Cmp.{eq_by_cmp_equiv}
use Rattle.std.proofs.Math.Nat.{suc-add}
use Rattle.std.proofs.lemmas.Bool.{cases_Bool}
use Rattle.std.proofs.lemmas.Bool.Decides.{Decides-eqb}
use Rattle.std.proofs.lemmas.List.{append_assoc, append_cancel_left}
use Rattle.ldv_value.proofs.Booleans.{and-from, false≢true}
use Rattle.ldv_value.proofs.Options.{same-some}
use Rattle.ldv_value.proofs.SameBytes.{bytes_eq-itself, nat_eq-true}
use Rattle.ldv_value.specs.Order.{values_total}
use Rattle.sql_model.specs.Keys.{same_values}
use Rattle.sql_model.specs.Scope.{same_text}
use Rattle.run_laws.specs.Types.{Reply, Entry}
use Rattle.run_model.specs.Core.{Process, Core, is_over}
use Rattle.run_model.specs.Database.{Question, Lists, Answer, Gives, Diverges, Base}
use Rattle.run_model.specs.LogDatabase.{LogDatabase, entries_left, logs_after, no_lists, is_recorded, answer_from, log_base}
use Rattle.run_model.specs.Run.{first_pick, later_picks, chosen, move, run}
use Rattle.run_model.specs.Schedule.{choose}
use Rattle.run_model.specs.State.{State, StepResult}
use Rattle.run_model.specs.Step.{Ask, entry_of, process_with_reply, local_step, next_ask, took_of, took, kept, told, asking}
use Rattle.run_model.proofs.Equations.{run-zero, run-over, run-suc}
use Rattle.run_laws.proofs.Askers.{asker}
use Rattle.run_laws.proofs.LogEntries.{left_after, left_other}
use Rattle.run_laws.proofs.ProcessNames.{Later, Grows, grows_itself, grows_trans, found_later, set_grows, names, names_set, Distinct, place_of_name, Named, named_later}
use Rattle.run_laws.proofs.ProcessPlaces.{set_there, set_other}
use Rattle.run_laws.proofs.QuietSteps.{entries_in, Quiets, quiet_quiets}

-- ---- what a run leaves of the core

pub record Follows (c d : Core) : Type 0 where
  pub grows : Grows c.processes d.processes
  pub named : Named c.processes → Named d.processes
  pub diverged : d.diverged ≡ c.diverged

follows_itself : (c : Core) → Follows c c
follows_itself c = record { grows = grows_itself c.processes; named = λ named. named; diverged = refl }

follows_trans : (a b c : Core) → Follows a b → Follows b c → Follows a c
follows_trans a b c first second = record {
  grows = grows_trans a.processes b.processes c.processes first.grows second.grows;
  named = λ named. second.named (first.named named);
  diverged = second.diverged ∙ first.diverged;
}

pub replied_later : (a : Ask) (reply : Reply) (p : Process) → Later p (process_with_reply a reply p)
replied_later a reply p = record {
  name = refl;
  spawned = omega arith;
  rest = entry_of a.question reply ∷ [];
  entries = refl;
}

took_follows : (o : Option Process) (number : ℕ) (a : Ask) (reply : Reply) (c : Core) → slice_get c.processes number ≡ o
    → Follows c (took_of o number a reply c)
took_follows None number a reply c is = follows_itself c
took_follows (Some p) number a reply c is =
    let q : Process = process_with_reply a reply p in
    let grows : Grows c.processes (slice_set c.processes number q) =
    set_grows c.processes number p q is (replied_later a reply p) in
    record {
      grows = grows;
      named =
          named_later c.processes (slice_set c.processes number q) grows (names_set c.processes number p q is refl);
      diverged = refl;
    }

-- ---- what is left of the logs

-- with what was asked so far it's what each process has asked at the end
abbrev pub Left : List Process → List Process → LogDatabase → Type 0
Left end ps logs = (k : ℕ) (q : Process) → slice_get end k ≡ Some q
    → q.entries ≡ entries_in (slice_get ps k) ++ entries_left q.name logs

recorded_itself : (q : Question) (reply : Reply) → is_recorded q (entry_of q reply) ≡ true
recorded_itself q reply =
    and-from (same_text q.text q.text) (same_values q.params q.params) (bytes_eq-itself q.text)
    ((eq_by_cmp_equiv values_total).refl q.params)

-- the recorded reply is given
recorded_answer : (logs : LogDatabase) (q : Question) (reply : Reply) (rest : List Entry)
    → entries_left q.process logs ≡ entry_of q reply ∷ rest
    → log_base logs q ≡ Gives reply (logs_after q.process logs) no_lists
recorded_answer logs q reply rest is =
    ap (answer_from logs q) is
    ∙ ap (λ (b : Bool). if b then Gives reply (logs_after q.process logs) no_lists else Diverges) (recorded_itself q reply)

-- ---- a database that has a reply to every question

module _ {Db : Type 0} (reply : Db → Question → Reply) (next : Db → Question → Db) (lists : Db → Question → Lists) where
  abbrev pub base : Base Db
  base db q = Gives (reply db q) (next db q) (lists db q)

  asking_follows : (number : ℕ) (s : State Db) (o : Option Ask) → Follows s.core (asking base number s o).state.core
  asking_follows number s None =
      let quiets : Quiets s.core (local_step number s.core) = quiet_quiets number s.core in
      record { grows = quiets.grows; named = quiets.named; diverged = quiets.diverged }
  asking_follows number s (Some a) =
      took_follows (slice_get s.core.processes number) number a (reply s.db a.question) s.core refl

  move_follows : (pick : Option ℕ) (s : State Db) → Follows s.core (move base pick s).state.core
  move_follows pick s =
      let number : ℕ = choose pick s.core in
      let here : Follows (chosen number s).core (move base pick s).state.core =
      asking_follows number (chosen number s) (next_ask number (chosen number s).core) in
      record { grows = here.grows; named = here.named; diverged = here.diverged }

  pub run_follows : (n : ℕ) (picks : List ℕ) (s : State Db) → Follows s.core (run base n picks s).core
  run_follows zero picks s =
      subst (λ (t : State Db). Follows s.core t.core) (sym (run-zero base picks s)) (follows_itself s.core)
  run_follows (suc n) picks s = elim (cases_Bool (is_over s.core)) [
    | inl over ↦
        subst (λ (t : State Db). Follows s.core t.core) (sym (run-over base (suc n) picks s over)) (follows_itself s.core)
    | inr going ↦
        let one : StepResult Db = move base (first_pick picks) s in
        subst (λ (t : State Db). Follows s.core t.core) (sym (run-suc base n picks s going))
        (follows_trans s.core one.state.core (run base n (later_picks picks) one.state).core
        (move_follows (first_pick picks) s) (run_follows n (later_picks picks) one.state))
  ]

  -- ---- the same step over the logs

  -- the state with logs in place of the database
  abbrev pub with_logs : LogDatabase → State Db → State LogDatabase
  with_logs logs s = record { core = s.core; db = logs }

  record LogStep (end : List Process) (small : StepResult LogDatabase) (whole : StepResult Db) : Type 0 where
    logs : LogDatabase
    same : small.state ≡ with_logs logs whole.state
    left : Left end whole.state.core.processes logs

  kept_logs : (end : List Process) (number : ℕ) (logs : LogDatabase) (s : State Db) → Left end s.core.processes logs
      → LogStep end (kept number (with_logs logs s)) (kept number s)
  kept_logs end number logs s left =
      let quiets : Quiets s.core (local_step number s.core) = quiet_quiets number s.core in
      record {
        logs = logs;
        same = refl;
        left = λ k q is. left k q is ∙ ap (λ (es : List Entry). es ++ entries_left q.name logs) (sym (quiets.entries k));
      }

  -- the process of a creation number asks
  module _ (end : List Process) (distinct : Distinct (names end)) (number : ℕ) (a : Ask) (s : State Db) (p : Process)
      (is : slice_get s.core.processes number ≡ Some p) (named : a.question.process ≡ p.name)
      (grows : Grows (took number a (reply s.db a.question) s.core).processes end)
      (logs : LogDatabase) (left : Left end s.core.processes logs) where
    abbrev given : Reply
    given = reply s.db a.question

    abbrev new : Core
    new = took number a given s.core

    abbrev entry : Entry
    entry = entry_of a.question given

    -- the processes after it
    new_are : new.processes ≡ slice_set s.core.processes number (process_with_reply a given p)
    new_are = ap (λ (o : Option Process). (took_of o number a given s.core).processes) is

    asked_there : slice_get new.processes number ≡ Some (process_with_reply a given p)
    asked_there =
        ap (λ (ps : List Process). slice_get ps number) new_are
        ∙ set_there s.core.processes number p (process_with_reply a given p) is

    -- the process at the end
    at_end : (q : Process) × (slice_get end number ≡ Some q) × Later (process_with_reply a given p) q
    at_end = found_later new.processes end number (process_with_reply a given p) grows asked_there

    own_name : a.question.process ≡ at_end.0.name
    own_name = named ∙ sym at_end.2.name

    -- its recorded entry is next
    own_left : entries_left at_end.0.name logs ≡ entry ∷ at_end.2.rest
    own_left =
        append_cancel_left p.entries (entries_left at_end.0.name logs) (entry ∷ at_end.2.rest)
        (sym (left number at_end.0 at_end.1 ∙ ap (λ (o : Option Process). entries_in o ++ entries_left at_end.0.name logs) is)
        ∙ at_end.2.entries
        ∙ append_assoc p.entries (entry ∷ []) at_end.2.rest)

    abbrev after : LogDatabase
    after = logs_after a.question.process logs

    answer : log_base logs a.question ≡ Gives given after no_lists
    answer =
        recorded_answer logs a.question given at_end.2.rest
        (ap (λ (name : List ℕ). entries_left name logs) own_name ∙ own_left)

    own_after : entries_left at_end.0.name after ≡ at_end.2.rest
    own_after =
        ap (λ (name : List ℕ). entries_left at_end.0.name (logs_after name logs)) own_name
        ∙ left_after at_end.0.name logs
        ∙ ap (drop 1) own_left

    own_holds : at_end.0.entries ≡ entries_in (slice_get new.processes number) ++ entries_left at_end.0.name after
    own_holds =
        at_end.2.entries
        ∙ sym (λ j. entries_in (asked_there j) ++ own_after j)

    other_holds : (k : ℕ) (q : Process) → k ≢ number → slice_get end k ≡ Some q
        → q.entries ≡ entries_in (slice_get new.processes k) ++ entries_left q.name after
    other_holds k q apart there =
        let unasked : slice_get new.processes k ≡ slice_get s.core.processes k =
        ap (λ (ps : List Process). slice_get ps k) new_are
        ∙ set_other s.core.processes number k (process_with_reply a given p) apart in
        let other : q.name ≢ a.question.process =
        λ same. apart (place_of_name end k number q at_end.0 distinct there at_end.1 (same ∙ own_name)) in
        left k q there
        ∙ sym (λ j. entries_in (unasked j) ++ left_other a.question.process q.name logs other j)

    left_holds : Left end new.processes after
    left_holds k q there = elim (cases_Bool (k == number)) [
      | inl same ↦
          let here : k ≡ number = nat_eq-true k number same in
          let own : q ≡ at_end.0 = same-some q at_end.0 (sym there ∙ ap (slice_get end) here ∙ at_end.1) in
          subst (λ (x : Process). x.entries ≡ entries_in (slice_get new.processes k) ++ entries_left x.name after) (sym own)
          (subst (λ (i : ℕ). at_end.0.entries ≡ entries_in (slice_get new.processes i) ++ entries_left at_end.0.name after)
          (sym here) own_holds)
      | inr differs ↦
          other_holds k q (λ here. false≢true (sym differs ∙ (Decides-eqb k number).1 here)) there
    ]

    told_logs : LogStep end (told number a (with_logs logs s) (log_base logs a.question)) (told number a s (base s.db a.question))
    told_logs = record {
      logs = after;
      same = ap (λ (x : Answer LogDatabase). (told number a (with_logs logs s) x).state) answer;
      left = left_holds;
    }

  asking_logs : (end : List Process) (number : ℕ) (logs : LogDatabase) (s : State Db) (o : Option Ask)
      → next_ask number s.core ≡ o → Distinct (names end) → Grows (asking base number s o).state.core.processes end
      → Left end s.core.processes logs
      → LogStep end (asking log_base number (with_logs logs s) o) (asking base number s o)
  asking_logs end number logs s None is distinct grows left = kept_logs end number logs s left
  asking_logs end number logs s (Some a) is distinct grows left =
      let who = asker (slice_get s.core.processes number) a is in
      told_logs end distinct number a s who.0 who.1 who.2 grows logs left

  move_logs : (end : List Process) (pick : Option ℕ) (logs : LogDatabase) (s : State Db) → Distinct (names end)
      → Grows (move base pick s).state.core.processes end → Left end s.core.processes logs
      → LogStep end (move log_base pick (with_logs logs s)) (move base pick s)
  move_logs end pick logs s distinct grows left =
      let number : ℕ = choose pick s.core in
      asking_logs end number logs (chosen number s) (next_ask number (chosen number s).core) refl distinct grows left

  -- ---- runs

  grows_from : (a b c d : State Db) → a ≡ b → c ≡ d → Grows b.core.processes d.core.processes
      → Grows a.core.processes c.core.processes
  grows_from a b c d first second grows =
      subst (λ (t : State Db). Grows t.core.processes c.core.processes) (sym first)
      (subst (λ (t : State Db). Grows b.core.processes t.core.processes) (sym second) grows)

  -- with more steps
  pub grows_more : (n more : ℕ) (picks : List ℕ) (s : State Db)
      → Grows (run base n picks s).core.processes (run base (n + more) picks s).core.processes
  grows_more zero more picks s =
      grows_from (run base 0 picks s) s (run base (0 + more) picks s) (run base (0 + more) picks s)
      (run-zero base picks s) refl (run_follows (0 + more) picks s).grows
  grows_more (suc n) more picks s = elim (cases_Bool (is_over s.core)) [
    | inl over ↦
        grows_from (run base (suc n) picks s) s (run base (suc n + more) picks s) s
        (run-over base (suc n) picks s over) (run-over base (suc n + more) picks s over) (grows_itself s.core.processes)
    | inr going ↦
        let one : StepResult Db = move base (first_pick picks) s in
        let rest : List ℕ = later_picks picks in
        grows_from (run base (suc n) picks s) (run base n rest one.state)
        (run base (suc n + more) picks s) (run base (n + more) rest one.state)
        (run-suc base n picks s going)
        (ap (λ (k : ℕ). run base k picks s) (suc-add n more) ∙ run-suc base (n + more) picks s going)
        (grows_more n more rest one.state)
  ]

  -- the processes at the end are those of this run after some more steps
  pub log_run : (n : ℕ) (picks : List ℕ) (s : State Db) (logs : LogDatabase) (end : List Process)
      → Grows (run base n picks s).core.processes end → Distinct (names end) → Left end s.core.processes logs
      → (run log_base n picks (with_logs logs s)).core ≡ (run base n picks s).core
  log_run zero picks s logs end grows distinct left =
      ap (λ (t : State LogDatabase). t.core) (run-zero log_base picks (with_logs logs s))
      ∙ sym (ap (λ (t : State Db). t.core) (run-zero base picks s))
  log_run (suc n) picks s logs end grows distinct left = elim (cases_Bool (is_over s.core)) [
    | inl over ↦
        ap (λ (t : State LogDatabase). t.core) (run-over log_base (suc n) picks (with_logs logs s) over)
        ∙ sym (ap (λ (t : State Db). t.core) (run-over base (suc n) picks s over))
    | inr going ↦
        let pick : Option ℕ = first_pick picks in
        let rest : List ℕ = later_picks picks in
        let one : StepResult Db = move base pick s in
        let equation : (run base (suc n) picks s).core ≡ (run base n rest one.state).core =
        ap (λ (t : State Db). t.core) (run-suc base n picks s going) in
        let later : Grows (run base n rest one.state).core.processes end =
        subst (λ (c : Core). Grows c.processes end) equation grows in
        let from_one : Grows one.state.core.processes end =
        grows_trans one.state.core.processes (run base n rest one.state).core.processes end
        (run_follows n rest one.state).grows later in
        let step : LogStep end (move log_base pick (with_logs logs s)) one =
        move_logs end pick logs s distinct from_one left in
        ap (λ (t : State LogDatabase). t.core) (run-suc log_base n picks (with_logs logs s) going)
        ∙ ap (λ (t : State LogDatabase). (run log_base n rest t).core) step.same
        ∙ log_run n rest one.state step.logs end later distinct step.left
        ∙ sym equation
  ]
