-- The law of orders, from its parts: the recorded replies run as the world did, and that run is private, so
-- every order comes to its end.
use Rattle.std.proofs.Common.{◌≡◌, ◌≢◌, ℕ, zero, suc, ◌+◌, ◌<◌, ◌≤◌, List, [], ◌∷◌, ◌++◌, length, refl, sym, ap, ◌∙◌, subst, Bool, true, false, arith, le_refl, inl, inr}
use Rattle.std.specs.Prelude.{Option, Some, None, is_some, slice_get, nat_lt, bytes_eq, if◌then◌else◌, ◌||◌, ◌&&◌, option_map}
use Rattle.std.specs.List.{list_all, AllByRecursion}
use Rattle.std.proofs.lemmas.Bool.{cases_Bool, and_parts, or_parts, lt-ltb, ltb-true, ltb-false}
use Rattle.ldv_value.specs.Limits.{max_processes}
use Rattle.ldv_value.proofs.Booleans.{false≢true}
use Rattle.ldv_value.proofs.Lists.{all-tested}
use Rattle.ldv_value.proofs.Options.{same-some, is_some-false}
use Rattle.ldv_value.proofs.SameBytes.{bytes_eq-true}
use Rattle.sql_model.specs.Tables.{tables_test}
use Rattle.free_order.specs.Types.{Event, Instr, Outcome, Package, World, Excluded}
use Rattle.run_model.specs.Core.{Process, Core, Divergence, has_ended, have_all_ended, is_over, first_process}
use Rattle.run_model.proofs.StepKeeps.{AllFiles}
use Rattle.run_model.specs.Events.{events, start_events}
use Rattle.run_model.specs.LogDatabase.{LogDatabase, log_base}
use Rattle.run_model.specs.LogRun.{log_start, log_core, log_outcome_in, log_outcome, log_divergence_in, log_divergence}
use Rattle.run_model.specs.Outcome.{outcome_of, outcome_at}
use Rattle.run_model.specs.Package.{package_of, own_world}
use Rattle.run_model.specs.Run.{run, steps}
use Rattle.run_model.specs.RunLaw.{MayRun}
use Rattle.run_model.specs.SqlDatabase.{sql_base}
use Rattle.run_model.specs.Start.{start_script, start_state}
use Rattle.run_model.specs.State.{State}
use Rattle.run_model.specs.WorldRun.{core_after, ends_in, ends_within, steps_in, steps_by, events_in, events_by, events_within, outcome_within}
use Rattle.run_model.proofs.StepActs.{few_steps}
use Rattle.run_laws.proofs.LogLaws.{slice, packed, same, script_is, core_is, steps_are, log_law}
use Rattle.run_laws.proofs.ProcessNames.{names, Grows, grows_itself, Named, last_parts}
use Rattle.free_order.specs.Private.{spawned_in, writes_own, private_test}
use Rattle.free_order.specs.Orders.{with_seed, from_step, OrderLaw}
use Rattle.free_order.proofs.Boards.{Solo, Board, May, Owner, IsOpenTo, Goes, Runs}
use Rattle.free_order.proofs.ByName.{at_number, solo_of, solos, board_of, named_found}
use Rattle.free_order.proofs.SoundBoards.{Sound}
use Rattle.free_order.proofs.Descent.{IsEnd, Leads, leads, at_end}
use Rattle.free_order.proofs.RunsByName.{Real, Stride, stride, Went, went, EventsFit, ran, births_append, made_counts, all_steps}
use Rattle.free_order.proofs.EndsByName.{same_outcome, solo_found}
use Rattle.free_order.proofs.NotLess.{not_less}
use Rattle.free_order.proofs.Owners.{owner_in, events_fit}
use Rattle.free_order.proofs.SameCores.{Traces, fit_split, SameCores, SameTrace, same_trace}

-- ---- the start

module _ (p : Package) (script : List Instr) where
  abbrev begun : State LogDatabase
  begun = log_start p script

  real_start : Real begun.core
  real_start = record { named = record { distinct = (tt, tt); made = (inl refl, tt) }; below = (tt, tt); ordered = (tt, tt) }

  -- the first process, by name
  abbrev only : Solo
  only = solo_of ((0 ∷ []) ∷ []) (first_process p.start script)

  first_named : (name : List ℕ) (x : Solo) → (board_of begun).solo name ≡ Some x → (name ≡ 0 ∷ []) × (x.own.name ≡ 0 ∷ []) × (x.own.files ≡ [])
  first_named name x is = elim (cases_Bool (bytes_eq name (0 ∷ []))) [
    | inl hit ↦
        let found : Some only ≡ Some x = rw hit at is in
        let same : only ≡ x = same-some only x found in
        (bytes_eq-true name (0 ∷ []) hit, ap (λ (y : Solo). y.own.name) (sym same), ap (λ (y : Solo). y.own.files) (sym same))
    | inr miss ↦ let never : None ≡ Some x = rw miss at is in absurd cc
  ]

  sound_start : (owner : Owner) → Sound owner (board_of begun)
  sound_start owner = record {
    named = λ name x is. let first = first_named name x is in first.1 ∙ sym first.0;
    some = λ x is. let first = first_named [] x is in let never : [] ≡ 0 ∷ [] = first.0 in absurd cc;
    made = λ name k x some is.
        let first = first_named (name ++ k ∷ []) x is in
        absurd (some (last_parts name [] k 0 first.0).0);
    opened = λ name x is. let first = first_named name x is in subst (AllFiles (IsOpenTo owner name)) (sym first.2) tt;
  }

-- ---- an ended run

ended_solos : (s : State LogDatabase) → have_all_ended s.core ≡ true → (name : List ℕ) (x : Solo) → (board_of s).solo name ≡ Some x → x.own.status ≢ None
ended_solos s ended name x is none =
    let ps : List Process = s.core.processes in
    let found = solo_found ps name x is in
    let over : has_ended found.0 ≡ true =
    named_found (λ (p : Process). has_ended p ≡ true) ps name found.0 (all_over ps ended) found.1 in
    let gone : found.0.status ≡ None = ap (λ (y : Solo). y.own.status) found.2 ∙ none in
    absurd (false≢true (sym (ap is_some gone) ∙ over))
  where
    all_over : (ps : List Process) → list_all has_ended ps ≡ true → AllByRecursion (λ (p : Process). has_ended p ≡ true) ps
    all_over [] all = tt
    all_over (p ∷ ps) all = let parts = and_parts (has_ended p) (list_all has_ended ps) all in (parts.0, all_over ps parts.1)

-- ---- any order

module _ (owner : Owner) (steps_made : ℕ) (begin end : State LogDatabase) (real : Real begin.core) (sound : Sound owner (board_of begin))
    (runs : Runs owner steps_made (board_of begin) (board_of end)) (ended : IsEnd (board_of end)) (distinct : Named end.core.processes)
    (budget : ℕ) (picks : List ℕ) where
  abbrev final : State LogDatabase
  final = run log_base budget picks begin

  abbrev count : ℕ
  count = steps log_base budget picks begin

  there : Went budget picks begin
  there = went budget picks begin real

  leading : Leads owner steps_made count (board_of final) (board_of end)
  leading = leads owner count steps_made (board_of begin) (board_of end) (board_of final) sound runs ended there.goes

  record Ended : Type 0 where
    diverged : final.core.diverged ≡ None
    outcome : outcome_at final.core ≡ from_step steps_made budget (Some (outcome_of end.core))

  over_ends : is_over final.core ≡ true → Ended
  over_ends over =
      let rest = at_end owner leading.rest (board_of final) (board_of end) leading.runs stays in
      let count_is : steps_made ≡ count + leading.rest = leading.count in
      let none : leading.rest ≡ 0 = rest.0 in
      let most : count ≤ budget = few_steps log_base budget picks begin in
      let goes : is_some final.core.diverged ≡ false = ap (λ (b : Board). b.stopped) rest.1 ∙ ended.runs in
      let all : have_all_ended final.core ≡ true = ap (λ (d : Bool). d || have_all_ended final.core) (sym goes) ∙ over in
      let late : nat_lt budget steps_made ≡ false = not_less budget steps_made (omega (arith, count_is, none, most)) in
      record {
        diverged = is_some-false final.core.diverged goes;
        outcome =
            ap (λ (b : Bool). if b then Some (outcome_of final.core) else None) all
            ∙ ap Some (same_outcome final end there.real.named.distinct distinct.distinct rest.1)
            ∙ sym (ap (λ (b : Bool). if b then None else Some (outcome_of end.core)) late);
      }
    where
      stays : (who : List ℕ) (x : Solo) → May who (board_of final) x → ⊥
      stays who x may =
          let all : have_all_ended final.core ≡ true = ap (λ (d : Bool). d || have_all_ended final.core) (sym may.runs) ∙ over in
          ended_solos final all who x may.there may.going

  going_on : is_over final.core ≡ false → Ended
  going_on going =
      let parts = or_parts (is_some final.core.diverged) (have_all_ended final.core) going in
      let made : count ≡ budget = all_steps budget picks begin going in
      let early : nat_lt budget steps_made ≡ true = before leading.rest refl made in
      record {
        diverged = is_some-false final.core.diverged parts.0;
        outcome =
            ap (λ (b : Bool). if b then Some (outcome_of final.core) else None) parts.1
            ∙ sym (ap (λ (b : Bool). if b then None else Some (outcome_of end.core)) early);
      }
    where
      not_end : board_of final ≡ board_of end → ⊥
      not_end same =
          let next : Stride final _ = stride None final there.real going in
          ended.over next.process.name (solo_of (names final.core.processes) next.process)
          (ap (λ (b : Board). b.solo next.process.name) (sym same) ∙ next.may.there) next.may.going

      before : (rest : ℕ) → leading.rest ≡ rest → count ≡ budget → nat_lt budget steps_made ≡ true
      before zero is made =
          absurd (not_end (subst (λ (m : ℕ). Runs owner m (board_of final) (board_of end)) is leading.runs))
      before (suc rest) is made =
          let count_is : steps_made ≡ count + leading.rest = leading.count in
          lt-ltb budget steps_made (omega (arith, count_is, is, made))

  comes : Ended
  comes = elim (cases_Bool (is_over final.core)) [
    | inl over ↦ over_ends over
    | inr going ↦ going_on going
  ]

-- ---- the recorded run

module _ (n : ℕ) (w : World) (script : List Instr) (is : start_script w ≡ Some script) (valid : tables_test w.tables ≡ true)
    (ended : ends_within n w ≡ true) (private : private_test (events_within n w) ≡ true) where
  abbrev recorded : Package
  recorded = package_of Excluded n w

  abbrev cut : World
  cut = slice n [] w script is valid

  abbrev first : State LogDatabase
  first = log_start recorded script

  abbrev last : State LogDatabase
  last = run log_base n [] first

  abbrev log_events : List Event
  log_events = events log_base n 1 [] first

  cores : SameCores log_base sql_base n [] first (start_state cut script)
  cores m less = core_is n [] w script is valid m less

  trace : SameTrace log_base sql_base n 1 [] first (start_state cut script)
  trace = same_trace log_base sql_base n 1 [] first (start_state cut script) cores

  cut_script : start_script cut ≡ Some script
  cut_script = (same n [] w script is valid).script_same

  steps_same : steps log_base n [] first ≡ steps_by n [] w
  steps_same = trace.count ∙ sym (ap (steps_in n [] cut) cut_script) ∙ steps_are n [] w script is valid

  all_events : start_events (slice_get w.start 0) ++ events sql_base n 1 [] (start_state cut script) ≡ events_within n w
  all_events = sym (ap (events_in n [] cut) cut_script) ∙ (same n [] w script is valid).events

  abbrev name : ℕ → List ℕ
  name = at_number (names last.core.processes)

  abbrev owner : Owner
  owner = owner_in name (events_within n w)

  private_parts : (nat_lt (1 + spawned_in (events_within n w)) max_processes ≡ true) × (list_all (writes_own (events_within n w)) (events_within n w) ≡ true)
  private_parts = and_parts (nat_lt (1 + spawned_in (events_within n w)) max_processes) (list_all (writes_own (events_within n w)) (events_within n w)) private

  fit : EventsFit owner name log_events
  fit =
      trace.traces.fit owner name
      (fit_split owner name (start_events (slice_get w.start 0)) (events sql_base n 1 [] (start_state cut script))
      (subst (EventsFit owner name) (sym all_events) (events_fit name (events_within n w) private_parts.1))).1

  runs : Runs owner (steps_by n [] w) (board_of first) (board_of last)
  runs =
      subst (λ (m : ℕ). Runs owner m (board_of first) (board_of last)) steps_same
      (ran owner last.core.processes n 1 [] first (real_start recorded script) (grows_itself last.core.processes) fit)

  went_there : Went n [] first
  went_there = went n [] first (real_start recorded script)

  -- ---- it has ended

  divergence : last.core.diverged ≡ None
  divergence = sym (ap (log_divergence_in n [] recorded) (script_is n [] w script is valid)) ∙ (log_law n n w script is valid ended (le_refl n)).0

  outcome : outcome_at last.core ≡ outcome_within n w
  outcome = sym (ap (log_outcome_in n [] recorded) (script_is n [] w script is valid)) ∙ (log_law n n w script is valid ended (le_refl n)).1

  all_over : have_all_ended last.core ≡ true
  all_over =
      ap have_all_ended (core_is n [] w script is valid n (le_refl n))
      ∙ sym (ap (ends_in n [] cut) cut_script)
      ∙ (same n [] w script is valid).ends
      ∙ ended

  start_unborn : (o : Option (List ℕ)) → spawned_in (start_events o) ≡ 0
  start_unborn None = refl
  start_unborn (Some path) = refl

  few : length last.core.processes < max_processes
  few =
      let made : length last.core.processes ≡ 1 + spawned_in log_events = made_counts n 1 [] first (real_start recorded script) in
      let births : spawned_in log_events ≡ spawned_in (events sql_base n 1 [] (start_state cut script)) = trace.traces.births in
      let all : spawned_in (start_events (slice_get w.start 0) ++ events sql_base n 1 [] (start_state cut script)) ≡ spawned_in (events_within n w) = ap spawned_in all_events in
      let join : spawned_in (start_events (slice_get w.start 0) ++ events sql_base n 1 [] (start_state cut script))
      ≡ spawned_in (start_events (slice_get w.start 0)) + spawned_in (events sql_base n 1 [] (start_state cut script)) =
      births_append (start_events (slice_get w.start 0)) (events sql_base n 1 [] (start_state cut script)) in
      let none : spawned_in (start_events (slice_get w.start 0)) ≡ 0 = start_unborn (slice_get w.start 0) in
      let less : 1 + spawned_in (events_within n w) < max_processes = ltb-true (1 + spawned_in (events_within n w)) max_processes private_parts.0 in
      omega (arith, made, births, all, join, none, less)

  at_last : IsEnd (board_of last)
  at_last = record {
    over = ended_solos last all_over;
    runs = ap is_some divergence;
    few = few;
  }

  -- ---- every order

  outcome_is : Some (outcome_of last.core) ≡ outcome_within n w
  outcome_is = sym (ap (λ (b : Bool). if b then Some (outcome_of last.core) else None) all_over) ∙ outcome

  any_order : (budget seed : ℕ) (picks : List ℕ)
      → (log_divergence budget picks (with_seed seed recorded) ≡ None)
      × (log_outcome budget picks (with_seed seed recorded) ≡ from_step (steps_by n [] w) budget (outcome_within n w))
  any_order budget seed picks =
      let other : Package = with_seed seed recorded in
      let result = comes owner (steps_by n [] w) (log_start other script) last (real_start other script) (sound_start other script owner) runs at_last went_there.real.named budget picks in (
        ap (log_divergence_in budget picks other) (script_is n [] w script is valid) ∙ result.diverged,
        ap (log_outcome_in budget picks other) (script_is n [] w script is valid) ∙ result.outcome ∙ ap (from_step (steps_by n [] w) budget) outcome_is,
      )

pub order_law : OrderLaw
order_law n budget seed picks w script is valid ended private = any_order n w script is valid ended private budget seed picks
