-- The events of the run of a valid world are a valid trace.
use Rattle.std.proofs.Common.{◌≡◌, ℕ, zero, suc, ◌<◌, ◌≤◌, List, [], ◌∷◌, ◌++◌, refl, sym, ap, ◌∙◌, subst, true, false, arith}
use Rattle.std.specs.Prelude.{Option, Some, None, map, slice_get, bytes_eq, IsTrue}
use Rattle.std.specs.List.{list_all, AllByRecursion}
use Rattle.std.specs.Str.{IsUtf8}
use Rattle.ldv_value.proofs.SameBytes.{bytes_eq-itself}
use Rattle.ldv_value.proofs.Lists.{tested-all}
use Rattle.ldv_value.proofs.Booleans.{and-from}
use Rattle.sql_model.specs.Needs.{table_name}
use Rattle.sql_model.specs.Tables.{tables_test}
use Rattle.replay_db.specs.Types.{Instr, Act, Started, Asked, Event, World}
use Rattle.run_model.specs.Core.{have_all_ended}
use Rattle.run_model.specs.Events.{event_at, events, start_events}
use Rattle.run_model.specs.Run.{run, steps}
use Rattle.run_model.specs.Slice.{tables_needed}
use Rattle.run_model.specs.SqlDatabase.{SqlDatabase, sql_base}
use Rattle.run_model.specs.Start.{start_script, start_state}
use Rattle.run_model.specs.State.{State}
use Rattle.run_model.specs.WorldRun.{ends_in, ends_by, steps_in, steps_by, events_in, events_by}
use Rattle.run_model.specs.ValidTrace.{named_rule, are_named, ValidTrace}
use Rattle.run_model.proofs.Equations.{run-zero, steps-suc}
use Rattle.package_codec.specs.Events.{TypedEvent, event_room}
use Rattle.package_codec.specs.inner.Trace.{follows, at_start, starts, trace_test, asked_count}
use Rattle.package_codec.specs.Typed.{IsU32}
use Rattle.package_layout.specs.Valid.{start_rule, trace_rule, reasons_rule}
use Rattle.replay_db.specs.Worlds.{all_of_world, TypedWorld, world_rules}
use Rattle.replay_db.proofs.StatementEvents.{RuledNames, tables_names, GoodDatabase, asked_named, asked_room, asked_typed}
use Rattle.replay_db.proofs.TraceLists.{all_append}
use Rattle.replay_db.proofs.TraceReasons.{reasons_asked}
use Rattle.run_model.proofs.NeverStuck.{Ordered}
use Rattle.replay_db.proofs.TraceRun.{plain_room, plain_typed, run_follows, run_good}
use Rattle.run_laws.proofs.TraceState.{GoodList, PlainAct}
use Rattle.run_model.proofs.ValidWorlds.{ruled_by}
use Rattle.run_model.proofs.StepActs.{few_steps}
use Rattle.replay_db.proofs.WorldRules.{few_names, texts_of_names}

-- ---- the number of steps

module _ (n : ℕ) (picks : List ℕ) (w : World) (script : List Instr) (is : start_script w ≡ Some script) where
  abbrev start : State SqlDatabase
  start = start_state w script

  steps_are : steps_by n picks w ≡ steps sql_base n picks start
  steps_are = ap (steps_in n picks w) is

  some_steps : (m : ℕ) → have_all_ended (run sql_base m picks start).core ≡ true → 1 ≤ steps sql_base m picks start
  some_steps zero end = let never : false ≡ true = sym (ap (λ (s : State SqlDatabase). have_all_ended s.core) (run-zero sql_base picks start)) ∙ end in cc
  some_steps (suc m) end = omega (arith, steps-suc sql_base m picks start refl)

  -- the first process has a step to make
  pub steps_at_least_one : ends_by n picks w ≡ true → 1 ≤ steps_by n picks w
  steps_at_least_one end = omega (arith, steps_are, some_steps n (sym (ap (ends_in n picks w) is) ∙ end))

-- ---- the trace

abbrev IsNamed : Event → Type 0
IsNamed e = IsTrue (named_rule e.act)

plain_named : (made : ℕ) (act : Act) → PlainAct made act → named_rule act ≡ true
plain_named made (Asked statement tables reads written) plain = absurd plain
plain_named made other plain = refl

-- of a world with valid tables that has a script
module _ (n : ℕ) (picks : List ℕ) (w : World) (script : List Instr) (is : start_script w ≡ Some script)
    (valid : tables_test w.tables ≡ true) where
  abbrev begun : State SqlDatabase
  begun = start_state w script

  start_list : GoodList begun.core.processes
  start_list = record { each = (record { children = tt; files = tt; status = tt }, tt); few = omega arith }

  start_ordered : Ordered begun.core
  start_ordered = (tt, tt)

  abbrev names : List (List ℕ)
  names = map table_name w.tables

  start_good : GoodDatabase names 0 begun.db
  start_good = record { same_names = refl; valid = valid; versions = λ table row. omega arith }

  ruled : RuledNames names
  ruled = tables_names w.tables valid

  abbrev later_events : List Event
  later_events = events sql_base n 1 picks begun

  events_are : events_by n picks w ≡ start_events (slice_get w.start 0) ++ later_events
  events_are = ap (events_in n picks w) is

  follows_start : follows (steps sql_base n picks begun) at_start later_events ≡ true
  follows_start = run_follows names ruled (steps sql_base n picks begun) n 1 picks begun start_list start_ordered start_good (omega arith) 1 (omega arith)

  -- the first event starts the first process on the first start word
  starts_run : (word : List ℕ) → slice_get w.start 0 ≡ Some word
      → trace_test word (steps_by n picks w) (events_by n picks w) ≡ true
  starts_run word first =
      let all : events_by n picks w ≡ start_events (Some word) ++ later_events =
      events_are ∙ ap (λ (o : Option (List ℕ)). start_events o ++ later_events) first in
      let self : bytes_eq word word ≡ true = bytes_eq-itself word in
      (λ j. trace_test word (steps_are n picks w script is j) (all j))
      ∙ and-from (starts word (event_at 0 0 (Started word))) (follows (steps sql_base n picks begun) at_start later_events) self follows_start

  -- each table of an event has a name
  start_named : (word : Option (List ℕ)) → AllByRecursion IsNamed (start_events word)
  start_named None = tt
  start_named (Some word) = (refl, tt)

  run_named : AllByRecursion IsNamed later_events
  run_named =
      run_good names IsNamed (steps sql_base n picks begun)
      (λ number process asked statement db within below few good. asked_named names asked db good statement ruled)
      (λ number process made act within below few plain. plain_named made act plain)
      n 1 picks begun start_list start_ordered start_good (omega arith) (omega arith)

  named_is : are_named (events_by n picks w) ≡ true
  named_is =
      ap are_named events_are
      ∙ tested-all (λ e. named_rule e.act) (start_events (slice_get w.start 0) ++ later_events)
      (all_append IsNamed (start_events (slice_get w.start 0)) later_events (start_named (slice_get w.start 0)) run_named)

  -- so they are a valid trace
  pub traced : (word : List ℕ) → slice_get w.start 0 ≡ Some word → ValidTrace word (steps_by n picks w) (events_by n picks w)
  traced word first =
      and-from (trace_test word (steps_by n picks w) (events_by n picks w)) (are_named (events_by n picks w)) (starts_run word first) named_is

  -- and that meets the rules of documents
  module _ (met : IsTrue (world_rules w)) where
    starts_on_words : (words : List (List ℕ)) → w.start ≡ words → start_rule words ≡ true
        → trace_rule words (steps_by n picks w) (events_by n picks w) ≡ true
    starts_on_words [] same rule = cc
    starts_on_words (word ∷ words) same rule = starts_run word (ap (λ (l : List (List ℕ)). slice_get l 0) same)

    pub trace_is : trace_rule w.start (steps_by n picks w) (events_by n picks w) ≡ true
    trace_is = starts_on_words w.start refl (ruled_by (all_of_world w) met).start

    -- a reason's statement is one that was asked
    pub reasons_valid : reasons_rule (asked_count (events_by n picks w)) (tables_needed (events_by n picks w) w.tables) ≡ true
    reasons_valid = reasons_asked w.start (steps_by n picks w) (events_by n picks w) trace_is w.tables

    -- ---- each event

    start_room : (word : Option (List ℕ)) → AllByRecursion (λ e. IsTrue (event_room e)) (start_events word)
    start_room None = tt
    start_room (Some word) = (refl, tt)

    run_room : AllByRecursion (λ e. IsTrue (event_room e)) later_events
    run_room =
        run_good names (λ e. IsTrue (event_room e)) (steps sql_base n picks begun)
        (λ number process asked statement db within below few good. asked_room names asked db good statement ruled (few_names w met))
        (λ number process made act within below few plain. plain_room made act plain)
        n 1 picks begun start_list start_ordered start_good (omega arith) (omega arith)

    -- the format has room for each event
    pub room_is : list_all event_room (events_by n picks w) ≡ true
    room_is =
        ap (list_all event_room) events_are
        ∙ tested-all event_room (start_events (slice_get w.start 0) ++ later_events)
        (all_append (λ e. IsTrue (event_room e)) (start_events (slice_get w.start 0)) later_events (start_room (slice_get w.start 0)) run_room)

    start_typed : (words : List (List ℕ)) → AllByRecursion IsUtf8 words → AllByRecursion TypedEvent (start_events (slice_get words 0))
    start_typed [] typed = tt
    start_typed (word ∷ words) typed = ((omega arith, (omega arith, typed.0)), tt)

    run_typed : TypedWorld w → n ≤ 10000000 → AllByRecursion TypedEvent later_events
    run_typed typed small =
        let most : steps sql_base n picks begun ≤ n = few_steps sql_base n picks begun in
        let u32 : (number : ℕ) → number ≤ steps sql_base n picks begun → IsU32 number = λ number within. omega arith in
        let small_number : (process : ℕ) → process < 65535 → IsU32 process = λ process below. omega (arith, below) in
        run_good names TypedEvent (steps sql_base n picks begun)
        (λ number process asked statement db within below few good. (u32 number within, (small_number process below, asked_typed names asked db good statement (texts_of_names w typed) (omega arith))))
        (λ number process made act within below few plain. (u32 number within, (small_number process below, plain_typed made act few plain)))
        n 1 picks begun start_list start_ordered start_good (omega arith) (omega arith)

    -- numbers are those of their types, and texts are UTF-8
    pub typed_is : TypedWorld w → n ≤ 10000000 → AllByRecursion TypedEvent (events_by n picks w)
    typed_is typed small =
        subst (AllByRecursion TypedEvent) (sym events_are)
        (all_append TypedEvent (start_events (slice_get w.start 0)) later_events (start_typed w.start typed.0) (run_typed typed small))
