-- A run that needs a row needs the row's table, if its world has it: no statement takes a table away, and
-- each asks the tables of the rows that it needs.
use Rattle.std.proofs.Common.{◌≡◌, ℕ, zero, suc, ◌+◌, List, [], ◌∷◌, ◌++◌, sym, ap, ◌∙◌, subst, Bool, true, false, inl, inr}
use Rattle.std.specs.Prelude.{Option, Some, None, map, ◌==◌, is_some, slice_get}
use Rattle.std.specs.List.{list_any, AllByRecursion}
use Rattle.std.specs.Option.{option_or}
use Rattle.std.proofs.lemmas.Bool.{cases_Bool}
use Rattle.ldv_value.proofs.Booleans.{and-parts, or-left, or-right}
use Rattle.ldv_value.proofs.Lists.{all-weaker, list_any-map}
use Rattle.script_parse.specs.declared.script.Instr.{Instr}
use Rattle.sql_model.specs.declared.statement.Statement.{Statement}
use Rattle.sql_model.specs.Needs.{NeededRow, Versions, read_of, need_of, asked_tables, table_name}
use Rattle.sql_model.specs.Scope.{same_text, is_table, has_row}
use Rattle.sql_model.specs.Statements.{reply_of, after}
use Rattle.sql_model.specs.Texts.{statement_of}
use Rattle.sql_laws.proofs.AskedTables.{asked_needs_law}
use Rattle.run_laws.proofs.QuietActs.{Unasked, ends_unasked, quiet_unasked}
use Rattle.run_laws.proofs.StatementNames.{names_after}
use Rattle.run_laws.proofs.ListMembers.{any_in, in_any}
use Rattle.run_model.proofs.Equations.{events-zero, events-over, events-suc}
use Rattle.run_model.specs.Between.{is_initial, is_row_needed}
use Rattle.run_model.specs.Core.{is_over}
use Rattle.run_model.specs.Events.{event_at, events, start_events}
use Rattle.run_model.specs.Run.{first_pick, later_picks, chosen, move}
use Rattle.run_model.specs.Schedule.{choose}
use Rattle.run_model.specs.Slice.{is_read, reason_in, act_reason, first_reason, asks_table, is_table_needed}
use Rattle.run_model.specs.SqlDatabase.{SqlDatabase, lists_of, sql_base}
use Rattle.run_model.specs.Start.{start_script, start_state}
use Rattle.run_model.specs.State.{State, StepResult}
use Rattle.run_model.specs.Step.{Ask, asked_act, local_step, took, next_ask, ends_at, asking}
use Rattle.run_model.specs.WorldRun.{events_in, events_within}
use Rattle.package_join.specs.Types.{Act, Asked, Event, Table, World}
use Rattle.package_join.proofs.PickedBy.{set_of_names}

or_later : {A : Type 0} (a b : Option A) → is_some a ≡ false → is_some (option_or a b) ≡ true → is_some b ≡ true
or_later None b none some = some
or_later (Some x) b none some = let never : true ≡ false = none in cc

module _ (name : List ℕ) (number : ℕ) where
  -- ---- the table is there

  abbrev is_there : List Table → Bool
  is_there ts = list_any (is_table name) ts

  abbrev is_name : List ℕ → Bool
  is_name other = same_text other name

  there_after : (statement : Option Statement) (ts : List Table) → is_there (after statement ts) ≡ is_there ts
  there_after statement ts =
      sym (list_any-map is_name table_name (after statement ts))
      ∙ ap (list_any is_name) (names_after statement ts)
      ∙ list_any-map is_name table_name ts

  there_initial : (ts : List Table) → is_initial ts name number ≡ true → is_there ts ≡ true
  there_initial ts initial =
      let t = any_in (has_row name number) ts initial in
      in_any (is_table name) ts t.0 t.1.0 (and-parts (is_table name t.0) (list_any (λ row. row.number == number) t.0.rows) t.1.1).0

  -- ---- acts that name the table where they need the row

  abbrev Names : Act → Type 0
  Names act = is_some (act_reason name number act) ≡ true → asks_table name act ≡ true

  unasked_names : (act : Act) → Unasked act → Names act
  unasked_names (Asked statement tables reads made) unasked = absurd unasked
  unasked_names other unasked = λ never. never

  all_unasked : (acts : List Act) → AllByRecursion Unasked acts → AllByRecursion Names acts
  all_unasked acts all = all-weaker Unasked Names unasked_names acts all

  abbrev of_name : NeededRow → Bool
  of_name need = same_text need.table name

  of_table : (asked : ℕ) (versions : Versions) (needs : List NeededRow)
      → is_some (reason_in asked name number (map (read_of versions) needs)) ≡ true → list_any of_name needs ≡ true
  of_table asked versions [] some = cc
  of_table asked versions (n ∷ ns) some = elim (cases_Bool (is_read name number (read_of versions n))) [
    | inl hit ↦ or-left (of_name n) (list_any of_name ns) (and-parts (of_name n) (n.row == number) hit).0
    | inr miss ↦
        let later : is_some (reason_in asked name number (map (read_of versions) ns)) ≡ true = rw miss at some in
        or-right (of_name n) (list_any of_name ns) (of_table asked versions ns later)
  ]

  asked_names : (asked : ℕ) (statement : Option Statement) (db : SqlDatabase) → is_there db.tables ≡ true
      → Names (asked_act asked (lists_of statement db))
  asked_names asked statement db there some =
      set_of_names name (asked_tables statement db.tables)
      ∙ asked_needs_law statement db.tables name there (of_table asked db.versions (need_of statement db.tables) some)

  -- ---- steps

  asking_names : (step : ℕ) (s : State SqlDatabase) (o : Option Ask) → is_there s.db.tables ≡ true
      → AllByRecursion Names (asking sql_base step s o).acts
  asking_names step s None there =
      all_unasked ((local_step step s.core).acts ++ ends_at step (local_step step s.core).core) (quiet_unasked step s.core)
  asking_names step s (Some a) there =
      let statement : Option Statement = statement_of a.question.text a.question.params in
      let ends : List Act = ends_at step (took step a (reply_of statement s.db.tables) s.core) in (
        asked_names s.core.asked statement s.db there,
        all_unasked ends (ends_unasked step (took step a (reply_of statement s.db.tables) s.core)),
      )

  move_names : (pick : Option ℕ) (s : State SqlDatabase) → is_there s.db.tables ≡ true → AllByRecursion Names (move sql_base pick s).acts
  move_names pick s there =
      let step : ℕ = choose pick s.core in
      asking_names step (chosen step s) (next_ask step (chosen step s).core) there

  asking_there : (step : ℕ) (s : State SqlDatabase) (o : Option Ask) → is_there s.db.tables ≡ true
      → is_there (asking sql_base step s o).state.db.tables ≡ true
  asking_there step s None there = there
  asking_there step s (Some a) there = there_after (statement_of a.question.text a.question.params) s.db.tables ∙ there

  move_there : (pick : Option ℕ) (s : State SqlDatabase) → is_there s.db.tables ≡ true → is_there (move sql_base pick s).state.db.tables ≡ true
  move_there pick s there =
      let step : ℕ = choose pick s.core in
      asking_there step (chosen step s) (next_ask step (chosen step s).core) there

  -- ---- events

  abbrev NamesAll : List Event → Type 0
  NamesAll es = is_row_needed es name number ≡ true → is_table_needed es name ≡ true

  acts_name : (step process : ℕ) (acts : List Act) (later : List Event) → AllByRecursion Names acts → NamesAll later
      → NamesAll (map (event_at step process) acts ++ later)
  acts_name step process [] later names rest needed = rest needed
  acts_name step process (act ∷ acts) later names rest needed =
      let more : List Event = map (event_at step process) acts ++ later in
      elim (cases_Bool (is_some (act_reason name number act))) [
        | inl here ↦ or-left (asks_table name act) (is_table_needed more name) (names.0 here)
        | inr miss ↦
            let others : is_row_needed more name number ≡ true =
            or_later (act_reason name number act) (first_reason name number more) miss needed in
            or-right (asks_table name act) (is_table_needed more name) (acts_name step process acts later names.1 rest others)
      ]

  no_events : NamesAll []
  no_events never = never

  run_names : (n step : ℕ) (picks : List ℕ) (s : State SqlDatabase) → is_there s.db.tables ≡ true
      → NamesAll (events sql_base n step picks s)
  run_names zero step picks s there = subst NamesAll (sym (events-zero sql_base step picks s)) no_events
  run_names (suc n) step picks s there = elim (cases_Bool (is_over s.core)) [
    | inl over ↦ subst NamesAll (sym (events-over sql_base (suc n) step picks s over)) no_events
    | inr going ↦
        let m : StepResult SqlDatabase = move sql_base (first_pick picks) s in
        let later : List Event = events sql_base n (step + 1) (later_picks picks) m.state in
        let rest : NamesAll later = run_names n (step + 1) (later_picks picks) m.state (move_there (first_pick picks) s there) in
        subst NamesAll (sym (events-suc sql_base n step picks s going))
        (acts_name step m.process m.acts later (move_names (first_pick picks) s there) rest)
  ]

  start_names : (word : Option (List ℕ)) (es : List Event) → NamesAll es → NamesAll (start_events word ++ es)
  start_names None es rest = rest
  start_names (Some path) es rest = rest

  names_in : (n : ℕ) (picks : List ℕ) (w : World) (o : Option (List Instr)) → is_there w.tables ≡ true → NamesAll (events_in n picks w o)
  names_in n picks w None there = no_events
  names_in n picks w (Some script) there =
      start_names (slice_get w.start 0) (events sql_base n 1 picks (start_state w script)) (run_names n 1 picks (start_state w script) there)

-- in all events, of each row that the world has
abbrev pub NamesItsRows : List Table → List Event → Type 0
NamesItsRows tables events = (name : List ℕ) (number : ℕ) → is_initial tables name number ≡ true
    → is_row_needed events name number ≡ true → is_table_needed events name ≡ true

pub named_rows : (n : ℕ) (w : World) → NamesItsRows w.tables (events_within n w)
named_rows n w name number initial = names_in name number n [] w (start_script w) (there_initial name number w.tables initial)
