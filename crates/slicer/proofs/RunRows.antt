-- The events of a run about one row, by the database that the run begins with.
use Rattle.std.proofs.Common.{◌≡◌, ℕ, zero, suc, ◌+◌, List, [], ◌∷◌, ◌++◌, length, refl, sym, ap, ◌∙◌, subst, Bool, true, false, inl, inr}
use Rattle.std.specs.Prelude.{Option, Some, None, is_some, map, ◌||◌}
use Rattle.std.specs.List.{list_all, list_any}
use Rattle.std.specs.Option.{option_or}
use Rattle.std.proofs.lemmas.Bool.{cases_Bool}
use Rattle.ldv_value.proofs.Booleans.{or-left, or-right, or-false}
use Rattle.sql_model.specs.Needs.{need_of}
use Rattle.sql_model.specs.Tables.{is_database, tables_test}
use Rattle.sql_laws.proofs.DatabaseLaws.{tables_law}
use Rattle.run_laws.specs.Types.{Statement, Act, Asked, Event}
use Rattle.run_model.specs.Core.{is_over}
use Rattle.run_model.specs.Events.{event_at, events}
use Rattle.run_model.specs.Run.{first_pick, later_picks, move}
use Rattle.run_model.specs.Schedule.{choose}
use Rattle.run_model.specs.Slice.{Reason, act_reason, first_reason, asks_table, is_table_needed}
use Rattle.run_model.specs.SqlDatabase.{SqlDatabase, db_after, lists_of, sql_base}
use Rattle.run_model.specs.State.{State, StepResult}
use Rattle.run_model.specs.Step.{asked_act}
use Rattle.run_model.specs.ValidTrace.{made_after}
use Rattle.run_model.proofs.Equations.{events-zero, events-over, events-suc}
use Rattle.run_model.proofs.NeverStuck.{Ordered, move_ordered}
use Rattle.trace_graph.specs.VersionLaws.{has_version, makes_version}
use Rattle.slicer.specs.InitialRows.{at_first, is_seen, is_made}
use Rattle.run_laws.proofs.RunSame.{database_of}
use Rattle.slicer.proofs.StatementRows.{is_needed, is_used, lacks, is_first, reason_is, unneeded, needed_named, first_needed, first_unneeded, seen_is, used_unmade, used_after, lacks_after, version_after}
use Rattle.run_laws.proofs.StepKinds.{Kind, Quiet, Asks, db_then, StepOf, move_step, events_by_kind, step_events}
use Rattle.run_laws.proofs.TraceState.{GoodList, PlainAct, PlainActs}

-- one or the other is there
either : (now later : Option Reason) → is_some (option_or now later) ≡ (is_some now || is_some later)
either None later = refl
either (Some reason) later = refl

kind_valid : (kind : Kind) (db : SqlDatabase) → tables_test db.tables ≡ true → tables_test (db_then kind db).tables ≡ true
kind_valid Quiet db valid = valid
kind_valid (Asks statement) db valid = tables_law statement db.tables valid

module _ (table : List ℕ) (row : ℕ) where
  -- what events from a database on say of the row
  pub record RowEvents (db : SqlDatabase) (es : List Event) : Type 0 where
    -- a number that is used isn't made
    pub unmade : list_all (is_used table row) db.tables ≡ true → is_made (at_first table row) es ≡ false
    -- of a row that wasn't updated so far
    pub seen : list_all (is_used table row) db.tables ≡ true → db.versions table row ≡ 0
        → is_some (first_reason table row es) ≡ is_seen (at_first table row) es
    -- a row that isn't there is made before it is seen
    pub made : list_all (lacks table row) db.tables ≡ true → is_seen (at_first table row) es ≡ true
        → is_made (at_first table row) es ≡ true
    pub named : is_some (first_reason table row es) ≡ true → is_table_needed es table ≡ true

  no_events : (db : SqlDatabase) → RowEvents db []
  no_events db = record {
    unmade = λ used. refl;
    seen = λ used untouched. refl;
    made = λ lacking never. never;
    named = λ never. never;
  }

  -- ---- an act that isn't a question

  pub record QuietAct (act : Act) : Type 0 where
    pub reason : act_reason table row act ≡ None
    pub makes : makes_version (at_first table row) act ≡ false
    pub sees : has_version (at_first table row) act ≡ false
    pub names : asks_table table act ≡ false

  plain_quiet : (made : ℕ) (act : Act) → PlainAct made act → QuietAct act
  plain_quiet made (Asked statement tables reads written) plain = absurd plain
  plain_quiet made other plain = record { reason = refl; makes = refl; sees = refl; names = refl }

  pub quiet_event : (db : SqlDatabase) (e : Event) (es : List Event) → QuietAct e.act → RowEvents db es → RowEvents db (e ∷ es)
  quiet_event db e es quiet rest = record {
    unmade = λ used. ap (λ (b : Bool). b || is_made (at_first table row) es) quiet.makes ∙ rest.unmade used;
    seen = λ used untouched.
        ap (λ (o : Option Reason). is_some (option_or o (first_reason table row es))) quiet.reason
        ∙ rest.seen used untouched
        ∙ sym (ap (λ (b : Bool). b || is_seen (at_first table row) es) quiet.sees);
    made = λ lacking seen.
        ap (λ (b : Bool). b || is_made (at_first table row) es) quiet.makes
        ∙ rest.made lacking (sym (ap (λ (b : Bool). b || is_seen (at_first table row) es) quiet.sees) ∙ seen);
    named = λ found.
        ap (λ (b : Bool). b || is_table_needed es table) quiet.names
        ∙ rest.named (sym (ap (λ (o : Option Reason). is_some (option_or o (first_reason table row es))) quiet.reason) ∙ found);
  }

  plain_events : (acts : List Act) (number process made : ℕ) (db : SqlDatabase) (es : List Event) → PlainActs made acts
      → RowEvents db es → RowEvents db (map (event_at number process) acts ++ es)
  plain_events [] number process made db es plain rest = rest
  plain_events (act ∷ acts) number process made db es plain rest =
      quiet_event db (event_at number process act) (map (event_at number process) acts ++ es) (plain_quiet made act plain.0)
      (plain_events acts number process (made_after made act) db es plain.1 rest)

  -- ---- a question

  module _ (asked : ℕ) (statement : Option Statement) (db : SqlDatabase) (valid : is_database db.tables ≡ true) (es : List Event)
      (rest : RowEvents (db_after statement db) es) where
    abbrev act : Act
    act = asked_act asked (lists_of statement db)

    abbrev needed : Bool
    needed = is_needed table row (need_of statement db.tables)

    abbrev read : Bool
    read = list_any (is_first table row db.versions) (need_of statement db.tables)

    abbrev makes : Bool
    makes = makes_version (at_first table row) act

    reason : is_some (act_reason table row act) ≡ needed
    reason = reason_is table row db.versions asked (need_of statement db.tables)

    sees : has_version (at_first table row) act ≡ (read || makes)
    sees = seen_is table row db.versions db.tables valid statement

    found_is : is_some (option_or (act_reason table row act) (first_reason table row es)) ≡ (needed || is_some (first_reason table row es))
    found_is =
        either (act_reason table row act) (first_reason table row es)
        ∙ ap (λ (b : Bool). b || is_some (first_reason table row es)) reason

    asked_unmade : list_all (is_used table row) db.tables ≡ true → (makes || is_made (at_first table row) es) ≡ false
    asked_unmade used =
        ap (λ (b : Bool). b || is_made (at_first table row) es) (used_unmade table row db.versions db.tables valid statement used)
        ∙ rest.unmade (used_after table row db.versions db.tables valid statement used)

    asked_seen : list_all (is_used table row) db.tables ≡ true → db.versions table row ≡ 0
        → is_some (option_or (act_reason table row act) (first_reason table row es)) ≡ (has_version (at_first table row) act || is_seen (at_first table row) es)
    asked_seen used untouched =
        let unmade : makes ≡ false = used_unmade table row db.versions db.tables valid statement used in
        let same : has_version (at_first table row) act ≡ needed =
        sees
        ∙ ap (λ (b : Bool). read || b) unmade
        ∙ or-false read
        ∙ first_needed table row db.versions (need_of statement db.tables) untouched in
        found_is ∙ later ∙ sym (ap (λ (b : Bool). b || is_seen (at_first table row) es) same)
      where
        later : (needed || is_some (first_reason table row es)) ≡ (needed || is_seen (at_first table row) es)
        later = elim (cases_Bool needed) [
          | inl hit ↦ rw hit refl
          | inr none ↦
              rw none
              (rest.seen (used_after table row db.versions db.tables valid statement used)
              (version_after table row db.versions db.tables valid statement none ∙ untouched))
        ]

    asked_made : list_all (lacks table row) db.tables ≡ true → (has_version (at_first table row) act || is_seen (at_first table row) es) ≡ true
        → (makes || is_made (at_first table row) es) ≡ true
    asked_made lacking seen = elim (cases_Bool makes) [
      | inl here ↦ or-left makes (is_made (at_first table row) es) here
      | inr unmade ↦
          let idle : needed ≡ false = unneeded table row statement db.tables lacking in
          let none : has_version (at_first table row) act ≡ false =
          sees ∙ (λ j. first_unneeded table row db.versions (need_of statement db.tables) idle j || unmade j) in
          or-right makes (is_made (at_first table row) es)
          (rest.made (lacks_after table row db.versions db.tables valid statement lacking unmade)
          (sym (ap (λ (b : Bool). b || is_seen (at_first table row) es) none) ∙ seen))
    ]

    asked_named : is_some (option_or (act_reason table row act) (first_reason table row es)) ≡ true
        → (asks_table table act || is_table_needed es table) ≡ true
    asked_named found = elim (cases_Bool needed) [
      | inl here ↦ or-left (asks_table table act) (is_table_needed es table) (needed_named table row statement db.tables valid here)
      | inr none ↦
          let more : is_some (first_reason table row es) ≡ true =
          sym (found_is ∙ ap (λ (b : Bool). b || is_some (first_reason table row es)) none) ∙ found in
          or-right (asks_table table act) (is_table_needed es table) (rest.named more)
    ]

    asked_event : (number process : ℕ) → RowEvents db (event_at number process act ∷ es)
    asked_event number process = record { unmade = asked_unmade; seen = asked_seen; made = asked_made; named = asked_named }

  -- ---- a step, and a run

  kind_rows : (kind : Kind) (number process made asked : ℕ) (db : SqlDatabase) (plain : List Act) (es : List Event)
      → is_database db.tables ≡ true → PlainActs made plain → RowEvents (db_then kind db) es
      → RowEvents db (events_by_kind kind number process asked db plain ++ es)
  kind_rows Quiet number process made asked db plain es valid rules rest = plain_events plain number process made db es rules rest
  kind_rows (Asks statement) number process made asked db plain es valid rules rest =
      asked_event asked statement db valid (map (event_at number process) plain ++ es)
      (plain_events plain number process made (db_after statement db) es rules rest) number process

  pub run_rows : (n number : ℕ) (picks : List ℕ) (s : State SqlDatabase) → GoodList s.core.processes → Ordered s.core
      → tables_test s.db.tables ≡ true → RowEvents s.db (events sql_base n number picks s)
  run_rows zero number picks s list ordered valid = subst (RowEvents s.db) (sym (events-zero sql_base number picks s)) (no_events s.db)
  run_rows (suc n) number picks s list ordered valid = elim (cases_Bool (is_over s.core)) [
    | inl over ↦ subst (RowEvents s.db) (sym (events-over sql_base (suc n) number picks s over)) (no_events s.db)
    | inr going ↦
        let m : StepResult SqlDatabase = move sql_base (first_pick picks) s in
        let of : StepOf s m = move_step (first_pick picks) s list ordered going in
        let rest : List Event = events sql_base n (number + 1) (later_picks picks) m.state in
        let next : Ordered m.state.core = move_ordered sql_base (choose (first_pick picks) s.core) s ordered in
        let left : tables_test m.state.db.tables ≡ true = ap (λ (db : SqlDatabase). tables_test db.tables) of.db ∙ kind_valid of.kind s.db valid in
        let more : RowEvents m.state.db rest = run_rows n (number + 1) (later_picks picks) m.state of.good next left in
        let then_on : RowEvents (db_then of.kind s.db) rest = subst (λ (db : SqlDatabase). RowEvents db rest) of.db more in
        let all : events sql_base (suc n) number picks s ≡ events_by_kind of.kind number m.process s.core.asked s.db of.plain ++ rest =
        events-suc sql_base n number picks s going ∙ ap (λ (es : List Event). es ++ rest) (step_events number s m of) in
        subst (RowEvents s.db) (sym all)
        (kind_rows of.kind number m.process (length s.core.processes) s.core.asked s.db of.plain rest (database_of s.db.tables valid) of.rules then_on)
  ]
