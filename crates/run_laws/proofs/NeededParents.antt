-- A run that needs a table needs its parents: each statement asks them with it, and no statement changes the
-- foreign keys.
use Rattle.std.proofs.Common.{◌≡◌, ℕ, zero, suc, ◌+◌, List, [], ◌∷◌, ◌++◌, refl, sym, ap, ◌∙◌, subst, Bool, true, inl, inr}
use Rattle.std.specs.Prelude.{Option, Some, None, map, ◌&&◌, ◌||◌, if◌then◌else◌}
use Rattle.std.specs.List.{list_any, AllByRecursion}
use Rattle.std.proofs.lemmas.Bool.{cases_Bool}
use Rattle.ldv_value.proofs.Booleans.{or-left, or-right}
use Rattle.ldv_value.proofs.Lists.{all-weaker}
use Rattle.ldv_value.proofs.SameBytes.{bytes_eq-sym}
use Rattle.sql_model.specs.declared.catalog.Catalog.{Catalog}
use Rattle.sql_model.specs.declared.reply.SqlRefusal.{SqlRefusal}
use Rattle.sql_model.specs.declared.statement.Statement.TheVariants.{Query as TheQuery, Insert as TheInsert, Update as TheUpdate, Delete as TheDelete}
use Rattle.sql_model.specs.Changes.{table_after, changed_in, target_of}
use Rattle.sql_model.specs.Needs.{asked_tables}
use Rattle.sql_model.specs.Scope.{same_text, is_table, catalog_of}
use Rattle.sql_model.specs.Statements.{refusal_of, after_unless, after}
use Rattle.sql_model.specs.Tables.{is_database, tables_test}
use Rattle.sql_model.specs.Texts.{statement_of}
use Rattle.sql_laws.specs.StatementLaw.{refers, asks}
use Rattle.sql_laws.proofs.AskedTables.{asked_parents_law}
use Rattle.sql_laws.proofs.StatementParts.{after_is}
use Rattle.run_laws.specs.Types.{Act, Asked, Event, Statement, Table}
use Rattle.run_model.specs.Core.{is_over}
use Rattle.run_model.specs.Events.{event_at, events}
use Rattle.run_model.specs.Run.{first_pick, later_picks, chosen, move}
use Rattle.run_model.specs.Schedule.{choose}
use Rattle.run_model.specs.Slice.{asks_table, is_table_needed}
use Rattle.run_model.specs.SqlDatabase.{SqlDatabase, lists_of, sql_base}
use Rattle.run_model.specs.State.{State, StepResult}
use Rattle.run_model.specs.Step.{Ask, asked_act, local_step, took, next_ask, ends_at, asking}
use Rattle.sql_model.specs.Statements.{reply_of}
use Rattle.run_model.proofs.Equations.{events-zero, events-over, events-suc}
use Rattle.run_laws.proofs.QuietActs.{Unasked, ends_unasked, quiet_unasked}
use Rattle.run_laws.proofs.RunSame.{database_of, move_stays}

module _ (child parent : List ℕ) where
  -- ---- a statement leaves what refers to what

  abbrev is_child : Table → Bool
  is_child t = same_text t.name child && list_any (λ f. same_text f.parent parent) t.schema.foreign

  one_kept : (s : Statement) (catalog : Catalog) (t : Table) → is_child (table_after s catalog t) ≡ is_child t
  one_kept (TheQuery query) catalog t = refl
  one_kept (TheInsert insert) catalog t = refl
  one_kept (TheUpdate update) catalog t = refl
  one_kept (TheDelete delete) catalog t = refl

  either_kept : (name : List ℕ) (s : Statement) (catalog : Catalog) (t : Table)
      → is_child (if is_table name t then table_after s catalog t else t) ≡ is_child t
  either_kept name s catalog t = elim (cases_Bool (is_table name t)) [
    | inl hit ↦ rw hit (one_kept s catalog t)
    | inr miss ↦ rw miss refl
  ]

  each_kept : (name : List ℕ) (s : Statement) (catalog : Catalog) (ts : List Table)
      → list_any is_child (map (λ (t : Table). if is_table name t then table_after s catalog t else t) ts) ≡ list_any is_child ts
  each_kept name s catalog [] = refl
  each_kept name s catalog (t ∷ ts) = λ j. either_kept name s catalog t j || each_kept name s catalog ts j

  in_kept : (name : Option (List ℕ)) (s : Statement) (catalog : Catalog) (ts : List Table)
      → list_any is_child (changed_in name s catalog ts) ≡ list_any is_child ts
  in_kept None s catalog ts = refl
  in_kept (Some name) s catalog ts = each_kept name s catalog ts

  unless_kept : (refusal : Option SqlRefusal) (statement : Option Statement) (ts : List Table)
      → list_any is_child (after_unless refusal statement ts) ≡ list_any is_child ts
  unless_kept (Some refusal) statement ts = refl
  unless_kept None None ts = refl
  unless_kept None (Some s) ts = in_kept (target_of s) s (catalog_of ts) ts

  refers_after : (statement : Option Statement) (ts : List Table) → refers (after statement ts) child parent ≡ refers ts child parent
  refers_after statement ts = ap (list_any is_child) (after_is statement ts) ∙ unless_kept (refusal_of statement ts) statement ts

  -- ---- acts that name the parent where they name the child

  abbrev Brings : Act → Type 0
  Brings act = asks_table child act ≡ true → asks_table parent act ≡ true

  unasked_brings : (act : Act) → Unasked act → Brings act
  unasked_brings (Asked statement tables reads made) unasked = absurd unasked
  unasked_brings other unasked = λ never. never

  all_unasked : (acts : List Act) → AllByRecursion Unasked acts → AllByRecursion Brings acts
  all_unasked acts all = all-weaker Unasked Brings unasked_brings acts all

  names_asked : (name : List ℕ) (names : List (List ℕ)) → list_any (λ other. same_text other name) names ≡ list_any (same_text name) names
  names_asked name names = λ j. list_any (λ other. bytes_eq-sym other name j) names

  asked_brings : (asked : ℕ) (statement : Option Statement) (db : SqlDatabase) → is_database db.tables ≡ true
      → refers db.tables child parent ≡ true → Brings (asked_act asked (lists_of statement db))
  asked_brings asked statement db valid refer named =
      let there : asks statement db.tables child ≡ true = sym (names_asked child (asked_tables statement db.tables)) ∙ named in
      names_asked parent (asked_tables statement db.tables) ∙ asked_parents_law statement db.tables valid child parent refer there

  -- ---- steps

  asking_brings : (number : ℕ) (s : State SqlDatabase) (o : Option Ask) → is_database s.db.tables ≡ true
      → refers s.db.tables child parent ≡ true → AllByRecursion Brings (asking sql_base number s o).acts
  asking_brings number s None valid refer =
      all_unasked ((local_step number s.core).acts ++ ends_at number (local_step number s.core).core) (quiet_unasked number s.core)
  asking_brings number s (Some a) valid refer =
      let statement : Option Statement = statement_of a.question.text a.question.params in
      let ends : List Act = ends_at number (took number a (reply_of statement s.db.tables) s.core) in (
        asked_brings s.core.asked statement s.db valid refer,
        all_unasked ends (ends_unasked number (took number a (reply_of statement s.db.tables) s.core)),
      )

  move_brings : (pick : Option ℕ) (s : State SqlDatabase) → is_database s.db.tables ≡ true
      → refers s.db.tables child parent ≡ true → AllByRecursion Brings (move sql_base pick s).acts
  move_brings pick s valid refer =
      let number : ℕ = choose pick s.core in
      asking_brings number (chosen number s) (next_ask number (chosen number s).core) valid refer

  asking_refers : (number : ℕ) (s : State SqlDatabase) (o : Option Ask) → refers s.db.tables child parent ≡ true
      → refers (asking sql_base number s o).state.db.tables child parent ≡ true
  asking_refers number s None refer = refer
  asking_refers number s (Some a) refer = refers_after (statement_of a.question.text a.question.params) s.db.tables ∙ refer

  move_refers : (pick : Option ℕ) (s : State SqlDatabase) → refers s.db.tables child parent ≡ true
      → refers (move sql_base pick s).state.db.tables child parent ≡ true
  move_refers pick s refer =
      let number : ℕ = choose pick s.core in
      asking_refers number (chosen number s) (next_ask number (chosen number s).core) refer

  -- ---- events

  abbrev pub BringsAll : List Event → Type 0
  BringsAll es = is_table_needed es child ≡ true → is_table_needed es parent ≡ true

  acts_bring : (step process : ℕ) (acts : List Act) (later : List Event) → AllByRecursion Brings acts → BringsAll later
      → BringsAll (map (event_at step process) acts ++ later)
  acts_bring step process [] later brings rest needed = rest needed
  acts_bring step process (act ∷ acts) later brings rest needed =
      let more : List Event = map (event_at step process) acts ++ later in
      elim (cases_Bool (asks_table child act)) [
        | inl here ↦ or-left (asks_table parent act) (is_table_needed more parent) (brings.0 here)
        | inr miss ↦
            let others : is_table_needed more child ≡ true =
            sym (ap (λ (b : Bool). b || is_table_needed more child) miss) ∙ needed in
            or-right (asks_table parent act) (is_table_needed more parent) (acts_bring step process acts later brings.1 rest others)
      ]

  no_events : BringsAll []
  no_events never = never

  pub run_brings : (n number : ℕ) (picks : List ℕ) (s : State SqlDatabase) → tables_test s.db.tables ≡ true
      → refers s.db.tables child parent ≡ true → BringsAll (events sql_base n number picks s)
  run_brings zero number picks s valid refer = subst BringsAll (sym (events-zero sql_base number picks s)) no_events
  run_brings (suc n) number picks s valid refer = elim (cases_Bool (is_over s.core)) [
    | inl over ↦ subst BringsAll (sym (events-over sql_base (suc n) number picks s over)) no_events
    | inr going ↦
        let m : StepResult SqlDatabase = move sql_base (first_pick picks) s in
        let later : List Event = events sql_base n (number + 1) (later_picks picks) m.state in
        let rest : BringsAll later =
        run_brings n (number + 1) (later_picks picks) m.state (move_stays (first_pick picks) s valid) (move_refers (first_pick picks) s refer) in
        subst BringsAll (sym (events-suc sql_base n number picks s going))
        (acts_bring number m.process m.acts later
        (move_brings (first_pick picks) s (database_of s.db.tables valid) refer) rest)
  ]
