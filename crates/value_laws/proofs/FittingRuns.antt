-- The package of a run over tables without foreign keys has no rules of them.
use Rattle.std.proofs.Common.{◌≡◌, ℕ, zero, suc, ◌+◌, List, [], ◌∷◌, ◌++◌, length, refl, sym, ap, ◌∙◌, subst, Bool, true, false, arith, inl, inr}
use Rattle.std.specs.Prelude.{Option, Some, None, map, filter, slice_get, option_map, ◌&&◌, ◌==◌, IsTrue}
use Rattle.std.specs.List.{list_all, filter_map, cons_option}
use Rattle.std.specs.Option.{option_or}
use Rattle.std.proofs.lemmas.Bool.{cases_Bool}
use Rattle.ldv_value.proofs.Booleans.{and-parts, and-from}
use Rattle.run_laws.specs.Types.{Act, Asked, Event, Instr, Included, Need, Package, PackedRow, PackedTable, Statement, Table, TableRow, World}
use Rattle.run_model.specs.Core.{is_over}
use Rattle.run_model.specs.Events.{event_at, events, start_events}
use Rattle.run_model.specs.Package.{own_table, own_world, package_of}
use Rattle.run_model.specs.Run.{first_pick, later_picks, move}
use Rattle.run_model.specs.Schedule.{choose}
use Rattle.run_model.specs.Slice.{Reason, is_read, reason_in, act_reason, first_reason, packed_because, packed_row, rows_needed, packed_table, is_table_needed, tables_needed}
use Rattle.run_model.specs.SqlDatabase.{SqlDatabase, lists_of, sql_base}
use Rattle.run_model.specs.Start.{start_script, start_state}
use Rattle.run_model.specs.State.{State, StepResult}
use Rattle.run_model.specs.Step.{asked_act}
use Rattle.run_model.specs.ValidTrace.{made_after}
use Rattle.run_model.specs.WorldRun.{events_in, events_by}
use Rattle.run_model.proofs.Equations.{events-zero, events-over, events-suc}
use Rattle.run_model.proofs.NeverStuck.{Ordered, move_ordered}
use Rattle.run_laws.proofs.StepKinds.{Kind, Quiet, Asks, db_then, StepOf, move_step, events_by_kind, step_events}
use Rattle.run_laws.proofs.TraceState.{GoodList, PlainAct, PlainActs}
use Rattle.package_codec.specs.Plain.{is_plain_rule, is_plain_row, is_plain_table, is_plain_log, is_plain_need, is_plain_act, is_plain_event, is_plain, has_no_foreign, fits_version}
use Rattle.package_codec.specs.declared.version.Version.{Version}
use Rattle.package_codec.specs.declared.version.Version.TheVariants.{One, Two}
use Rattle.value_laws.specs.Fitting.{refers_to_none, fits_world, FittingLaw, OwnFittingLaw}
use Rattle.value_laws.proofs.FittingNeeds.{reads_plain, after_none}

-- ---- events

abbrev are_events : List Event → Bool
are_events es = list_all is_plain_event es

both_events : (xs ys : List Event) → are_events xs ≡ true → are_events ys ≡ true → are_events (xs ++ ys) ≡ true
both_events [] ys a b = b
both_events (x ∷ xs) ys a b =
    let parts = and-parts (is_plain_event x) (are_events xs) a in
    and-from (is_plain_event x) (are_events (xs ++ ys)) parts.0 (both_events xs ys parts.1 b)

quiet_plain : (made : ℕ) (act : Act) → PlainAct made act → is_plain_act act ≡ true
quiet_plain made (Asked statement tables reads written) plain = absurd plain
quiet_plain made other plain = refl

acts_plain : (acts : List Act) (number process made : ℕ) → PlainActs made acts → are_events (map (event_at number process) acts) ≡ true
acts_plain [] number process made plain = refl
acts_plain (act ∷ acts) number process made plain =
    and-from (is_plain_act act) (are_events (map (event_at number process) acts)) (quiet_plain made act plain.0)
    (acts_plain acts number process (made_after made act) plain.1)

kind_plain : (kind : Kind) (number process made asked : ℕ) (db : SqlDatabase) (plain : List Act) → list_all refers_to_none db.tables ≡ true
    → PlainActs made plain → are_events (events_by_kind kind number process asked db plain) ≡ true
kind_plain Quiet number process made asked db plain none rules = acts_plain plain number process made rules
kind_plain (Asks statement) number process made asked db plain none rules =
    and-from (is_plain_act (asked_act asked (lists_of statement db))) (are_events (map (event_at number process) plain))
    (reads_plain db.tables none db.versions statement) (acts_plain plain number process made rules)

kind_none : (kind : Kind) (db : SqlDatabase) → list_all refers_to_none db.tables ≡ true → list_all refers_to_none (db_then kind db).tables ≡ true
kind_none Quiet db none = none
kind_none (Asks statement) db none = after_none statement db.tables none

run_plain : (n number : ℕ) (picks : List ℕ) (s : State SqlDatabase) → GoodList s.core.processes → Ordered s.core
    → list_all refers_to_none s.db.tables ≡ true → are_events (events sql_base n number picks s) ≡ true
run_plain zero number picks s list ordered none = ap are_events (events-zero sql_base number picks s)
run_plain (suc n) number picks s list ordered none = elim (cases_Bool (is_over s.core)) [
  | inl over ↦ ap are_events (events-over sql_base (suc n) number picks s over)
  | inr going ↦
      let m : StepResult SqlDatabase = move sql_base (first_pick picks) s in
      let of : StepOf s m = move_step (first_pick picks) s list ordered going in
      let rest : List Event = events sql_base n (number + 1) (later_picks picks) m.state in
      let here : List Event = events_by_kind of.kind number m.process s.core.asked s.db of.plain in
      let next : Ordered m.state.core = move_ordered sql_base (choose (first_pick picks) s.core) s ordered in
      let left : list_all refers_to_none m.state.db.tables ≡ true =
      ap (λ (db : SqlDatabase). list_all refers_to_none db.tables) of.db ∙ kind_none of.kind s.db none in
      let more : are_events rest ≡ true = run_plain n (number + 1) (later_picks picks) m.state of.good next left in
      let all : events sql_base (suc n) number picks s ≡ here ++ rest =
      events-suc sql_base n number picks s going ∙ ap (λ (es : List Event). es ++ rest) (step_events number s m of) in
      ap are_events all
      ∙ both_events here rest
      (kind_plain of.kind number m.process (length s.core.processes) s.core.asked s.db of.plain none of.rules) more
]

started_plain : (word : Option (List ℕ)) → are_events (start_events word) ≡ true
started_plain None = refl
started_plain (Some word) = refl

script_plain : (n : ℕ) (picks : List ℕ) (w : World) → list_all refers_to_none w.tables ≡ true → (o : Option (List Instr))
    → are_events (events_in n picks w o) ≡ true
script_plain n picks w none None = refl
script_plain n picks w none (Some script) =
    let begun : State SqlDatabase = start_state w script in
    let list : GoodList begun.core.processes =
    record { each = (record { children = tt; files = tt; status = tt }, tt); few = omega arith } in
    let ordered : Ordered begun.core = (tt, tt) in
    both_events (start_events (slice_get w.start 0)) (events sql_base n 1 picks begun) (started_plain (slice_get w.start 0))
    (run_plain n 1 picks begun list ordered none)

-- ---- rows

abbrev is_plain_reason : Option Reason → Bool
is_plain_reason None = true
is_plain_reason (Some why) = is_plain_rule why.rule

either_plain : (a b : Option Reason) → is_plain_reason a ≡ true → is_plain_reason b ≡ true → is_plain_reason (option_or a b) ≡ true
either_plain None b p q = q
either_plain (Some why) b p q = p

module _ (table : List ℕ) (row : ℕ) where
  reads_reason : (statement : ℕ) (needs : List Need) → list_all is_plain_need needs ≡ true → is_plain_reason (reason_in statement table row needs) ≡ true
  reads_reason statement [] plain = refl
  reads_reason statement (need ∷ needs) plain =
      let parts = and-parts (is_plain_need need) (list_all is_plain_need needs) plain in
      elim (cases_Bool (is_read table row need)) [
        | inl hit ↦ rw hit parts.0
        | inr miss ↦ rw miss (reads_reason statement needs parts.1)
      ]

  act_plain : (act : Act) → is_plain_act act ≡ true → is_plain_reason (act_reason table row act) ≡ true
  act_plain (Asked statement tables reads written) plain = reads_reason statement reads plain
  act_plain other plain = refl

  first_plain : (es : List Event) → are_events es ≡ true → is_plain_reason (first_reason table row es) ≡ true
  first_plain [] plain = refl
  first_plain (e ∷ es) plain =
      let parts = and-parts (is_plain_event e) (are_events es) plain in
      either_plain (act_reason table row e.act) (first_reason table row es) (act_plain e.act parts.0) (first_plain es parts.1)

one_plain : (row : TableRow) (o : Option Reason) (rest : List PackedRow) → is_plain_reason o ≡ true → list_all is_plain_row rest ≡ true
    → list_all is_plain_row (cons_option (option_map (packed_because row) o) rest) ≡ true
one_plain row None rest p q = q
one_plain row (Some why) rest p q = and-from (is_plain_rule why.rule) (list_all is_plain_row rest) p q

module _ (es : List Event) (plain : are_events es ≡ true) where
  rows_plain : (table : List ℕ) (rows : List TableRow) → list_all is_plain_row (rows_needed es table rows) ≡ true
  rows_plain table [] = refl
  rows_plain table (row ∷ rows) =
      one_plain row (first_reason table row.number es) (rows_needed es table rows) (first_plain table row.number es plain) (rows_plain table rows)

  tables_plain : (ts : List Table) → list_all refers_to_none ts ≡ true → list_all is_plain_table (tables_needed es ts) ≡ true
  tables_plain [] none = refl
  tables_plain (t ∷ ts) none =
      let parts = and-parts (refers_to_none t) (list_all refers_to_none ts) none in
      elim (cases_Bool (is_table_needed es t.name)) [
        | inl named ↦
            rw named (and-from (is_plain_table (packed_table es t)) (list_all is_plain_table (tables_needed es ts))
            (and-from (refers_to_none t) (list_all is_plain_row (rows_needed es t.name t.rows)) parts.0 (rows_plain t.name t.rows))
            (tables_plain ts parts.1))
        | inr unnamed ↦ rw unnamed (tables_plain ts parts.1)
      ]

-- ---- packages

package_plain : (n : ℕ) (w : World) → list_all refers_to_none w.tables ≡ true → is_plain (package_of Included n w) ≡ true
package_plain n w none =
    let es : List Event = events_by n [] w in
    let plain : are_events es ≡ true = script_plain n [] w none (start_script w) in
    let tables : Bool = list_all is_plain_table (tables_needed es w.tables) in
    and-from (tables && true) (are_events es) (and-from tables true (tables_plain es plain w.tables none) refl) plain

pub run_fits : FittingLaw
run_fits One n w fits = package_plain n w fits
run_fits Two n w fits = refl

own_none : (ts : List PackedTable) → list_all is_plain_table ts ≡ true → list_all refers_to_none (map own_table ts) ≡ true
own_none [] plain = refl
own_none (t ∷ ts) plain =
    let parts = and-parts (is_plain_table t) (list_all is_plain_table ts) plain in
    let own = and-parts (has_no_foreign t) (list_all is_plain_row t.rows) parts.0 in
    and-from (has_no_foreign t) (list_all refers_to_none (map own_table ts)) own.0 (own_none ts parts.1)

pub own_fits : OwnFittingLaw
own_fits One p fits =
    own_none p.tables (and-parts (list_all is_plain_table p.tables) (list_all is_plain_log p.logs)
    (and-parts (list_all is_plain_table p.tables && list_all is_plain_log p.logs) (list_all is_plain_event p.events) fits).0).0
own_fits Two p fits = refl
