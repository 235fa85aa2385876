-- The events of a run read each initial row first in its initial version, and make none of them.
use Rattle.std.proofs.Common.{◌≡◌, ℕ, List, [], ◌∷◌, ◌++◌, refl, sym, ap, ◌∙◌, subst, Bool, true, false, arith, inl, inr}
use Rattle.std.specs.Prelude.{Option, Some, None, not, ◌&&◌, ◌||◌, ◌==◌, nat_lt, slice_get}
use Rattle.std.specs.List.{list_all, list_any}
use Rattle.std.proofs.lemmas.Bool.{cases_Bool, false≢true}
use Rattle.ldv_value.specs.Sorted.{is_strictly_sorted}
use Rattle.ldv_value.proofs.Booleans.{and-parts, and-from, or-parts, or-false, not-true}
use Rattle.ldv_value.proofs.Lists.{list_all-weaker}
use Rattle.ldv_value.proofs.SameBytes.{bytes_eq-true, nat_eq-true}
use Rattle.sql_model.specs.Scope.{same_text}
use Rattle.sql_model.specs.Tables.{is_valid_table, table_precedes, tables_test}
use Rattle.sql_model.proofs.ValidTables.{table-parts}
use Rattle.sql_model.proofs.SortedLists.{sorted-all, sorted-tail}
use Rattle.sql_model.proofs.Databases.{tables_of_database}
use Rattle.sql_laws.proofs.TableNames.{table-trans, more-differs}
use Rattle.run_laws.specs.Types.{Instr, Started, Table, TableRow, Event, World}
use Rattle.run_model.specs.Events.{event_at, events, start_events}
use Rattle.run_model.specs.SqlDatabase.{SqlDatabase, initial_database, sql_base}
use Rattle.run_model.specs.Start.{start_script, start_state}
use Rattle.run_model.specs.State.{State}
use Rattle.run_model.specs.WorldRun.{events_in, events_by}
use Rattle.run_model.proofs.NeverStuck.{Ordered}
use Rattle.slicer.specs.InitialRows.{is_row_of, ReadsInitialRows}
use Rattle.slicer.specs.InitialRows.{InitialRowsLaw}
use Rattle.slicer.proofs.RunRows.{RowEvents, quiet_event, run_rows}
use Rattle.run_laws.proofs.RunSame.{database_of}
use Rattle.run_laws.proofs.SortedNeeds.{rows_sorted}
use Rattle.slicer.proofs.StatementRows.{is_used, lacks}
use Rattle.run_laws.proofs.TraceState.{GoodList}

-- a number in rows is below one that all of them are below
under : (next row : ℕ) (rows : List TableRow) → list_all (λ (r : TableRow). nat_lt r.number next) rows ≡ true
    → list_any (λ (r : TableRow). r.number == row) rows ≡ true → nat_lt row next ≡ true
under next row [] below there = absurd (false≢true there)
under next row (r ∷ rows) below there =
    let both = and-parts (nat_lt r.number next) (list_all (λ (r : TableRow). nat_lt r.number next) rows) below in
    elim (cases_Bool (r.number == row)) [
      | inl hit ↦ ap (λ (n : ℕ). nat_lt n next) (sym (nat_eq-true r.number row hit)) ∙ both.0
      | inr miss ↦ under next row rows both.1 (rw miss at there)
    ]

rows_below : (t : Table) → is_valid_table t ≡ true → list_all (λ (r : TableRow). nat_lt r.number t.next) t.rows ≡ true
rows_below t valid =
    (and-parts (rows_sorted t.rows) (list_all (λ (r : TableRow). nat_lt r.number t.next) t.rows) (table-parts t valid).numbers).1

module _ (table : List ℕ) (row : ℕ) where
  abbrev is_other : Table → Bool
  is_other t = not (same_text t.name table)

  other_used : (t : Table) → is_other t ≡ true → is_used table row t ≡ true
  other_used t other = rw other refl

  -- tables of other names don't have the row
  others_lack : (ts : List Table) → list_all is_other ts ≡ true → is_row_of ts table row ≡ false
  others_lack [] others = refl
  others_lack (t ∷ ts) others =
      let both = and-parts (is_other t) (list_all is_other ts) others in
      let name : same_text t.name table ≡ false = not-true (same_text t.name table) both.0 in
      rw name (others_lack ts both.1)

  -- tables after one of the name have other names
  after_other : (t : Table) → same_text t.name table ≡ true → (ts : List Table) → list_all (table_precedes t) ts ≡ true
      → list_all is_other ts ≡ true
  after_other t named ts after =
      let name : t.name ≡ table = bytes_eq-true t.name table named in
      list_all-weaker (table_precedes t) is_other
      (λ u less. ap not (ap (same_text u.name) (sym name) ∙ more-differs t.name u.name less)) ts after

  -- the number of a row that is there is used
  there_used : (ts : List Table) → list_all is_valid_table ts ≡ true → is_strictly_sorted table_precedes ts ≡ true
      → is_row_of ts table row ≡ true → list_all (is_used table row) ts ≡ true
  there_used [] valid sorted there = refl
  there_used (t ∷ ts) valid sorted there =
      let both = and-parts (is_valid_table t) (list_all is_valid_table ts) valid in
      elim (cases_Bool (same_text t.name table)) [
        | inl named ↦
            let others : list_all is_other ts ≡ true = after_other t named ts (sorted-all table_precedes table-trans t ts sorted) in
            let here : (list_any (λ (r : TableRow). r.number == row) t.rows || is_row_of ts table row) ≡ true = rw named at there in
            let found : list_any (λ (r : TableRow). r.number == row) t.rows ≡ true =
            sym (ap (λ (b : Bool). list_any (λ (r : TableRow). r.number == row) t.rows || b) (others_lack ts others) ∙ or-false (list_any (λ (r : TableRow). r.number == row) t.rows)) ∙ here in
            and-from (is_used table row t) (list_all (is_used table row) ts)
            (rw named (under t.next row t.rows (rows_below t both.0) found))
            (list_all-weaker is_other (is_used table row) other_used ts others)
        | inr other ↦
            let more : is_row_of ts table row ≡ true = rw other at there in
            and-from (is_used table row t) (list_all (is_used table row) ts) (other_used t (ap not other))
            (there_used ts both.1 (sorted-tail table_precedes table-trans t ts sorted) more)
      ]

  -- tables that don't have it lack it one by one
  each_lacks : (ts : List Table) → is_row_of ts table row ≡ false → list_all (lacks table row) ts ≡ true
  each_lacks [] none = refl
  each_lacks (t ∷ ts) none =
      let parts = or-parts (same_text t.name table && list_any (λ (r : TableRow). r.number == row) t.rows) (is_row_of ts table row) none in
      and-from (lacks table row t) (list_all (lacks table row) ts) (ap not parts.0) (each_lacks ts parts.1)

  -- the start of the run says nothing of rows
  started_rows : (word : Option (List ℕ)) (db : SqlDatabase) (es : List Event) → RowEvents table row db es
      → RowEvents table row db (start_events word ++ es)
  started_rows None db es rest = rest
  started_rows (Some word) db es rest =
      quiet_event table row db (event_at 0 0 (Started word)) es (record { reason = refl; makes = refl; sees = refl; names = refl }) rest

module _ (n : ℕ) (picks : List ℕ) (w : World) (script : List Instr) (is : start_script w ≡ Some script) (valid : tables_test w.tables ≡ true) where
  abbrev begun : State SqlDatabase
  begun = start_state w script

  start_list : GoodList begun.core.processes
  start_list = record { each = (record { children = tt; files = tt; status = tt }, tt); few = omega arith }

  start_ordered : Ordered begun.core
  start_ordered = (tt, tt)

  abbrev all_events : List Event
  all_events = start_events (slice_get w.start 0) ++ events sql_base n 1 picks begun

  rows : (table : List ℕ) (row : ℕ) → RowEvents table row (initial_database w.tables) all_events
  rows table row =
      started_rows table row (slice_get w.start 0) (initial_database w.tables) (events sql_base n 1 picks begun)
      (run_rows table row n 1 picks begun start_list start_ordered valid)

  used : (table : List ℕ) (row : ℕ) → is_row_of w.tables table row ≡ true → list_all (is_used table row) w.tables ≡ true
  used table row first =
      let both = and-parts (list_all is_valid_table w.tables) (is_strictly_sorted table_precedes w.tables)
      (tables_of_database w.tables (database_of w.tables valid)) in
      there_used table row w.tables both.0 both.1 first

  reads_rows : ReadsInitialRows all_events w.tables
  reads_rows = record {
    unmade = λ table row first. (rows table row).unmade (used table row first);
    at_first_seen = λ table row first. (rows table row).seen (used table row first) refl;
    others_made = λ table row other seen. (rows table row).made (each_lacks table row w.tables other) seen;
    named = λ table row needed. (rows table row).named needed;
  }

  pub world_rows : ReadsInitialRows (events_by n picks w) w.tables
  world_rows = subst (λ (es : List Event). ReadsInitialRows es w.tables) (sym (ap (events_in n picks w) is)) reads_rows

pub initial_rows_law : InitialRowsLaw
initial_rows_law n picks w script is valid = world_rows n picks w script is valid
