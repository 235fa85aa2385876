-- The slice keeps what is needed, with the parents of needed tables, and is the package's own world.
use Rattle.std.proofs.Common.{◌≡◌, ℕ, List, [], ◌∷◌, ◌++◌, refl, sym, ap, ◌∙◌, true, inl, inr}
use Rattle.std.specs.Prelude.{Option, Some, None, option_map, map, filter, slice_get}
use Rattle.std.specs.List.{cons_option}
use Rattle.std.proofs.lemmas.Bool.{cases_Bool}
use Rattle.ldv_value.proofs.Cases.{cases-option}
use Rattle.ldv_value.proofs.Lists.{map-map}
use Rattle.sql_model.specs.ForeignKeys.{have_parents}
use Rattle.sql_model.specs.Scope.{catalog_of}
use Rattle.sql_model.specs.Tables.{tables_test}
use Rattle.sql_laws.specs.StatementLaw.{KeepsParents}
use Rattle.sql_laws.proofs.CutDatabases.{cut_parents_law}
use Rattle.run_laws.specs.Types.{File, Table, TableRow, Event, Instr, PackedFile, PackedTable, World}
use Rattle.run_model.specs.Between.{HasParents, kept_file, cut_files, cut_table, cut_tables, cut_world, KeepsFile, KeepsNeeded, cut_to, is_row_needed, slice_cut}
use Rattle.run_model.specs.Package.{own_file, own_row, own_table}
use Rattle.run_model.specs.Slice.{FileNeed, Whole, Present, file_need, packed_as, files_needed, first_reason, rows_needed, is_table_needed, packed_table, tables_needed}
use Rattle.run_model.specs.Events.{events, start_events}
use Rattle.run_model.specs.SqlDatabase.{sql_base}
use Rattle.run_model.specs.Start.{start_script, start_state}
use Rattle.run_model.specs.ValidPackage.{packed_catalog}
use Rattle.run_model.specs.WorldRun.{events_in, events_by, events_within}
use Rattle.run_laws.specs.Laws.{SliceLaw, OwnLaw}
use Rattle.run_laws.proofs.NeededParents.{BringsAll, run_brings}
use Rattle.run_laws.proofs.RunSame.{database_of}

-- ---- the slice keeps what is needed

kept_need : (need : Option FileNeed) → KeepsFile need (cut_to need)
kept_need (Some Whole) = tt
kept_need (Some Present) = tt
kept_need None = tt

pub slice_keeps : (events : List Event) (initial : List Table) → KeepsNeeded (slice_cut events) initial events
slice_keeps events initial = record {
  files = λ path. kept_need (file_need path events);
  tables = λ name needed. needed;
  rows = λ name number first needed. needed;
}

-- the parents of needed tables are needed

start_brings : (child parent : List ℕ) (word : Option (List ℕ)) (es : List Event) → BringsAll child parent es
    → BringsAll child parent (start_events word ++ es)
start_brings child parent None es rest = rest
start_brings child parent (Some path) es rest = rest

needed_in : (n : ℕ) (picks : List ℕ) (w : World) → tables_test w.tables ≡ true → (o : Option (List Instr))
    → KeepsParents (is_table_needed (events_in n picks w o)) w.tables
needed_in n picks w valid None child parent refer never = never
needed_in n picks w valid (Some script) child parent refer needed =
    let later : List Event = events sql_base n 1 picks (start_state w script) in
    let brings : BringsAll child parent later = run_brings child parent n 1 picks (start_state w script) valid refer in
    start_brings child parent (slice_get w.start 0) later brings needed

-- so they are in what is left
pub slice_parents : (n : ℕ) (picks : List ℕ) (w : World) → tables_test w.tables ≡ true
    → HasParents (cut_world (slice_cut (events_by n picks w)) w)
slice_parents n picks w valid =
    let all : List Event = events_by n picks w in
    cut_parents_law (is_table_needed all) (is_row_needed all) w.tables (database_of w.tables valid) (needed_in n picks w valid (start_script w))

pub slice_law : SliceLaw
slice_law n w valid =
    let all : List Event = events_within n w in
    (slice_cut all, slice_keeps all w.tables, slice_parents n [] w valid, refl)

-- ---- the own world of what is packed

module _ (all : List Event) where
  own_file_same : (f : File) (need : Option FileNeed) (rest : List PackedFile) (files : List File) → map own_file rest ≡ files
      → map own_file (cons_option (option_map (packed_as f) need) rest) ≡ cons_option (kept_file (cut_to need) f) files
  own_file_same f (Some Whole) rest files same = ap (λ (l : List File). f ∷ l) same
  own_file_same f (Some Present) rest files same = ap (λ (l : List File). (record { path = f.path; content = [] }) ∷ l) same
  own_file_same f None rest files same = same

  pub own_files : (files : List File) → map own_file (files_needed all files) ≡ cut_files (slice_cut all) files
  own_files [] = refl
  own_files (f ∷ fs) = own_file_same f (file_need f.path all) (files_needed all fs) (cut_files (slice_cut all) fs) (own_files fs)

  own_rows : (table : List ℕ) (rows : List TableRow) → map own_row (rows_needed all table rows) ≡ filter (λ row. is_row_needed all table row.number) rows
  own_rows table [] = refl
  own_rows table (row ∷ rows) = elim (cases-option (first_reason table row.number all)) [
    | inl none ↦ rw none (own_rows table rows)
    | inr found ↦ rw found.1 (ap (λ (l : List TableRow). row ∷ l) (own_rows table rows))
  ]

  own_table_same : (t : Table) → own_table (packed_table all t) ≡ cut_table (slice_cut all) t
  own_table_same t = λ j. record { name = t.name; schema = t.schema; rows = own_rows t.name t.rows j; next = t.next }

  pub own_tables : (tables : List Table) → map own_table (tables_needed all tables) ≡ cut_tables (slice_cut all) tables
  own_tables [] = refl
  own_tables (t ∷ ts) = elim (cases_Bool (is_table_needed all t.name)) [
    | inl needed ↦ rw needed (λ j. own_table_same t j ∷ own_tables ts j)
    | inr idle ↦ rw idle (own_tables ts)
  ]

pub own_law : OwnLaw
own_law n w =
    let all : List Event = events_within n w in
    λ j. record { start = w.start; seed = w.seed; files = own_files all w.files j; tables = own_tables all w.tables j }

-- ---- packed tables have their parents among them

pub own_catalog : (ts : List PackedTable) → catalog_of (map own_table ts) ≡ packed_catalog ts
own_catalog ts = λ j. record {
  names = map-map (λ (t : Table). t.name) own_table ts j;
  schemas = map-map (λ (t : Table). t.schema) own_table ts j;
}

pub packed_parents : (n : ℕ) (w : World) → tables_test w.tables ≡ true
    → have_parents (packed_catalog (tables_needed (events_within n w) w.tables)) ≡ true
packed_parents n w valid =
    let all : List Event = events_within n w in
    let packed : List PackedTable = tables_needed all w.tables in
    ap have_parents (sym (own_catalog packed) ∙ ap catalog_of (own_tables all w.tables)) ∙ slice_parents n [] w valid
