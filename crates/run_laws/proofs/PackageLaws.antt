-- The needs of events are the same in a cut world that keeps all that they need.
use Rattle.std.proofs.Common.{◌≡◌, ℕ, List, [], ◌∷◌, refl, ap, true, inl, inr}
use Rattle.std.specs.Prelude.{Option, Some, None, option_map, is_some, filter}
use Rattle.std.specs.List.{cons_option, filter_map}
use Rattle.std.proofs.lemmas.Bool.{cases_Bool}
use Rattle.ldv_value.proofs.Cases.{cases-option}
use Rattle.run_laws.specs.Types.{File, Table, TableRow, Event, Mode, Included, Excluded, PackedRow}
use Rattle.run_model.specs.Between.{Cut, FileCut, Gone, Same, Other, kept_file, with_content, cut_files, cut_table, cut_tables, KeepsFile}
use Rattle.run_model.specs.Package.{tables_of}
use Rattle.run_model.specs.Slice.{FileNeed, Whole, Present, file_need, packed_as, packed_file, files_needed, first_reason, packed_because, rows_needed, is_table_needed, packed_table, tables_needed}
use Rattle.run_laws.proofs.Keeps.{KeepsAll}

module _ (cut : Cut) (events : List Event) (keeps : KeepsAll cut events) where
  -- ---- files

  packed_same : (f : File) (need : Option FileNeed) (k : FileCut) → KeepsFile need k → file_need f.path events ≡ need
      → (rest files : List File) → filter_map (packed_file events) rest ≡ filter_map (packed_file events) files
      → filter_map (packed_file events) (cons_option (kept_file k f) rest)
      ≡ cons_option (option_map (packed_as f) need) (filter_map (packed_file events) files)
  packed_same f (Some Whole) Gone keeps is rest files same = absurd keeps
  packed_same f (Some Whole) Same keeps is rest files same = λ j. cons_option (option_map (packed_as f) (is j)) (same j)
  packed_same f (Some Whole) (Other bytes) keeps is rest files same = absurd keeps
  packed_same f (Some Present) Gone keeps is rest files same = absurd keeps
  packed_same f (Some Present) Same keeps is rest files same = λ j. cons_option (option_map (packed_as f) (is j)) (same j)
  packed_same f (Some Present) (Other bytes) keeps is rest files same =
      λ j. cons_option (option_map (packed_as (with_content f bytes)) (is j)) (same j)
  packed_same f None Gone keeps is rest files same = same
  packed_same f None Same keeps is rest files same = λ j. cons_option (option_map (packed_as f) (is j)) (same j)
  packed_same f None (Other bytes) keeps is rest files same = absurd keeps

  pub files_same : (files : List File) → files_needed events (cut_files cut files) ≡ files_needed events files
  files_same [] = refl
  files_same (f ∷ fs) =
      packed_same f (file_need f.path events) (cut.file f.path) (keeps.files f.path) refl (cut_files cut fs) fs (files_same fs)

  -- ---- tables

  rows_same : (table : List ℕ) (rows : List TableRow)
      → rows_needed events table (filter (λ row. cut.row table row.number) rows) ≡ rows_needed events table rows
  rows_same table [] = refl
  rows_same table (row ∷ rows) = elim (cases-option (first_reason table row.number events)) [
    | inr found ↦
        let stays : cut.row table row.number ≡ true = keeps.rows table row.number (ap is_some found.1) in
        rw (stays, found.1) (ap (λ (l : List PackedRow). packed_because row found.0 ∷ l) (rows_same table rows))
    | inl none ↦ elim (cases_Bool (cut.row table row.number)) [
      | inl stays ↦ rw (stays, none) (rows_same table rows)
      | inr goes ↦ rw (goes, none) (rows_same table rows)
    ]
  ]

  table_same : (t : Table) → packed_table events (cut_table cut t) ≡ packed_table events t
  table_same t = λ j. record { name = t.name; schema = t.schema; next = t.next; rows = rows_same t.name t.rows j }

  pub tables_same : (tables : List Table) → tables_needed events (cut_tables cut tables) ≡ tables_needed events tables
  tables_same [] = refl
  tables_same (t ∷ ts) = elim (cases_Bool (is_table_needed events t.name)) [
    | inl needed ↦
        let stays : cut.table t.name ≡ true = keeps.tables t.name needed in
        rw (stays, needed) (λ j. table_same t j ∷ tables_same ts j)
    | inr idle ↦ elim (cases_Bool (cut.table t.name)) [
      | inl stays ↦ rw (stays, idle) (tables_same ts)
      | inr goes ↦ rw (goes, idle) (tables_same ts)
    ]
  ]

  pub tables_of_same : (mode : Mode) (tables : List Table) → tables_of mode events (cut_tables cut tables) ≡ tables_of mode events tables
  tables_of_same Included tables = tables_same tables
  tables_of_same Excluded tables = refl
