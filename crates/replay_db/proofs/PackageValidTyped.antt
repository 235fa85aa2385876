-- The parts that events need have numbers that fit their types, and texts of UTF-8.
use Rattle.std.proofs.Common.{◌≡◌, ℕ, ◌∷◌, List, [], map, Option, Some, None, option_map, sym, subst, inl, inr}
use Rattle.std.specs.List.{AllByRecursion}
use Rattle.std.specs.Option.{option_or}
use Rattle.std.proofs.lemmas.Bool.{cases_Bool}
use Rattle.replay_db.specs.Types.{File, Need, Table, TableRow, Act, Asked, Event, PackedFile, PackedRow}
use Rattle.run_model.specs.Slice.{FileNeed, Whole, Present, file_need, packed_as, packed_file, files_needed, Reason, is_read, reason_in, act_reason, first_reason, packed_row, packed_table, tables_needed}
use Rattle.package_codec.specs.Events.{TypedAct, TypedEvent}
use Rattle.package_codec.specs.Typed.{IsU32, TypedValues, TypedFile, TypedRow, TypedTable}
use Rattle.replay_db.specs.Worlds.{all_of_file, all_of_row, all_of_table}
use Rattle.replay_db.proofs.PackageValidLists.{types_stay}
use Rattle.replay_db.proofs.PackageValidParts.{KeptRow, row_kept, table_kept, tables_as, table_is}

-- ---- files

file_typed : (file : File) (need : Option FileNeed) (y : PackedFile) → option_map (packed_as file) need ≡ Some y → TypedFile (all_of_file file) → TypedFile y
file_typed file None y is typed = cc
file_typed file (Some Whole) y is typed = let same : all_of_file file ≡ y = cc in subst TypedFile same typed
file_typed file (Some Present) y is typed = let same : packed_as file Present ≡ y = cc in subst TypedFile same typed

pub files_typed : (events : List Event) (files : List File) → AllByRecursion TypedFile (map all_of_file files) → AllByRecursion TypedFile (files_needed events files)
files_typed events files typed = types_stay all_of_file (packed_file events) TypedFile (λ file y is. file_typed file (file_need file.path events) y is) files typed

-- ---- the statement for which a row is needed

reason_typed : (statement : ℕ) (table : List ℕ) (row : ℕ) (needs : List Need) (reason : Reason) → IsU32 statement → reason_in statement table row needs ≡ Some reason → IsU32 reason.statement
reason_typed statement table row [] reason typed is = cc
reason_typed statement table row (need ∷ needs) reason typed is = elim (cases_Bool (is_read table row need)) [
  | inl hit ↦
      let found : Some (record { statement = statement; rule = need.rule }) ≡ Some reason = rw hit at is in
      let same : record { statement = statement; rule = need.rule } ≡ reason = cc in
      subst (λ (r : Reason). IsU32 r.statement) same typed
  | inr miss ↦ reason_typed statement table row needs reason typed (rw miss at is)
]

act_typed : (table : List ℕ) (row : ℕ) (act : Act) (reason : Reason) → TypedAct act → act_reason table row act ≡ Some reason → IsU32 reason.statement
act_typed table row (Asked statement tables needs made) reason typed is = reason_typed statement table row needs reason typed.0 is
act_typed table row other reason typed is = cc

either_typed : (first later : Option Reason) (reason : Reason) → (first ≡ Some reason → IsU32 reason.statement) → (later ≡ Some reason → IsU32 reason.statement) → option_or first later ≡ Some reason → IsU32 reason.statement
either_typed None later reason one rest is = rest is
either_typed (Some r) later reason one rest is = one is

first_typed : (table : List ℕ) (row : ℕ) (events : List Event) (reason : Reason) → AllByRecursion TypedEvent events → first_reason table row events ≡ Some reason → IsU32 reason.statement
first_typed table row [] reason typed is = cc
first_typed table row (e ∷ es) reason typed is =
    either_typed (act_reason table row e.act) (first_reason table row es) reason (act_typed table row e.act reason typed.0.1.1) (first_typed table row es reason typed.1) is

-- ---- rows and tables

module _ (events : List Event) (asked : AllByRecursion TypedEvent events) where
  row_typed : (table : List ℕ) (row : TableRow) (y : PackedRow) → packed_row events table row ≡ Some y → TypedRow (all_of_row row) → TypedRow y
  row_typed table row y is typed =
      let kept : KeptRow row (first_reason table row.number events) y = row_kept row (first_reason table row.number events) y is in (
        subst IsU32 (sym kept.number) typed.0,
        (first_typed table row.number events (record { statement = y.statement; rule = y.rule }) asked kept.why, subst TypedValues (sym kept.values) typed.1.1),
      )

  table_typed : (table : Table) → TypedTable (all_of_table table) → TypedTable (packed_table events table)
  table_typed table typed = (typed.0, (typed.1.0, (typed.1.1.0, types_stay all_of_row (packed_row events table.name) TypedRow (row_typed table.name) table.rows typed.1.1.1)))

  pub tables_typed : (tables : List Table) → AllByRecursion TypedTable (map all_of_table tables) → AllByRecursion TypedTable (tables_needed events tables)
  tables_typed tables typed =
      subst (AllByRecursion TypedTable) (sym (tables_as events tables))
      (types_stay all_of_table (table_kept events) TypedTable (λ table y is met. subst TypedTable (sym (table_is events table y is)) (table_typed table met)) tables typed)
