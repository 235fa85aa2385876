-- Facts about every joined package in memory, the limits of the layout's fields, and joined packages whose
-- counts of four bytes fit their fields.
use Rattle.std.specs.Prelude.{ℕ, ◌<◌, ◌^◌, List, length, Bool, ◌&&◌, ◌==◌}
use Rattle.std.specs.List.{list_all, AllByRecursion}
use Rattle.std.specs.Str.{IsUtf8}
use Rattle.package_codec.specs.Counts.{IsCountable, CountedList, CountedValue, CountedSchema, CountedFile}
use Rattle.package_codec.specs.Room.{fits_u16_count, schema_room}
use Rattle.package_codec.specs.Runs.{CountedEventRun, runs_of, trace_room}
pub use Rattle.package_codec.specs.CommonTables.{TypedCommonRow, TypedCommonTable}
use Rattle.package_codec.specs.Typed.{IsU32, TypedFile, TypedEvent}
use Rattle.package_codec.specs.declared.version.Version.TheVariants.{Two}
use Rattle.joined_data.specs.Types.{Table, TableRow}
use Rattle.joined_data.specs.declared.joined.Joined.{Joined}
use Rattle.joined_data.specs.declared.joined.JoinedRun.{JoinedRun}
use Rattle.joined_data.specs.declared.joined.Reason.{Reason}

-- ---- in memory

abbrev pub TypedReason : Reason → Type 0
TypedReason r = IsUtf8 r.table × (IsU32 r.row × IsU32 r.statement)

abbrev pub TypedTexts : List (List ℕ) → Type 0
TypedTexts = AllByRecursion IsUtf8

abbrev pub TypedNeeds : JoinedRun → Type 0
TypedNeeds run = TypedTexts run.wholes
    × (TypedTexts run.presents × (TypedTexts run.tables × AllByRecursion TypedReason run.reasons))

abbrev pub TypedRunNumbers : JoinedRun → Type 0
TypedRunNumbers run = (run.seed < 2 ^ 64) × (IsU32 run.steps × TypedNeeds run)

abbrev pub TypedBareRun : JoinedRun → Type 0
TypedBareRun run = TypedTexts run.start × TypedRunNumbers run

abbrev pub TypedJoinedRun : JoinedRun → Type 0
TypedJoinedRun run = TypedBareRun run × AllByRecursion TypedEvent run.events

abbrev pub IsTypedJoined : Joined → Type 0
IsTypedJoined j = AllByRecursion TypedFile j.files
    × (AllByRecursion TypedCommonTable j.tables × (TypedJoinedRun j.first × TypedJoinedRun j.second))

-- ---- counts of one and two bytes

abbrev pub common_row_room : ℕ → TableRow → Bool
common_row_room columns row = length row.values == columns

abbrev pub common_table_room : Table → Bool
common_table_room t = schema_room t.schema && list_all (common_row_room (length t.schema.columns)) t.rows

abbrev pub common_tables_room : List Table → Bool
common_tables_room tables = fits_u16_count tables && list_all common_table_room tables

abbrev pub bare_run_room : JoinedRun → Bool
bare_run_room run = fits_u16_count run.start && fits_u16_count run.tables

abbrev pub joined_run_room : JoinedRun → Bool
joined_run_room run = bare_run_room run && trace_room run.events

abbrev pub joined_room : Joined → Bool
joined_room j = common_tables_room j.tables && (joined_run_room j.first && joined_run_room j.second)

-- ---- counts of four bytes

abbrev pub CountedCommonRow : TableRow → Type 0
CountedCommonRow row = AllByRecursion CountedValue row.values

abbrev pub CountedCommonTable : Table → Type 0
CountedCommonTable t = IsCountable t.name × (CountedSchema Two t.schema × CountedList CountedCommonRow t.rows)

abbrev pub CountedReason : Reason → Type 0
CountedReason r = IsCountable r.table

abbrev pub CountedTexts : List (List ℕ) → Type 0
CountedTexts = AllByRecursion IsCountable

abbrev pub CountedPaths : List (List ℕ) → Type 0
CountedPaths = CountedList IsCountable

abbrev pub CountedNeeds : JoinedRun → Type 0
CountedNeeds run = CountedPaths run.wholes
    × (CountedPaths run.presents × (CountedTexts run.tables × CountedList CountedReason run.reasons))

abbrev pub CountedBareRun : JoinedRun → Type 0
CountedBareRun run = CountedTexts run.start × CountedNeeds run

abbrev pub CountedJoinedRun : JoinedRun → Type 0
CountedJoinedRun run = CountedBareRun run × CountedList CountedEventRun (runs_of run.events)

abbrev pub IsCountedJoined : Joined → Type 0
IsCountedJoined j = CountedList CountedFile j.files
    × (AllByRecursion CountedCommonTable j.tables × (CountedJoinedRun j.first × CountedJoinedRun j.second))
