-- The bytes of a joined package between its magic and its digest, and how they are read: files, tables as in
-- a package but without reasons of rows, and the two runs.
use Rattle.std.specs.Prelude.{ℕ, List, [], ◌++◌, length, Option, Some, None, ◌==◌, if◌then◌else◌}
use Rattle.std.specs.Int.{w16, w32, w64, to_be_bytes}
pub use Rattle.package_codec.specs.CommonTables.{common_row_spelling, common_rows_spelling}
pub use Rattle.package_codec.specs.CommonTables.{common_table_spelling, common_row_at, common_rows_at}
pub use Rattle.package_codec.specs.CommonTables.{common_table_at}
use Rattle.package_codec.specs.Events.{names_spelling, names_at}
use Rattle.package_codec.specs.Fields.{DecodeResult, ◌>>=◌, both_at, made_at, number_at, list_at, text_at}
use Rattle.package_codec.specs.Fields.{text_spelling, list_spelling}
use Rattle.package_codec.specs.Reading.{file_at, reason_at}
use Rattle.package_codec.specs.Runs.{runs_spelling, runs_at}
use Rattle.package_codec.specs.Spelling.{file_spelling, reason_spelling}
use Rattle.joined_data.specs.Types.{Event, PackedFile, Table}
use Rattle.joined_data.specs.declared.joined.Joined.{Joined}
use Rattle.joined_data.specs.declared.joined.JoinedRun.{JoinedRun}
use Rattle.joined_data.specs.declared.joined.Reason.{Reason}

-- ---- spelling

-- which run needs a row, and why, stands at the run
abbrev pub named_reason_spelling : Reason → List ℕ
named_reason_spelling reason =
    text_spelling reason.table ++ (to_be_bytes w32 reason.row ++ reason_spelling reason.statement reason.rule)

-- many texts
abbrev pub paths_spelling : List (List ℕ) → List ℕ
paths_spelling = list_spelling w32 text_spelling

-- what a run needs
abbrev pub needs_spelling : JoinedRun → List ℕ
needs_spelling run =
    paths_spelling run.wholes
    ++ (paths_spelling run.presents
    ++ (names_spelling run.tables ++ list_spelling w32 named_reason_spelling run.reasons))

-- its seed, its steps and what it needs
abbrev pub numbers_spelling : JoinedRun → List ℕ
numbers_spelling run = to_be_bytes w64 run.seed ++ (to_be_bytes w32 run.steps ++ needs_spelling run)

-- all but its trace
abbrev pub bare_run_spelling : JoinedRun → List ℕ
bare_run_spelling run = names_spelling run.start ++ numbers_spelling run

abbrev pub run_spelling : JoinedRun → List ℕ
run_spelling run = bare_run_spelling run ++ runs_spelling run.events

abbrev pub both_runs_spelling : Joined → List ℕ
both_runs_spelling j = run_spelling j.first ++ run_spelling j.second

abbrev pub common_files_spelling : List PackedFile → List ℕ
common_files_spelling = list_spelling w32 file_spelling

abbrev pub common_tables_spelling : List Table → List ℕ
common_tables_spelling = list_spelling w16 common_table_spelling

-- all between the magic and the digest
abbrev pub joined_sections : Joined → List ℕ
joined_sections j =
    common_files_spelling j.files ++ (common_tables_spelling j.tables ++ both_runs_spelling j)

-- ---- reading

abbrev pub named_reason_at : List ℕ → DecodeResult Reason
named_reason_at =
    made_at (λ r. Some (record { table = r.0; row = r.1.0; statement = r.1.1.0; rule = r.1.1.1 }))
    (both_at text_at (both_at (number_at w32) reason_at))

abbrev pub paths_at : List ℕ → DecodeResult (List (List ℕ))
paths_at = list_at w32 text_at

-- all of a run but its trace
abbrev pub bare_run_at : List ℕ → DecodeResult JoinedRun
bare_run_at =
    made_at
    (λ r. Some (record {
      start = r.0;
      seed = r.1.0;
      steps = r.1.1.0;
      wholes = r.1.1.1.0;
      presents = r.1.1.1.1.0;
      tables = r.1.1.1.1.1.0;
      reasons = r.1.1.1.1.1.1;
      events = [];
    }))
    (both_at names_at (both_at (number_at w64) (both_at (number_at w32)
    (both_at paths_at (both_at paths_at (both_at names_at (list_at w32 named_reason_at)))))))

-- a run with another trace
abbrev pub with_trace : JoinedRun → List Event → JoinedRun
with_trace run events = record {
  start = run.start;
  seed = run.seed;
  steps = run.steps;
  wholes = run.wholes;
  presents = run.presents;
  tables = run.tables;
  reasons = run.reasons;
  events = events;
}

abbrev pub run_at : List ℕ → DecodeResult JoinedRun
run_at = made_at (λ r. Some (with_trace r.0 r.1)) (both_at bare_run_at runs_at)

abbrev pub common_files_at : List ℕ → DecodeResult (List PackedFile)
common_files_at = list_at w32 file_at

abbrev pub common_tables_at : List ℕ → DecodeResult (List Table)
common_tables_at = list_at w16 common_table_at

abbrev pub joined_at : List ℕ → DecodeResult Joined
joined_at =
    made_at (λ j. Some (record { files = j.0; tables = j.1.0; first = j.1.1.0; second = j.1.1.1 }))
    (both_at common_files_at (both_at common_tables_at (both_at run_at run_at)))

-- all of the bytes
abbrev pub all_of_joined : List ℕ → Option Joined
all_of_joined bytes = do
  j ← joined_at bytes
  if length j.1 == 0 then Some j.0 else None
