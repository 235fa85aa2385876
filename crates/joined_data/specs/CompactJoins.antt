-- Joined packages whose traces are kept as runs: joining two packages, spelling and reading, without a list
-- of events.
use Rattle.std.specs.Prelude.{◌≡◌, ℕ, List, ◌++◌, length, ◌==◌, Option, Some, None, Result, Ok, Err}
use Rattle.std.specs.Prelude.{if◌then◌else◌}
use Rattle.std.specs.Int.{w32}
use Rattle.package_codec.specs.declared.compact_package.CompactPackage.{CompactPackage}
use Rattle.package_codec.specs.Fields.{DecodeResult, ◌>>=◌, both_at, made_at, list_at, list_spelling}
use Rattle.package_codec.specs.declared.trace.event_run.EventRun.{EventRun}
use Rattle.package_codec.specs.Runs.{events_in, event_run_spelling}
use Rattle.package_codec.specs.Runs.{event_run_at as trace_run_at}
use Rattle.joined_data.specs.Types.{PackedFile, Table}
use Rattle.joined_data.specs.declared.joined.Clash.{Clash}
use Rattle.joined_data.specs.declared.joined.Joined.{Joined}
use Rattle.joined_data.specs.declared.joined.JoinedRun.{JoinedRun}
use Rattle.joined_data.specs.declared.joined.Which.{Which}
use Rattle.joined_data.specs.declared.joined.Which.TheVariants.{First, Second}
use Rattle.joined_data.specs.declared.joining.JoinStop.{JoinStop}
use Rattle.joined_data.specs.declared.joining.JoinStop.TheVariants as join_stops
use Rattle.joined_data.specs.declared.compact_joined.CompactRun.{CompactRun}
use Rattle.joined_data.specs.declared.compact_joined.CompactJoined.{CompactJoined}
use Rattle.joined_data.specs.Joined.{joined_of, picked_package}
use Rattle.joined_data.specs.Layout.{bare_run_at, bare_run_spelling, common_files_at, common_files_spelling}
use Rattle.joined_data.specs.Layout.{common_tables_at, common_tables_spelling, with_trace}

-- ---- with the events that the runs stand for

abbrev pub whole_run : CompactRun → JoinedRun
whole_run r = with_trace r.bare (events_in r.runs)

abbrev pub whole_join : CompactJoined → Joined
whole_join r = record {
  files = r.files;
  tables = r.tables;
  first = whole_run r.first;
  second = whole_run r.second;
}

-- ---- bytes

abbrev pub compact_run_spelling : CompactRun → List ℕ
compact_run_spelling r = bare_run_spelling r.bare ++ list_spelling w32 event_run_spelling r.runs

abbrev pub both_compact_spelling : CompactJoined → List ℕ
both_compact_spelling r = compact_run_spelling r.first ++ compact_run_spelling r.second

-- all between the magic and the digest
abbrev pub compact_sections : CompactJoined → List ℕ
compact_sections r = common_files_spelling r.files
    ++ (common_tables_spelling r.tables ++ both_compact_spelling r)

abbrev pub compact_run_at : List ℕ → DecodeResult CompactRun
compact_run_at =
    made_at (λ r. Some (record { bare = r.0; runs = r.1 })) (both_at bare_run_at (list_at w32 trace_run_at))

abbrev pub compact_joined_at : List ℕ → DecodeResult CompactJoined
compact_joined_at =
    made_at (λ j. Some (record { files = j.0; tables = j.1.0; first = j.1.1.0; second = j.1.1.1 }))
    (both_at common_files_at (both_at common_tables_at (both_at compact_run_at compact_run_at)))

-- all of the bytes
abbrev pub compact_joined_of : List ℕ → Option CompactJoined
compact_joined_of bytes = do
  r ← compact_joined_at bytes
  if length r.1 == 0 then Some r.0 else None

-- ---- the packages of both runs, and what they are joined to

abbrev pub compact_run_of : Which → CompactJoined → CompactRun
compact_run_of First r = r.first
compact_run_of Second r = r.second

abbrev pub picked_run : CompactRun → List PackedFile → List Table → CompactPackage
picked_run run files tables = record { bare = picked_package run.bare files tables; runs = run.runs }

abbrev pub picked_runs : Which → CompactJoined → CompactPackage
picked_runs which r = picked_run (compact_run_of which r) r.files r.tables

-- with the runs of both traces
abbrev pub with_runs : List EventRun → List EventRun → Joined → CompactJoined
with_runs first second j = record {
  files = j.files;
  tables = j.tables;
  first = record { bare = j.first; runs = first };
  second = record { bare = j.second; runs = second };
}

abbrev pub if_rejoined : List EventRun → List EventRun → Result Joined Clash → Option CompactJoined
if_rejoined first second (Ok j) = Some (with_runs first second j)
if_rejoined first second (Err clash) = None

abbrev pub join_of_packages : CompactPackage → CompactPackage → Option CompactJoined
join_of_packages a b = if_rejoined a.runs b.runs (joined_of a.bare b.bare)

-- ---- what a call returns

-- the result is the one that is due of two packages whose traces are kept as runs, or memory ran out
abbrev pub CompactJoinsAs : Result CompactJoined JoinStop → Result Joined Clash → Type 0
CompactJoinsAs (Ok r) due = due ≡ Ok (whole_join r)
CompactJoinsAs (Err (join_stops.Clash clash)) due = due ≡ Err clash
CompactJoinsAs (Err join_stops.NoMemory) due = Unit {0}

-- what is due of the packages without their traces, with the runs of both
abbrev pub JoinsWithRuns : List EventRun → List EventRun
    → Result CompactJoined JoinStop → Result Joined Clash → Type 0
JoinsWithRuns first second (Ok r) due = if_rejoined first second due ≡ Some r
JoinsWithRuns first second (Err (join_stops.Clash clash)) due = due ≡ Err clash
JoinsWithRuns first second (Err join_stops.NoMemory) due = Unit {0}
