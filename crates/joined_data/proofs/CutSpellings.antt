-- A joined package whose traces are kept as runs has the spelling of the same package with its events.
use Rattle.std.proofs.Common.{◌≡◌, ◌++◌}
use Rattle.std.specs.Int.{w32}
use Rattle.package_codec.specs.Fields.{list_spelling}
use Rattle.package_codec.specs.Runs.{IsCut, events_in, event_run_spelling, runs_of}
use Rattle.joined_data.specs.declared.compact_joined.CompactJoined.{CompactJoined}
use Rattle.joined_data.specs.Layout.{bare_run_spelling, common_files_spelling, common_tables_spelling, joined_sections}
use Rattle.joined_data.specs.CompactJoins.{whole_join, compact_sections}

-- both traces are spelled as their runs
pub cuts_spelled : (r : CompactJoined) → IsCut r.first.runs → IsCut r.second.runs → compact_sections r ≡ joined_sections (whole_join r)
cuts_spelled r first second =
    let one : r.first.runs ≡ runs_of (events_in r.first.runs) = first in
    let two : r.second.runs ≡ runs_of (events_in r.second.runs) = second in
    λ i. common_files_spelling r.files
    ++ (common_tables_spelling r.tables
    ++ ((bare_run_spelling r.first.bare ++ list_spelling w32 event_run_spelling (one i))
    ++ (bare_run_spelling r.second.bare ++ list_spelling w32 event_run_spelling (two i))))
