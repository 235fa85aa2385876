-- The bytes of a package of each version; the digest comes last.
use Rattle.std.specs.Prelude.{ℕ, zero, suc, List, [], ◌++◌, length, Bool, ◌&&◌, ◌==◌, Option, Some}
use Rattle.std.specs.Prelude.{None, if◌then◌else◌}
use Rattle.std.specs.List.{list_all}
use Rattle.std.specs.Int.{w8, w16, w32, w64, to_be_bytes}
use Rattle.sha2.specs.Sha256.{sha256}
use Rattle.run_model.specs.declared.event.Event.{Event}
use Rattle.run_model.specs.declared.package.Mode.{Mode}
use Rattle.run_model.specs.declared.package.Mode.TheVariants.{Included, Excluded}
use Rattle.run_model.specs.declared.package.Package.{Package}
use Rattle.package_codec.specs.Fields.{DecodeResult, ◌>>=◌, both_at, made_at, number_at, list_at, list_spelling}
use Rattle.package_codec.specs.Spelling.{file_spelling, table_spelling, log_spelling}
pub use Rattle.package_codec.specs.Typed.{TypedParts, TypedNumbers, IsTyped}
use Rattle.package_codec.specs.Room.{fits_u16_count, table_room, log_room}
use Rattle.package_codec.specs.Reading.{file_at, table_at, log_at}
use Rattle.package_codec.specs.Events.{names_spelling, names_at, event_spelling, event_at}
use Rattle.package_codec.specs.CompactPackages.{with_events}
use Rattle.package_codec.specs.declared.version.Version.{Version}
use Rattle.package_codec.specs.declared.version.Version.TheVariants.{One, Two}
use Rattle.package_codec.specs.Version.{magic}
use Rattle.package_codec.specs.Runs.{runs_spelling, runs_at, trace_room, few_events}

-- ---- spelling

abbrev pub mode_number : Mode → ℕ
mode_number Included = 1
mode_number Excluded = 2

abbrev pub mode_spelling : Mode → List ℕ
mode_spelling mode = to_be_bytes w8 (mode_number mode)

abbrev pub trace_spelling : Version → List Event → List ℕ
trace_spelling One = list_spelling w32 event_spelling
trace_spelling Two = runs_spelling

-- the files, tables and logs
abbrev pub parts : Version → Package → List ℕ
parts version p =
    list_spelling w32 file_spelling p.files
    ++ (list_spelling w16 (table_spelling version) p.tables
    ++ list_spelling w32 log_spelling p.logs)

-- all after the start words but the trace
abbrev pub numbers : Version → Package → List ℕ
numbers version p = to_be_bytes w64 p.seed ++ (to_be_bytes w32 p.steps ++ parts version p)

-- all between the magic and the trace
abbrev pub bytes_before_trace : Version → Package → List ℕ
bytes_before_trace version p = mode_spelling p.mode ++ (names_spelling p.start ++ numbers version p)

-- all between the magic and the digest
abbrev pub sections : Version → Package → List ℕ
sections version p = bytes_before_trace version p ++ trace_spelling version p.events

abbrev pub body : Version → Package → List ℕ
body version p = magic version ++ sections version p

abbrev pub spelling_as : Version → Package → List ℕ
spelling_as version p = body version p ++ sha256 (body version p)

-- of the version that is written
abbrev pub spelling : Package → List ℕ
spelling p = spelling_as Two p

-- ---- what the format has room for

abbrev pub tables_room : Package → Bool
tables_room p = fits_u16_count p.tables && list_all table_room p.tables

abbrev pub has_room : Package → Bool
has_room p =
    fits_u16_count p.start
    && (tables_room p && (list_all log_room p.logs && trace_room p.events))

-- ---- reading

abbrev pub mode_of : ℕ → Option Mode
mode_of zero = None
mode_of (suc zero) = Some Included
mode_of (suc (suc zero)) = Some Excluded
mode_of (suc (suc (suc n))) = None

abbrev pub mode_at : List ℕ → DecodeResult Mode
mode_at = made_at mode_of (number_at w8)

abbrev pub trace_at : Version → List ℕ → DecodeResult (List Event)
trace_at One = made_at few_events (list_at w32 event_at)
trace_at Two = runs_at

-- all but the trace
abbrev pub bare_at : Version → List ℕ → DecodeResult Package
bare_at version =
    made_at
    (λ p. Some (record {
      mode = p.0;
      start = p.1.0;
      seed = p.1.1.0;
      steps = p.1.1.1.0;
      files = p.1.1.1.1.0;
      tables = p.1.1.1.1.1.0;
      logs = p.1.1.1.1.1.1;
      events = [];
    }))
    (both_at mode_at (both_at names_at (both_at (number_at w64) (both_at (number_at w32)
    (both_at (list_at w32 file_at) (both_at (list_at w16 (table_at version)) (list_at w32 log_at)))))))

abbrev pub sections_at : Version → List ℕ → DecodeResult Package
sections_at version = made_at (λ p. Some (with_events p.0 p.1)) (both_at (bare_at version) (trace_at version))

-- all of the bytes
abbrev pub all_of : Version → List ℕ → Option Package
all_of version bytes = do
  p ← sections_at version bytes
  if length p.1 == 0 then Some p.0 else None
