-- Packages whose traces are kept as runs.
use Rattle.std.specs.Prelude.{ℕ, List, Some}
use Rattle.std.specs.Int.{w32}
use Rattle.run_model.specs.declared.event.Event.{Event}
use Rattle.run_model.specs.declared.package.Package.{Package}
use Rattle.package_codec.specs.declared.trace.event_run.EventRun.{EventRun}
use Rattle.package_codec.specs.declared.compact_package.CompactPackage.{CompactPackage}
use Rattle.package_codec.specs.Events.{event_at}
use Rattle.package_codec.specs.Fields.{DecodeResult, made_at, list_at}
use Rattle.package_codec.specs.Runs.{event_run_at, runs_of, events_in}
use Rattle.package_codec.specs.Version.{Version, One, Two}

-- a package with another trace
abbrev pub with_events : Package → List Event → Package
with_events p events = record {
  mode = p.mode;
  start = p.start;
  seed = p.seed;
  steps = p.steps;
  files = p.files;
  tables = p.tables;
  logs = p.logs;
  events = events;
}

-- the package, with the events that the runs stand for
abbrev pub expanded_package : CompactPackage → Package
expanded_package r = with_events r.bare (events_in r.runs)

-- the runs of a trace
abbrev pub cut_at : Version → List ℕ → DecodeResult (List EventRun)
cut_at One = made_at (λ events. Some (runs_of events)) (list_at w32 event_at)
cut_at Two = list_at w32 event_run_at
