-- The counts of four bytes of a package that fit their fields, by the version: a trace is written event by
-- event or in runs.
use Rattle.std.specs.Prelude.{List}
use Rattle.std.specs.List.{AllByRecursion}
use Rattle.run_model.specs.declared.event.Event.{Event}
use Rattle.run_model.specs.declared.package.Package.{Package}
use Rattle.package_codec.specs.Counts.{IsCountable, CountedList, CountedFile, CountedTable, CountedLog}
use Rattle.package_codec.specs.Counts.{CountedEvent}
use Rattle.package_codec.specs.Runs.{runs_of, CountedEventRun}
use Rattle.package_codec.specs.declared.version.Version.{Version}
use Rattle.package_codec.specs.declared.version.Version.TheVariants.{One, Two}

abbrev pub CountedTrace : Version → List Event → Type 0
CountedTrace One events = CountedList CountedEvent events
CountedTrace Two events = CountedList CountedEventRun (runs_of events)

abbrev pub CountedParts : Version → Package → Type 0
CountedParts version p =
    CountedList CountedFile p.files × (AllByRecursion (CountedTable version) p.tables
    × (CountedList CountedLog p.logs × CountedTrace version p.events))

abbrev pub IsCounted : Version → Package → Type 0
IsCounted version p = AllByRecursion IsCountable p.start × CountedParts version p
