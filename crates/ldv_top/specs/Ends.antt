-- The promises of the program for each exit, by its words, its source and its sink.
--
-- These facts are known about a stream: the bytes left in a source or taken by a sink, if they are reported,
-- and the count of its faults.
use Rattle.std.specs.Prelude.{◌≡◌, ◌≢◌, ◌⊎◌, ◌↔◌, ◌≤◌, ℕ, List, [], true, false, Option, Some, None}
use Rattle.std.specs.Io.KnownBytes.{IsAtEnd}
use Rattle.ldv_io.specs.Causes.{Rose}
use Rattle.joined_data.specs.declared.joined.Joined.{Joined}
use Rattle.joined_data.specs.declared.joined.Which.{Which}
use Rattle.package_join.specs.Layout.{joined_spelling}
use Rattle.package_join.specs.Worlds.{joined_world}
use Rattle.run_model.specs.declared.package.Mode.{Mode}
use Rattle.run_model.specs.declared.package.Mode.TheVariants.{Excluded}
use Rattle.run_model.specs.declared.package.Package.{Package}
use Rattle.run_model.specs.declared.world.World.{World}
use Rattle.run_model.specs.WorldRun.{events_within, steps_by}
use Rattle.free_order.specs.Private.{private_test}
use Rattle.ldv_top.specs.Comes.{IsInput, Comes, IsQuiet}
use Rattle.ldv_top.specs.declared.command.Command.TheVariants.{Record, Replay, ReplaySeed, Inspect, Migrate}
use Rattle.ldv_top.specs.declared.command.Command.TheVariants.{Join, ProvDepends, ReplayRun}
use Rattle.ldv_top.specs.declared.command.Report.TheVariants.{Depends as DependsOn}
use Rattle.ldv_top.specs.declared.exit.Exit.{Exit}
use Rattle.ldv_top.specs.declared.exit.Exit.TheVariants.{Done, Usage, ReadFault, WriteFault, NoMemory}
use Rattle.ldv_top.specs.Due.{DueOutput, due_of, due_record, due_spelling, due_world}
use Rattle.ldv_top.specs.DueOfMigrations.{due_migrate}
use Rattle.ldv_top.specs.DueOfReports.{due_inspect, report_due}
use Rattle.ldv_top.specs.Headline.{IsPackageOf, IsRecording}
use Rattle.ldv_top.specs.Migrated.{IsMigration}
use Rattle.ldv_top.specs.ProvReported.{IsDocumentOf, due_by_names, due_by_numbers}
use Rattle.ldv_top.specs.Reported.{Depends}
use Rattle.ldv_top.specs.TwoRuns.{IsJoinOf, IsJoinedInput, IsPair, its_due, its_steps, two_joined}
use Rattle.ldv_top.specs.Words.{command_of, reads}

-- What comes of a response that is due, in a sink before and after it is written.
pub record Responds {Writer : Type 0}
    (taken : Writer → Option (List ℕ)) (faults : Writer → ℕ)
    (response : DueOutput) (sink after : Writer) (exit : Exit)
    : Type 0 where
  -- the exit is the one that is due, and Done has written its bytes
  pub due : Comes response exit (taken sink) (taken after)
  -- a fault comes only if the sink's count of faults increased, or stands at its greatest value
  pub write_fault : exit ≡ WriteFault → Rose (faults sink) (faults after)
  pub unwritten : IsQuiet exit → after ≡ sink
  pub not_read : exit ≢ ReadFault
  pub not_usage : exit ≢ Usage

-- What comes of the words, with a source and a sink before and after the call.
pub record Ends {Reader Writer : Type 0}
    (left : Reader → Option (List ℕ)) (read_faults : Reader → ℕ)
    (taken : Writer → Option (List ℕ)) (write_faults : Writer → ℕ)
    (words : List (List ℕ)) (source source_after : Reader) (sink sink_after : Writer) (exit : Exit)
    : Type 0 where
  -- the words are judged first: Usage comes exactly where they are no command
  pub usage : (exit ≡ Usage) ↔ (command_of words ≡ None)
  -- without a command that reads, nothing is read
  pub unread : reads (command_of words) ≡ false → source_after ≡ source
  -- a fault comes only if the stream's count of faults increased, or stands at its greatest value
  pub read_fault : exit ≡ ReadFault → Rose (read_faults source) (read_faults source_after)
  pub write_fault : exit ≡ WriteFault → Rose (write_faults sink) (write_faults sink_after)
  -- every other exit is the one that is due, and Done has written its bytes; only out of memory may come in
  -- its place
  pub due : (input : List ℕ) → IsInput (reads (command_of words)) (left source) input
      → Comes (due_of (command_of words) input) exit (taken sink) (taken sink_after)
  pub unwritten : IsQuiet exit → sink_after ≡ sink
  pub all_read : exit ≡ Done → reads (command_of words) ≡ true → IsAtEnd (left source_after)
  -- what is due to be done is done, where nothing fails
  pub complete : (input : List ℕ) → IsInput (reads (command_of words)) (left source) input
      → (due_of (command_of words) input).exit ≡ Done
      → (Rose (read_faults source) (read_faults source_after) → ⊥)
      → (Rose (write_faults sink) (write_faults sink_after) → ⊥)
      → (exit ≡ Done) ⊎ (exit ≡ NoMemory)
  -- what was recorded of a document is the package of its world, with what the run needed and no more
  pub recorded : (mode : Mode) (budget : ℕ) (document : List ℕ) → command_of words ≡ Some (Record mode budget)
      → left source ≡ Some document → exit ≡ Done
      → IsRecording mode budget document (due_record mode budget document).bytes
  -- the package of a valid world, in either version, is replayed as the world is run, within at least the
  -- steps of that run
  pub headline : (mode : Mode) (n budget : ℕ) (w : World) (input : List ℕ)
      → command_of words ≡ Some (Replay budget) → left source ≡ Some input → IsPackageOf mode n w input
      → steps_by n [] w ≤ budget → Comes (due_world n w) exit (taken sink) (taken sink_after)
  -- that of the recorded replies is replayed so under every seed, where no path that one of the world's
  -- processes changes is named by another
  pub reseeded : (n seed budget : ℕ) (w : World) (input : List ℕ)
      → command_of words ≡ Some (ReplaySeed seed budget) → left source ≡ Some input
      → IsPackageOf Excluded n w input → private_test (events_within n w) ≡ true
      → steps_by n [] w ≤ budget → Comes (due_world n w) exit (taken sink) (taken sink_after)
  -- what was migrated is the same package in the version that is written
  pub migrated : (input : List ℕ) → command_of words ≡ Some Migrate → left source ≡ Some input → exit ≡ Done
      → IsMigration input (due_migrate input).bytes
  -- what a path depends on are the nodes from which a path of the graph leads to it, and no others
  pub depends : (path input : List ℕ) → command_of words ≡ Some (Inspect (DependsOn path))
      → left source ≡ Some input → exit ≡ Done → Depends path input (due_inspect (DependsOn path) input).bytes
  -- what a package's document says of a path are the nodes that the report on the package names, in the same
  -- order, with processes by their creation numbers
  pub documented : (p : Package) (path input : List ℕ) → command_of words ≡ Some (ProvDepends path)
      → left source ≡ Some input → IsDocumentOf p input
      → (report_due (DependsOn path) p ≡ due_by_names p path)
      × Comes (due_by_numbers p path) exit (taken sink) (taken sink_after)
  -- the packages of two valid worlds with the same files and tables, each in either version, are joined
  -- without a clash
  pub joins : (n m : ℕ) (v w : World) (input : List ℕ) → command_of words ≡ Some Join
      → left source ≡ Some input → IsPair n m v w input
      → Comes (due_spelling (joined_spelling (two_joined n m v w))) exit (taken sink) (taken sink_after)
  -- and each run of what they are joined to is replayed as its world is run
  pub joined : (which : Which) (n m budget : ℕ) (v w : World) (input : List ℕ)
      → command_of words ≡ Some (ReplayRun which budget) → left source ≡ Some input → IsJoinOf n m v w input
      → its_steps which n m v w ≤ budget
      → Comes (its_due which n m v w) exit (taken sink) (taken sink_after)
  -- of any valid joined package the world of the run is run
  pub chosen : (which : Which) (budget : ℕ) (j : Joined) (input : List ℕ)
      → command_of words ≡ Some (ReplayRun which budget) → left source ≡ Some input → IsJoinedInput j input
      → Comes (due_world budget (joined_world which j)) exit (taken sink) (taken sink_after)
