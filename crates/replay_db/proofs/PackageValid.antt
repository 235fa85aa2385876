-- If a run of a valid world has ended, its packages, included and excluded, are valid and typed.
use Rattle.std.proofs.Common.{◌≡◌, ℕ, suc, ◌+◌, ◌*◌, ◌≤◌, List, [], ◌∷◌, ◌++◌, length, map, Some, refl, ap, ◌∙◌, le_trans, Bool, true, ◌&&◌, IsTrue, nat_le, nat_lt, slice_get, arith}
use Rattle.std.specs.List.{list_all, AllByRecursion}
use Rattle.std.proofs.lemmas.Bool.{and_parts, and_from, le-leb}
use Rattle.std.proofs.lemmas.Bool.Decides.{nat_tests}
use Rattle.ldv_value.specs.Names.{path_test}
use Rattle.ldv_value.proofs.SameBytes.{bytes_eq-itself}
use Rattle.replay_db.specs.Types.{File, Instr, Started, Event, Log, Mode, Included, Excluded, Package, PackedTable, World}
use Rattle.run_model.specs.Events.{event_at, events, start_events}
use Rattle.run_model.specs.Package.{tables_of, logs_of_mode, package_of}
use Rattle.run_model.specs.Slice.{Whole, file_need, files_needed, tables_needed}
use Rattle.run_model.specs.SqlDatabase.{sql_base}
use Rattle.run_model.specs.Start.{start_script, start_state}
use Rattle.run_model.specs.WorldRun.{ends_within, steps_by, events_in, events_within, logs_by}
use Rattle.sql_model.specs.Tables.{tables_test}
use Rattle.package_codec.specs.Events.{TypedEvent, event_room}
use Rattle.package_codec.specs.Room.{fits_u16_count, table_room, log_room}
use Rattle.package_codec.specs.Runs.{max_events, trace_room}
use Rattle.run_model.specs.RunLaw.{WorldEventsLaw}
use Rattle.package_codec.specs.inner.Trace.{asked_count}
use Rattle.package_codec.specs.Typed.{IsU32, TypedTable, TypedLog}
use Rattle.package_layout.specs.Valid.{is_short_text, start_rule, files_rule, tables_rule, logs_rule, mode_rule, script_rule, is_script_file, steps_rule, trace_rule, reasons_rule, parts_rule, whole_rule, rules, IsValidPackage}
use Rattle.package_layout.specs.Whole.{IsTyped, tables_room, has_room}
use Rattle.value_laws.specs.Steps.{GoodLogs, StepsLaw}
use Rattle.replay_db.specs.Worlds.{all_of_file, all_of_world, TypedWorld, world_rules, ValidWorld, TypedFor, ValidPackageLaw, TypedPackageLaw}
use Rattle.replay_db.proofs.PackageLogs.{logs_valid, logs_roomy, logs_typed}
use Rattle.replay_db.proofs.PackageValidParts.{files_valid, whole_found, tables_valid}
use Rattle.replay_db.proofs.PackageValidTyped.{files_typed, tables_typed}
use Rattle.replay_db.proofs.TableRooms.{rooms_met}
use Rattle.run_laws.proofs.RunSteps.{steps_at_most}
use Rattle.run_laws.proofs.SliceLaws.{packed_parents}
use Rattle.replay_db.proofs.TraceValid.{trace_is, steps_at_least_one, reasons_valid, room_is, typed_is}
use Rattle.run_model.proofs.ValidWorlds.{Ruled, ruled_by, RuledList, ruled_list, world_tables}
use Rattle.replay_db.proofs.WorldValues.{good_world}
use Rattle.run_laws.proofs.EndedLaw.{ended_starts}

-- ---- start words

one_more : (count : ℕ) → nat_le count 255 ≡ true → nat_lt (suc count) 65536 ≡ true
one_more count within = grind (arith, nat_tests)

start_room : (start : List (List ℕ)) → start_rule start ≡ true → fits_u16_count start ≡ true
start_room [] met = cc
start_room (word ∷ words) met =
    let parts = and_parts (path_test word && nat_le (length words) 255) (list_all is_short_text (word ∷ words)) met in
    let first = and_parts (path_test word) (nat_le (length words) 255) parts.0 in
    one_more (length words) first.1

tables_few : (count : ℕ) → nat_le count 256 ≡ true → nat_lt count 65536 ≡ true
tables_few count within = grind (arith, nat_tests)

-- ---- the script

-- the file that is started is needed whole
started_whole : (word : List ℕ) (later : List Event) → file_need word (event_at 0 0 (Started word) ∷ later) ≡ Some Whole
started_whole word later = rw (bytes_eq-itself word) refl

script_still : (start : List (List ℕ)) (later events : List Event) (files : List File) → events ≡ start_events (slice_get start 0) ++ later → script_rule start (map all_of_file files) ≡ true → script_rule start (files_needed events files) ≡ true
script_still [] later events files begins met = cc
script_still (word ∷ words) later events files begins met =
    let whole : file_need word events ≡ Some Whole = ap (file_need word) begins ∙ started_whole word later in
    ap is_script_file (whole_found events word whole files) ∙ met

-- ---- steps

steps_between : (count n : ℕ) → 1 ≤ count → count ≤ n → n ≤ 10000000 → steps_rule count ≡ true
steps_between count n least most less = and_from (nat_le 1 count) (nat_le count 10000000) (le-leb 1 count least) (le-leb count 10000000 (le_trans most less))

steps_small : (count n : ℕ) → count ≤ n → n ≤ 10000000 → IsU32 count
steps_small count n most less = omega arith

some_events : (count n : ℕ) → count ≤ 2 * n + 1 → n ≤ 10000000 → nat_le count max_events ≡ true
some_events count n two less = le-leb count max_events (omega (arith, two, less))

-- ---- tables and logs

-- what is asked of those of a package, where so many statements were asked
record Packed (mode : Mode) (asked : ℕ) (tables : List PackedTable) (logs : List Log) : Type 0 where
  ruled : tables_rule tables ≡ true
  room : (fits_u16_count tables && list_all table_room tables) ≡ true
  reasons : reasons_rule asked tables ≡ true
  logs_ruled : logs_rule logs ≡ true
  logs_room : list_all log_room logs ≡ true
  moded : mode_rule mode tables logs ≡ true

-- ---- a run

module _ (n : ℕ) (w : World) (met : IsTrue (world_rules w)) (valid : tables_test w.tables ≡ true) (less : n ≤ 10000000) (script : List Instr)
    (is : start_script w ≡ Some script) (ended : ends_within n w ≡ true) (steps_law : StepsLaw) (events_law : WorldEventsLaw) where
  abbrev happened : List Event
  happened = events_within n w

  abbrev later : List Event
  later = events sql_base n 1 [] (start_state w script)

  begins : happened ≡ start_events (slice_get w.start 0) ++ later
  begins = ap (events_in n [] w) is

  ruled : Ruled (all_of_world w)
  ruled = ruled_by (all_of_world w) met

  steps_valid : steps_rule (steps_by n [] w) ≡ true
  steps_valid = steps_between (steps_by n [] w) n (steps_at_least_one n [] w script is ended) (steps_at_most n [] w) less

  -- ---- what was needed, and what was asked and told

  needed : Packed Included (asked_count happened) (tables_needed happened w.tables) []
  needed =
      let tables : List PackedTable = tables_needed happened w.tables in
      let rule : tables_rule tables ≡ true = tables_valid happened w.tables ruled.tables (packed_parents n w valid) in
      let list : RuledList tables = ruled_list tables rule in
      record {
        ruled = rule;
        room = and_from (fits_u16_count tables) (list_all table_room tables) (tables_few (length tables) list.few) (rooms_met tables rule);
        reasons = reasons_valid n [] w script is valid met;
        logs_ruled = refl;
        logs_room = refl;
        moded = refl;
      }

  logs_good : TypedWorld w → GoodLogs (logs_by n [] w)
  logs_good typed = steps_law n [] w (good_world w (record { typed = typed; ruled = met }))

  told : GoodLogs (logs_by n [] w) → Packed Excluded (asked_count happened) [] (logs_by n [] w)
  told good = record {
    ruled = refl;
    room = refl;
    reasons = refl;
    logs_ruled = logs_valid (logs_by n [] w) good;
    logs_room = logs_roomy (logs_by n [] w) good;
    moded = refl;
  }

  packed : (mode : Mode) → TypedFor mode w
      → Packed mode (asked_count happened) (tables_of mode happened w.tables) (logs_of_mode mode n [] w)
  packed Included typed = needed
  packed Excluded typed = told (logs_good typed)

  -- ---- all of a package

  module _ (mode : Mode) where
    abbrev p : Package
    p = package_of mode n w

    abbrev Parts : Type 0
    Parts = Packed mode (asked_count happened) p.tables p.logs

    -- two events a step at most, and one at the start
    few_events : nat_le (length p.events) max_events ≡ true
    few_events = some_events (length p.events) n (events_law n [] w).1 less

    has_room_for : Parts → has_room p ≡ true
    has_room_for parts =
        and_from (fits_u16_count p.start) (tables_room p && (list_all log_room p.logs && trace_room p.events)) (start_room p.start ruled.start)
        (and_from (tables_room p) (list_all log_room p.logs && trace_room p.events) parts.room
        (and_from (list_all log_room p.logs) (trace_room p.events) parts.logs_room
        (and_from (nat_le (length p.events) max_events) (list_all event_room p.events) few_events (room_is n [] w script is valid met))))

    parts_met : Parts → parts_rule p ≡ true
    parts_met parts =
        let files : files_rule p.files ≡ true = files_valid p.events w.files ruled.files in
        and_from (start_rule p.start && files_rule p.files && tables_rule p.tables) (logs_rule p.logs)
        (and_from (start_rule p.start && files_rule p.files) (tables_rule p.tables) (and_from (start_rule p.start) (files_rule p.files) ruled.start files) parts.ruled) parts.logs_ruled

    whole_met : Parts → whole_rule p ≡ true
    whole_met parts =
        let moded : Bool = mode_rule p.mode p.tables p.logs in
        let trace : trace_rule p.start p.steps p.events ≡ true = trace_is n [] w script is valid met in
        and_from (moded && steps_rule p.steps && trace_rule p.start p.steps p.events) (reasons_rule (asked_count p.events) p.tables)
        (and_from (moded && steps_rule p.steps) (trace_rule p.start p.steps p.events) (and_from moded (steps_rule p.steps) parts.moded steps_valid) trace) parts.reasons

    rules_met : Parts → rules p ≡ true
    rules_met parts =
        let starts : script_rule p.start p.files ≡ true = script_still w.start later p.events w.files begins ruled.script in
        and_from (parts_rule p && whole_rule p) (script_rule p.start p.files) (and_from (parts_rule p) (whole_rule p) (parts_met parts) (whole_met parts)) starts

    run_valid : TypedFor mode w → IsValidPackage p
    run_valid typed =
        let parts : Parts = packed mode typed in
        and_from (has_room p) (rules p) (has_room_for parts) (rules_met parts)

  -- ---- types

  module _ (t : TypedWorld w) where
    asked_typed : AllByRecursion TypedEvent happened
    asked_typed = typed_is n [] w script is valid met t less

    tables_are : (mode : Mode) → AllByRecursion TypedTable (tables_of mode happened w.tables)
    tables_are Included = tables_typed happened asked_typed w.tables t.1.1.1.1.0
    tables_are Excluded = tt

    logs_are : (mode : Mode) → AllByRecursion TypedLog (logs_of_mode mode n [] w)
    logs_are Included = tt
    logs_are Excluded = logs_typed (logs_by n [] w) (logs_good t)

    run_typed : (mode : Mode) → IsTyped (package_of mode n w)
    run_typed mode =
        (t.0, (t.1.0, (steps_small (steps_by n [] w) n (steps_at_most n [] w) less, (files_typed happened w.files t.1.1.1.0, (tables_are mode, (logs_are mode, asked_typed))))))

-- ---- the laws

-- a valid world has what each mode asks
pub typed_for : (mode : Mode) (w : World) → ValidWorld w → TypedFor mode w
typed_for Included w valid = tt
typed_for Excluded w valid = valid.typed

pub valid_package : StepsLaw → WorldEventsLaw → ValidPackageLaw
valid_package steps_law events_law mode n w met valid typed less ended =
    let script = ended_starts n [] w ended in
    run_valid n w met valid less script.0 script.1 ended steps_law events_law mode typed

pub typed_package : StepsLaw → WorldEventsLaw → TypedPackageLaw
typed_package steps_law events_law mode n w valid less ended =
    let script = ended_starts n [] w ended in
    run_typed n w valid.ruled (world_tables w valid) less script.0 script.1 ended steps_law events_law valid.typed mode
