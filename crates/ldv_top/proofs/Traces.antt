-- The events of a valid package are a trace.
use Rattle.std.proofs.Common.{◌≡◌, ℕ, List, [], ◌∷◌, refl, true, ◌&&◌}
use Rattle.std.specs.Prelude.{nat_le, length, IsTrue}
use Rattle.std.specs.List.{list_all}
use Rattle.ldv_value.specs.Names.{path_test}
use Rattle.ldv_value.proofs.Booleans.{and-parts, and-first, and-second, and-from, false≢true}
use Rattle.sql_model.specs.SqlNames.{sql_name_test}
use Rattle.run_model.specs.declared.event.Act.{Act}
use Rattle.run_model.specs.declared.event.Act.TheVariants as acts
use Rattle.run_model.specs.declared.event.Event.{Event}
use Rattle.run_model.specs.declared.package.Package.{Package}
use Rattle.run_model.specs.ValidTrace.{trace_test, named_rule, are_named, ValidTrace, IsTrace, asked_count}
use Rattle.run_model.specs.ValidPackage.{is_short_text, start_rule, files_rule, tables_rule, logs_rule, mode_rule, steps_rule, script_rule, trace_rule, reasons_rule, parts_rule, whole_rule, rules}
use Rattle.package_codec.specs.Events.{need_groups, needs_room, member_groups, members_room, act_room, event_room}
use Rattle.package_codec.specs.Parts.{need_table, member_table}
use Rattle.package_codec.specs.Room.{fits_u16_count, log_room}
use Rattle.package_codec.specs.Runs.{max_events, trace_room}
use Rattle.package_layout.specs.Whole.{tables_room, has_room}
use Rattle.package_layout.specs.Valid.{IsValidPackage}

-- the format has room for an act only where its tables have names
act_named : (act : Act) → act_room act ≡ true → named_rule act ≡ true
act_named (acts.Asked statement tables reads made) room =
    let groups = and-parts (needs_room reads) (members_room made) (and-second (fits_u16_count tables) (needs_room reads && members_room made) room) in
    and-from (list_all (λ n. sql_name_test (need_table n)) reads) (list_all (λ m. sql_name_test (member_table m)) made)
    (and-second (fits_u16_count (need_groups reads)) (list_all (λ n. sql_name_test (need_table n)) reads) groups.0)
    (and-second (fits_u16_count (member_groups made)) (list_all (λ m. sql_name_test (member_table m)) made) groups.1)
act_named other room = refl

events_named : (events : List Event) → list_all event_room events ≡ true → are_named events ≡ true
events_named [] room = refl
events_named (e ∷ es) room =
    let parts = and-parts (event_room e) (list_all event_room es) room in
    and-from (named_rule e.act) (are_named es) (act_named e.act parts.0) (events_named es parts.1)

-- a trace of so many steps, from some path
abbrev pub IsRun : ℕ → List Event → Type 0
IsRun steps events = (path : List ℕ) × IsTrue (path_test path) × ValidTrace path steps events

begins : (start : List (List ℕ)) (steps : ℕ) (events : List Event) → start_rule start ≡ true → trace_rule start steps events ≡ true
    → are_named events ≡ true → IsRun steps events
begins [] steps events start trace named = absurd (false≢true trace)
begins (word ∷ words) steps events start trace named =
    let path = and-first (path_test word) (nat_le (length words) 255) (and-first (path_test word && nat_le (length words) 255) (list_all is_short_text (word ∷ words)) start) in
    (word, path, and-from (trace_test word steps events) (are_named events) trace named)

module _ (p : Package) (valid : IsValidPackage p) where
  kept : rules p ≡ true
  kept = and-second (has_room p) (rules p) valid

  room : list_all event_room p.events ≡ true
  room =
      and-second (nat_le (length p.events) max_events) (list_all event_room p.events)
      (and-second (list_all log_room p.logs) (trace_room p.events)
      (and-second (tables_room p) (list_all log_room p.logs && trace_room p.events)
      (and-second (fits_u16_count p.start) (tables_room p && (list_all log_room p.logs && trace_room p.events)) (and-first (has_room p) (rules p) valid))))

  traced : (mode_rule p.mode p.tables p.logs && steps_rule p.steps && trace_rule p.start p.steps p.events) ≡ true
  traced =
      and-first (mode_rule p.mode p.tables p.logs && steps_rule p.steps && trace_rule p.start p.steps p.events) (reasons_rule (asked_count p.events) p.tables)
      (and-second (parts_rule p) (whole_rule p) (and-first (parts_rule p && whole_rule p) (script_rule p.start p.files) kept))

  begun : start_rule p.start ≡ true
  begun =
      and-first (start_rule p.start) (files_rule p.files)
      (and-first (start_rule p.start && files_rule p.files) (tables_rule p.tables)
      (and-first (start_rule p.start && files_rule p.files && tables_rule p.tables) (logs_rule p.logs)
      (and-first (parts_rule p) (whole_rule p) (and-first (parts_rule p && whole_rule p) (script_rule p.start p.files) kept))))

  pub valid_run : IsRun p.steps p.events
  valid_run =
      begins p.start p.steps p.events begun
      (and-second (mode_rule p.mode p.tables p.logs && steps_rule p.steps) (trace_rule p.start p.steps p.events) traced) (events_named p.events room)

  pub valid_steps : steps_rule p.steps ≡ true
  valid_steps =
      and-second (mode_rule p.mode p.tables p.logs) (steps_rule p.steps)
      (and-first (mode_rule p.mode p.tables p.logs && steps_rule p.steps) (trace_rule p.start p.steps p.events) traced)

pub valid_trace : (p : Package) → IsValidPackage p → IsTrace p.events
valid_trace p valid = let run = valid_run p valid in (run.0, p.steps, run.1, run.2)
