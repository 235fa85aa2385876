-- Valid traces: the rules for the events of a run, one after another.
use Rattle.std.specs.Prelude.{ℕ, ◌+◌, List, [], ◌∷◌, Bool, true, false, ◌&&◌, ◌==◌, nat_lt, nat_le}
use Rattle.std.specs.Prelude.{if◌then◌else◌, IsTrue, bytes_eq}
use Rattle.std.specs.List.{list_all}
use Rattle.ldv_value.specs.Limits.{max_processes}
use Rattle.ldv_value.specs.Names.{path_test}
use Rattle.ldv_value.specs.Sorted.{is_strictly_sorted, text_precedes}
use Rattle.sql_model.specs.SqlNames.{sql_name_test}
pub use Rattle.sql_model.specs.MemberOrder.{row_after_table, member_precedes, need_precedes}
use Rattle.run_model.specs.Acts.{is_spawn}
use Rattle.run_model.specs.declared.event.Act.TheVariants as acts
use Rattle.run_model.specs.Types.{Act, Event}

-- ---- events

-- how many processes are made and how many statements were asked before an event, and the step of the
-- event before it
pub record Progress : Type 0 where
  pub made : ℕ
  pub asked : ℕ
  pub step : ℕ

-- each path is valid, a child is a process that was made, at most max_processes are made, statements are
-- numbered from 0, and lists are strictly increasing
abbrev pub act_rule : Progress → Act → Bool
act_rule before (acts.Started path) = false
act_rule before (acts.Spawned path) = path_test path && nat_lt before.made max_processes
act_rule before (acts.Unspawned path found) = path_test path
act_rule before (acts.OpenedRead path) = path_test path
act_rule before (acts.OpenedWrite path) = path_test path
act_rule before (acts.OpenedAppend path found) = path_test path
act_rule before (acts.OpenedNew path) = path_test path
act_rule before (acts.Unopened path found) = path_test path
act_rule before (acts.Read path) = path_test path
act_rule before (acts.Wrote path) = path_test path
act_rule before (acts.Removed path) = path_test path
act_rule before (acts.Tested path found) = path_test path
act_rule before (acts.Waited child) = nat_lt child before.made
act_rule before (acts.Ended status) = true
act_rule before (acts.Asked statement tables reads made) =
    (statement == before.asked) && list_all sql_name_test tables && is_strictly_sorted text_precedes tables
    && is_strictly_sorted need_precedes reads && is_strictly_sorted member_precedes made

-- steps never decrease and end with the run, and the process is one that was made
abbrev pub event_rule : ℕ → Progress → Event → Bool
event_rule steps before e =
    nat_le before.step e.step && nat_le e.step steps && nat_lt e.process before.made && act_rule before e.act

abbrev pub made_after : ℕ → Act → ℕ
made_after made act = if is_spawn act then made + 1 else made

abbrev pub is_asked : Act → Bool
is_asked (acts.Started path) = false
is_asked (acts.Spawned path) = false
is_asked (acts.Unspawned path found) = false
is_asked (acts.OpenedRead path) = false
is_asked (acts.OpenedWrite path) = false
is_asked (acts.OpenedAppend path found) = false
is_asked (acts.OpenedNew path) = false
is_asked (acts.Unopened path found) = false
is_asked (acts.Read path) = false
is_asked (acts.Wrote path) = false
is_asked (acts.Removed path) = false
is_asked (acts.Tested path found) = false
is_asked (acts.Waited child) = false
is_asked (acts.Ended status) = false
is_asked (acts.Asked statement tables reads made) = true

abbrev pub asked_after : ℕ → Bool → ℕ
asked_after asked true = asked + 1
asked_after asked false = asked

abbrev pub progress_after : Progress → Event → Progress
progress_after before e = record {
  made = made_after before.made e.act;
  asked = asked_after before.asked (is_asked e.act);
  step = e.step;
}

-- the events after the first
abbrev pub follows : ℕ → Progress → List Event → Bool
follows steps before [] = true
follows steps before (e ∷ es) = event_rule steps before e && follows steps (progress_after before e) es

-- ---- traces

-- one process is made, no statement was asked, and steps are 1 at least
abbrev pub at_start : Progress
at_start = record { made = 1; asked = 0; step = 1 }

abbrev pub starts_on : List ℕ → Act → Bool
starts_on path (acts.Started started) = bytes_eq started path
starts_on path (acts.Spawned spawned) = false
starts_on path (acts.Unspawned other found) = false
starts_on path (acts.OpenedRead other) = false
starts_on path (acts.OpenedWrite other) = false
starts_on path (acts.OpenedAppend other found) = false
starts_on path (acts.OpenedNew other) = false
starts_on path (acts.Unopened other found) = false
starts_on path (acts.Read other) = false
starts_on path (acts.Wrote other) = false
starts_on path (acts.Removed other) = false
starts_on path (acts.Tested other found) = false
starts_on path (acts.Waited child) = false
starts_on path (acts.Ended status) = false
starts_on path (acts.Asked statement tables reads made) = false

-- the first event starts the first process on its path, at step 0
abbrev pub starts : List ℕ → Event → Bool
starts path e = (e.step == 0) && (e.process == 0) && starts_on path e.act

-- the events of a run that starts with a path and has the given number of steps
abbrev pub trace_test : List ℕ → ℕ → List Event → Bool
trace_test path steps [] = false
trace_test path steps (e ∷ es) = starts path e && follows steps at_start es

-- the table of each row that a statement read and of each version that it made has a name by the rule, as
-- those that it names have by act_rule
abbrev pub named_rule : Act → Bool
named_rule (acts.Started path) = true
named_rule (acts.Spawned path) = true
named_rule (acts.Unspawned path found) = true
named_rule (acts.OpenedRead path) = true
named_rule (acts.OpenedWrite path) = true
named_rule (acts.OpenedAppend path found) = true
named_rule (acts.OpenedNew path) = true
named_rule (acts.Unopened path found) = true
named_rule (acts.Read path) = true
named_rule (acts.Wrote path) = true
named_rule (acts.Removed path) = true
named_rule (acts.Tested path found) = true
named_rule (acts.Waited child) = true
named_rule (acts.Ended status) = true
named_rule (acts.Asked statement tables reads made) =
    list_all (λ n. sql_name_test n.member.table) reads && list_all (λ m. sql_name_test m.table) made

abbrev pub are_named : List Event → Bool
are_named events = list_all (λ e. named_rule e.act) events

-- Of a package `trace_test` is one of its rules, while the format takes only groups of rows whose tables are
-- named: a valid package's events are a valid trace.
abbrev pub ValidTrace : List ℕ → ℕ → List Event → Type 0
ValidTrace path steps events = IsTrue (trace_test path steps events && are_named events)

-- the events of some run
abbrev pub IsTrace : List Event → Type 0
IsTrace events = (path : List ℕ) × (steps : ℕ) × IsTrue (path_test path) × ValidTrace path steps events

-- how many statements were asked, after the given number of them
abbrev pub asked_among : ℕ → List Event → ℕ
asked_among asked [] = asked
asked_among asked (e ∷ es) = asked_among (asked_after asked (is_asked e.act)) es

abbrev pub asked_count : List Event → ℕ
asked_count events = asked_among 0 events
