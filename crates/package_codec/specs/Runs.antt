-- Runs of a trace: neighbouring events of one process and one act, whose steps are evenly apart.
use Rattle.std.specs.Prelude.{ℕ, zero, suc, ◌+◌, ◌-◌, ◌*◌, ◌^◌, List, [], ◌∷◌, ◌++◌, length, map, Bool}
use Rattle.std.specs.Prelude.{true, not}
use Rattle.std.specs.Prelude.{◌&&◌, ◌||◌, ◌==◌, nat_le, nat_lt, bytes_eq, Option, Some, None, if◌then◌else◌}
use Rattle.std.specs.Prelude.{◌≡◌, IsTrue}
use Rattle.std.specs.List.{flat_map, list_all}
use Rattle.std.specs.Int.{w32, to_be_bytes}
use Rattle.run_model.specs.declared.event.Act.{Act}
use Rattle.run_model.specs.declared.event.Act.TheVariants as acts
use Rattle.run_model.specs.declared.event.Event.{Event}
use Rattle.run_model.specs.Acts.{named_path}
use Rattle.run_model.specs.Package.{or_empty}
use Rattle.run_model.specs.ValidTrace.{is_asked}
pub use Rattle.package_codec.specs.declared.trace.event_run.EventRun.{EventRun}
pub use Rattle.package_codec.specs.declared.trace.event_run.Begun.{Begun}
use Rattle.package_codec.specs.Fields.{DecodeResult, both_at, made_at, number_at, list_at, list_spelling}
use Rattle.package_codec.specs.Typed.{IsU32, TypedEvent}
use Rattle.package_codec.specs.Events.{event_spelling, event_room, event_at, flag_number}
use Rattle.package_codec.specs.Counts.{CountedEvent}

-- the most events of a package
abbrev pub max_events : ℕ
max_events = 20000001

-- ---- the same act: its kind, its path and its number, which is a flag, a child or a status

-- Kinds are compared with one another alone, so any distinct numbers would do. The format's byte for an act
-- is in act_spelling: it stays as it is, whatever the kinds are.
abbrev pub act_kind : Act → ℕ
act_kind (acts.Started path) = 0
act_kind (acts.Spawned path) = 1
act_kind (acts.Unspawned path found) = 2
act_kind (acts.OpenedRead path) = 3
act_kind (acts.OpenedWrite path) = 4
act_kind (acts.OpenedAppend path found) = 5
act_kind (acts.OpenedNew path) = 6
act_kind (acts.Unopened path found) = 7
act_kind (acts.Read path) = 8
act_kind (acts.Wrote path) = 9
act_kind (acts.Removed path) = 10
act_kind (acts.Tested path found) = 11
act_kind (acts.Waited child) = 12
act_kind (acts.Ended status) = 13
act_kind (acts.Asked statement tables reads made) = 14

abbrev pub act_path : Act → List ℕ
act_path act = or_empty (named_path act)

abbrev pub act_number : Act → ℕ
act_number (acts.Started path) = 0
act_number (acts.Spawned path) = 0
act_number (acts.Unspawned path found) = flag_number found
act_number (acts.OpenedRead path) = 0
act_number (acts.OpenedWrite path) = 0
act_number (acts.OpenedAppend path found) = flag_number found
act_number (acts.OpenedNew path) = 0
act_number (acts.Unopened path found) = flag_number found
act_number (acts.Read path) = 0
act_number (acts.Wrote path) = 0
act_number (acts.Removed path) = 0
act_number (acts.Tested path found) = flag_number found
act_number (acts.Waited child) = child
act_number (acts.Ended status) = status
act_number (acts.Asked statement tables reads made) = 0

-- The statements of a trace are numbered, so no two Asked acts are the same.
abbrev pub same_act : Act → Act → Bool
same_act a b =
    not (is_asked a) && (act_kind a == act_kind b)
    && bytes_eq (act_path a) (act_path b) && (act_number a == act_number b)

abbrev pub is_alike : Event → Event → Bool
is_alike a b = (a.process == b.process) && same_act a.act b.act

-- ---- from events to runs, by a run that has begun and the step of its last event

abbrev pub run_of_one : Event → Begun
run_of_one e = record { run = record { first = e; count = 1; stride = 0 }; last = e.step }

-- the event is the next one of the run
abbrev pub joins : Begun → Event → Bool
joins b e =
    is_alike b.run.first e && nat_le b.last e.step
    && ((b.run.count == 1) || (e.step - b.last == b.run.stride))

abbrev pub run_with_event : Begun → Event → Begun
run_with_event b e = record {
  run = record { first = b.run.first; count = b.run.count + 1; stride = e.step - b.last };
  last = e.step;
}

-- the run that has begun goes on as long as the events let it
abbrev pub runs_from : Begun → List Event → List EventRun
runs_from b [] = b.run ∷ []
runs_from b (e ∷ es) = if joins b e then runs_from (run_with_event b e) es
    else b.run ∷ runs_from (run_of_one e) es

abbrev pub runs_of : List Event → List EventRun
runs_of [] = []
runs_of (e ∷ es) = runs_from (run_of_one e) es

-- ---- from runs to events

-- a number of steps from the first on, each a stride after the one before
abbrev pub steps_from : ℕ → ℕ → ℕ → List ℕ
steps_from step stride zero = []
steps_from step stride (suc n) = step ∷ steps_from (step + stride) stride n

abbrev pub at_step : Event → ℕ → Event
at_step e step = record { step = step; process = e.process; act = e.act }

abbrev pub run_events : EventRun → List Event
run_events r = map (at_step r.first) (steps_from r.first.step r.stride r.count)

abbrev pub events_in : List EventRun → List Event
events_in rs = flat_map run_events rs

abbrev pub total : List EventRun → ℕ
total [] = 0
total (r ∷ rs) = r.count + total rs

-- ---- which runs are those of their events

abbrev pub last_step : EventRun → ℕ
last_step r = r.first.step + (r.count - 1) * r.stride

abbrev pub begun_by : EventRun → Begun
begun_by r = record { run = r; last = last_step r }

-- a run has an event; one of a single event has no stride, and only an act that can be there twice has more
abbrev pub is_formed : EventRun → Bool
is_formed r = nat_le 1 r.count && (if r.count == 1 then r.stride == 0 else not (is_asked r.first.act))

-- and its steps fit their type
abbrev pub is_run : EventRun → Bool
is_run r = is_formed r && nat_lt (last_step r) (2 ^ 32)

-- the next run begins with an event that doesn't go on with this one
abbrev pub stops_before : EventRun → List EventRun → Bool
stops_before r [] = true
stops_before r (q ∷ qs) = not (joins (begun_by r) q.first)

abbrev pub are_longest : List EventRun → Bool
are_longest [] = true
are_longest (r ∷ rs) = stops_before r rs && are_longest rs

-- runs stand for events, and each is as long as the events let it
pub record IsCutOf (events : List Event) (runs : List EventRun) : Type 0 where
  pub stands : events_in runs ≡ events
  pub formed : IsTrue (list_all is_formed runs)
  pub longest : IsTrue (are_longest runs)

-- the runs are those of their own events
abbrev pub IsCut : List EventRun → Type 0
IsCut runs = runs ≡ runs_of (events_in runs)

-- they are, and there are few enough of these events
abbrev pub are_runs : List EventRun → Bool
are_runs rs = nat_le (total rs) max_events && list_all is_run rs && are_longest rs

abbrev pub events_of_runs : List EventRun → Option (List Event)
events_of_runs rs = if are_runs rs then Some (events_in rs) else None

-- ---- bytes

abbrev pub event_run_spelling : EventRun → List ℕ
event_run_spelling r = event_spelling r.first ++ (to_be_bytes w32 r.count ++ to_be_bytes w32 r.stride)

abbrev pub TypedEventRun : EventRun → Type 0
TypedEventRun r = TypedEvent r.first × (IsU32 r.count × IsU32 r.stride)

abbrev pub CountedEventRun : EventRun → Type 0
CountedEventRun r = CountedEvent r.first

abbrev pub event_run_room : EventRun → Bool
event_run_room r = event_room r.first

abbrev pub event_run_at : List ℕ → DecodeResult EventRun
event_run_at =
    made_at (λ r. Some (record { first = r.0; count = r.1.0; stride = r.1.1 }))
    (both_at event_at (both_at (number_at w32) (number_at w32)))

abbrev pub runs_spelling : List Event → List ℕ
runs_spelling es = list_spelling w32 event_run_spelling (runs_of es)

abbrev pub runs_at : List ℕ → DecodeResult (List Event)
runs_at = made_at events_of_runs (list_at w32 event_run_at)

-- the format has room for a number of events
abbrev pub trace_room : List Event → Bool
trace_room es = nat_le (length es) max_events && list_all event_room es

-- the same of a trace that is written event by event
abbrev pub few_events : List Event → Option (List Event)
few_events es = if nat_le (length es) max_events then Some es else None
