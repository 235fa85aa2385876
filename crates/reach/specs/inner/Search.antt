-- The search for the latest times, which goes backwards from the node.
use Rattle.std.specs.Prelude.{◌≡◌, ℕ, ◌+◌, ◌-◌, ◌^◌, ◌⊎◌, List, [], ◌∷◌, Bool, true, false, ◌==◌}
use Rattle.std.specs.Prelude.{◌<◌, Option, None, Some, Contains, slice_set, length, sum_by, replicate}
use Rattle.std.specs.Prelude.{if◌then◌else◌}
use Rattle.std.specs.List.{filter, All}
use Rattle.reach.specs.Types.{Edge}
use Rattle.reach.specs.Reach.{Leg, IsPath}
use Rattle.reach.specs.Found.{Times, time_at, reaches, last_by, is_later, times_with_source, room_of}

-- ---- one edge

-- places whose edges are to be looked at, each with its latest time
abbrev pub Queue : Type 0
Queue = List (ℕ × ℕ)

abbrev pub queue_after_edge : Times → Edge → ℕ → Queue → Queue
queue_after_edge latest edge time queue =
    if is_later latest edge time then (last_by edge time, edge.source) ∷ queue else queue

abbrev pub is_into : ℕ → Edge → Bool
is_into place edge = edge.target == place

-- the edges to a place
abbrev pub edges_into : List Edge → ℕ → List Edge
edges_into edges place = filter (is_into place) edges

-- ---- the edges to a place

abbrev pub times_with_sources : Times → List Edge → ℕ → Times
times_with_sources latest [] time = latest
times_with_sources latest (edge ∷ edges) time = times_with_sources
    (times_with_source latest edge time) edges time

abbrev pub queue_after_edges : Times → List Edge → ℕ → Queue → Queue
queue_after_edges latest [] time queue = queue
queue_after_edges latest (edge ∷ edges) time queue =
    queue_after_edges (times_with_source latest edge time) edges time
    (queue_after_edge latest edge time queue)

abbrev pub is_time : ℕ → Option ℕ → Bool
is_time time None = false
is_time time (Some latest) = latest == time

-- a time is still the latest of its place
abbrev pub is_current : Times → ℕ → ℕ → Bool
is_current latest time place = is_time time (time_at latest place)

-- what is left of the queue's first place, its time and the edges to it
abbrev pub times_after_visit : Times → List Edge → ℕ × ℕ → Times
times_after_visit latest edges entry =
    if is_current latest entry.0 entry.1 then times_with_sources latest edges entry.0 else latest

abbrev pub visited_queue : Times → List Edge → ℕ × ℕ → Queue → Queue
visited_queue latest edges entry queue =
    if is_current latest entry.0 entry.1 then queue_after_edges latest edges entry.0 queue else queue

-- at first only the node has a time
abbrev pub start_times : ℕ → ℕ → ℕ → Times
start_times count node time = slice_set (replicate count None) node (Some time)

-- ---- within the places

abbrev pub ComeFrom : ℕ → List Edge → Type 0
ComeFrom count edges = All (λ edge. edge.source < count) edges

abbrev pub IsWithin : ℕ → Queue → Type 0
IsWithin count queue = All (λ entry. entry.1 < count) queue

-- ---- where the search stands

-- the edge makes its source no later
abbrev pub IsDone : Times → Edge → ℕ → Type 0
IsDone latest edge time = is_later latest edge time ≡ false

-- what leaves the place by the time gets to the node
abbrev pub HasPath : List Edge → ℕ → ℕ → ℕ → ℕ → Type 0
HasPath edges node limit place time = (legs : List Leg) × IsPath edges node limit place time legs

-- each edge to a place that has a time is done, or the place is in the queue with that time, or the edge is
-- among those that are looked at now, for the time that is given
abbrev pub ArePending : List Edge → Times → Queue → List Edge → ℕ → Type 0
ArePending edges latest queue rest now =
    (edge : Edge) → Contains edges edge → (time : ℕ) → time_at latest edge.target ≡ Some time
    → IsDone latest edge time ⊎ (Contains queue (time, edge.target) ⊎ (Contains rest edge × (time ≡ now)))

-- each time is that of a path, and the node may be left up to the limit
pub record AreKnown (edges : List Edge) (node limit : ℕ) (latest : Times) : Type 0 where
  pub sound : (place time : ℕ) → time_at latest place ≡ Some time → HasPath edges node limit place time
  pub start : reaches limit (time_at latest node) ≡ true

pub record IsSearch (edges : List Edge) (node limit : ℕ) (latest : Times) (queue : Queue) (rest : List Edge)
    (now : ℕ) : Type 0 where
  pub known : AreKnown edges node limit latest
  pub pending : ArePending edges latest queue rest now

-- each time is the latest: nothing is left to look at
abbrev pub AreLatest : List Edge → ℕ → ℕ → Times → Type 0
AreLatest edges node limit latest = IsSearch edges node limit latest [] [] 0

-- ---- how much is left

-- what falls with each place that is taken out of the queue. No time is above the limit
abbrev pub work_left : Times → Queue → ℕ
work_left latest queue = length queue + sum_by (room_of (2 ^ 32 - 1)) latest
