-- The work that is left falls with each place that is taken out of the queue, and the queue's places are
-- those of the graph.
use Rattle.std.proofs.Common.{◌≡◌, ◌∙◌, sym, ap, subst, refl, arith, ℕ, ◌+◌, ◌-◌, ◌^◌, ◌<◌, ◌≤◌, Bool, true, false}
use Rattle.std.proofs.Common.{List, [], ◌∷◌, length, get_or, set, drop, Option, Some, None}
use Rattle.std.specs.Prelude.{sum_by, if◌then◌else◌}
use Rattle.std.specs.List.Sorted.{IsPermutation}
use Rattle.std.proofs.lemmas.Bool.{leb-false}
use Rattle.std.proofs.lemmas.List.Sums.{sum_by-set}
use Rattle.std.proofs.lemmas.List.Elements.{All-cons, All-head, All-tail}
use Rattle.std.proofs.lemmas.List.Sorted.{IsPermutation-cons, IsPermutation-trans}
use Rattle.std.proofs.lemmas.List.{drop_more}
use Rattle.reach.specs.Types.{Edge}
use Rattle.reach.specs.Found.{Times, time_at, reaches, last_by, is_later, times_with_source, room_of}
use Rattle.reach.specs.inner.Search.{Queue, queue_after_edge, times_with_sources, queue_after_edges}
use Rattle.reach.specs.inner.Search.{is_current}
use Rattle.reach.specs.inner.Search.{times_after_visit, visited_queue, ComeFrom, IsWithin, work_left}
use Rattle.reach.proofs.TimeLaws.{time_is, later_parts, raised_length}

-- ---- places

pub times_with_sources-length : (latest : Times) (es : List Edge) (time : ℕ) → length (times_with_sources latest es time) ≡ length latest
times_with_sources-length latest [] time = refl
times_with_sources-length latest (e ∷ es) time = times_with_sources-length (times_with_source latest e time) es time ∙ raised_length latest e time

pub times_after_visit-length : (latest : Times) (es : List Edge) (entry : ℕ × ℕ) → length (times_after_visit latest es entry) ≡ length latest
times_after_visit-length latest es entry = by (is_current latest entry.0 entry.1)
  where
    by : (b : Bool) → length (if b then times_with_sources latest es entry.0 else latest) ≡ length latest
    by true = times_with_sources-length latest es entry.0
    by false = refl

queued_within : (count : ℕ) (latest : Times) (e : Edge) (time : ℕ) (queue : Queue) → e.source < count → IsWithin count queue
    → IsWithin count (queue_after_edge latest e time queue)
queued_within count latest e time queue source within = by (is_later latest e time)
  where
    by : (b : Bool) → IsWithin count (if b then (last_by e time, e.source) ∷ queue else queue)
    by true = All-cons (λ (entry : ℕ × ℕ). entry.1 < count) (last_by e time, e.source) queue source within
    by false = within

queue_after_edges-within : (count : ℕ) (latest : Times) (es : List Edge) (time : ℕ) (queue : Queue) → ComeFrom count es → IsWithin count queue
    → IsWithin count (queue_after_edges latest es time queue)
queue_after_edges-within count latest [] time queue from within = within
queue_after_edges-within count latest (e ∷ es) time queue from within =
    queue_after_edges-within count (times_with_source latest e time) es time (queue_after_edge latest e time queue)
    (All-tail (λ (x : Edge). x.source < count) e es from)
    (queued_within count latest e time queue (All-head (λ (x : Edge). x.source < count) e es from) within)

pub visited_within : (count : ℕ) (latest : Times) (es : List Edge) (entry : ℕ × ℕ) (queue : Queue) → ComeFrom count es → IsWithin count queue
    → IsWithin count (visited_queue latest es entry queue)
visited_within count latest es entry queue from within = by (is_current latest entry.0 entry.1)
  where
    by : (b : Bool) → IsWithin count (if b then queue_after_edges latest es entry.0 queue else queue)
    by true = queue_after_edges-within count latest es entry.0 queue from within
    by false = within

-- ---- another order

queued_moved : (latest : Times) (e : Edge) (time : ℕ) (queue other : Queue) → IsPermutation queue other
    → IsPermutation (queue_after_edge latest e time queue) (queue_after_edge latest e time other)
queued_moved latest e time queue other same = by (is_later latest e time)
  where
    by : (b : Bool) → IsPermutation (if b then (last_by e time, e.source) ∷ queue else queue) (if b then (last_by e time, e.source) ∷ other else other)
    by true = IsPermutation-cons (last_by e time, e.source) queue other same
    by false = same

pub queue_after_edges-moved : (latest : Times) (es : List Edge) (time : ℕ) (queue other : Queue) → IsPermutation queue other
    → IsPermutation (queue_after_edges latest es time queue) (queue_after_edges latest es time other)
queue_after_edges-moved latest [] time queue other same = same
queue_after_edges-moved latest (e ∷ es) time queue other same =
    queue_after_edges-moved (times_with_source latest e time) es time (queue_after_edge latest e time queue) (queue_after_edge latest e time other) (queued_moved latest e time queue other same)

-- ---- work

pub room_falls : (limit new : ℕ) (o : Option ℕ) → new ≤ limit → reaches new o ≡ false → room_of limit (Some new) + 1 ≤ room_of limit o
room_falls limit new None within low = omega arith
room_falls limit new (Some t) within low = omega (arith, within, leb-false new t low)

-- what an edge brings that is later takes of the room
pub room_raised : (limit : ℕ) (latest : Times) (e : Edge) (time : ℕ) → e.source < length latest → time ≤ limit → is_later latest e time ≡ true
    → sum_by (room_of limit) (set latest e.source (Some (last_by e time))) + 1 ≤ sum_by (room_of limit) latest
room_raised limit latest e time within small is =
    let low = (later_parts latest e time is).1 in
    let falls : room_of limit (Some (last_by e time)) + 1 ≤ room_of limit (get_or latest e.source None) =
    subst (λ (o : Option ℕ). room_of limit (Some (last_by e time)) + 1 ≤ room_of limit o) (time_is latest e.source)
    (room_falls limit (last_by e time) (time_at latest e.source) (omega (arith, small)) low) in
    let total = sum_by-set (room_of limit) latest e.source (Some (last_by e time)) None within in
    omega (arith, falls, total)

work_looked : (latest : Times) (e : Edge) (time : ℕ) (queue : Queue) → e.source < length latest → time < 2 ^ 32
    → work_left (times_with_source latest e time) (queue_after_edge latest e time queue) ≤ work_left latest queue
work_looked latest e time queue within small = by (is_later latest e time) refl
  where
    by : (b : Bool) → is_later latest e time ≡ b
        → work_left (if b then set latest e.source (Some (last_by e time)) else latest) (if b then (last_by e time, e.source) ∷ queue else queue)
        ≤ work_left latest queue
    by true is = omega (arith, room_raised (2 ^ 32 - 1) latest e time within (omega (arith, small)) is)
    by false is = omega arith

work_all : (latest : Times) (es : List Edge) (time : ℕ) (queue : Queue) → ComeFrom (length latest) es → time < 2 ^ 32
    → work_left (times_with_sources latest es time) (queue_after_edges latest es time queue) ≤ work_left latest queue
work_all latest [] time queue from small = omega arith
work_all latest (e ∷ es) time queue from small =
    let first : work_left (times_with_source latest e time) (queue_after_edge latest e time queue) ≤ work_left latest queue =
    work_looked latest e time queue (All-head (λ (x : Edge). x.source < length latest) e es from) small in
    let others : work_left (times_with_sources (times_with_source latest e time) es time) (queue_after_edges (times_with_source latest e time) es time (queue_after_edge latest e time queue))
    ≤ work_left (times_with_source latest e time) (queue_after_edge latest e time queue) =
    work_all (times_with_source latest e time) es time (queue_after_edge latest e time queue)
    (subst (λ (n : ℕ). ComeFrom n es) (sym (raised_length latest e time)) (All-tail (λ (x : Edge). x.source < length latest) e es from)) small in
    omega (arith, first, others)

pub work_visited : (latest : Times) (es : List Edge) (entry : ℕ × ℕ) (queue : Queue) → ComeFrom (length latest) es
    → (is_current latest entry.0 entry.1 ≡ true → entry.0 < 2 ^ 32) → work_left (times_after_visit latest es entry) (visited_queue latest es entry queue) ≤ work_left latest queue
work_visited latest es entry queue from small = by (is_current latest entry.0 entry.1) refl
  where
    by : (b : Bool) → is_current latest entry.0 entry.1 ≡ b → work_left (if b then times_with_sources latest es entry.0 else latest) (if b then queue_after_edges latest es entry.0 queue else queue) ≤ work_left latest queue
    by true is = work_all latest es entry.0 queue from (small is)
    by false is = omega arith

-- ---- a turn of the loop over edges

pub look_more : (first : Times) (queue : Queue) (edges : List Edge) (time i : ℕ) (d : Edge) (latest : Times) (before : Queue) (next : Times) (after : Queue)
    → i < length edges → times_with_sources latest (drop i edges) time ≡ times_with_sources first edges time
    → IsPermutation (queue_after_edges first edges time queue) (queue_after_edges latest (drop i edges) time before)
    → next ≡ times_with_source latest (get_or edges i d) time → IsPermutation (queue_after_edge latest (get_or edges i d) time before) after
    → (times_with_sources next (drop (i + 1) edges) time ≡ times_with_sources first edges time)
    × IsPermutation (queue_after_edges first edges time queue) (queue_after_edges next (drop (i + 1) edges) time after)
look_more first queue edges time i d latest before next after within same moved next_is after_is =
    let edge : Edge = get_or edges i d in
    let rest : List Edge = drop (i + 1) edges in
    let split : drop i edges ≡ edge ∷ rest = drop_more edges i d within in
    let taken : times_with_sources latest (edge ∷ rest) time ≡ times_with_sources first edges time =
    subst (λ (es : List Edge). times_with_sources latest es time ≡ times_with_sources first edges time) split same in
    let put : IsPermutation (queue_after_edges first edges time queue) (queue_after_edges latest (edge ∷ rest) time before) =
    subst (λ (es : List Edge). IsPermutation (queue_after_edges first edges time queue) (queue_after_edges latest es time before)) split moved in
    let now : IsPermutation (queue_after_edges (times_with_source latest edge time) rest time (queue_after_edge latest edge time before)) (queue_after_edges (times_with_source latest edge time) rest time after) =
    queue_after_edges-moved (times_with_source latest edge time) rest time (queue_after_edge latest edge time before) after after_is in
    let joined : IsPermutation (queue_after_edges first edges time queue) (queue_after_edges (times_with_source latest edge time) rest time after) =
    IsPermutation-trans (queue_after_edges first edges time queue) (queue_after_edges latest (edge ∷ rest) time before) (queue_after_edges (times_with_source latest edge time) rest time after) put now in (
      ap (λ (l : Times). times_with_sources l rest time) next_is ∙ taken,
      subst (λ (l : Times). IsPermutation (queue_after_edges first edges time queue) (queue_after_edges l rest time after)) (sym next_is) joined,
    )
