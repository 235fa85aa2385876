-- A turn of the search: a place is taken out of the queue, and the edges to it are looked at.
use Rattle.std.proofs.Common.{◌≡◌, ◌∙◌, sym, ap, subst, arith, ℕ, ◌^◌, ◌<◌, ◌≤◌, true, List, [], ◌∷◌, length, Some, None, IsTrue}
use Rattle.std.specs.Prelude.{Contains, nat_lt, replicate}
use Rattle.std.specs.List.Sorted.{IsPermutation}
use Rattle.std.proofs.lemmas.Bool.{ltb-true, and_parts}
use Rattle.std.proofs.lemmas.List.Sums.{AllPass-from_list_all}
use Rattle.std.proofs.lemmas.List.Elements.{All-nil, All-cons, All-head, All-tail, All-filter, All-weaker, All-contains}
use Rattle.std.proofs.lemmas.List.Sorted.{All-permutation, length_permutation}
use Rattle.std.proofs.lemmas.List.{length-set, length-replicate, nil_from_length}
use Rattle.trace_graph.specs.Graph.{is_between, are_between}
use Rattle.reach.specs.Types.{Edge}
use Rattle.reach.specs.Found.{Times}
use Rattle.reach.specs.inner.Search.{Queue, is_current, times_after_visit, visited_queue, is_into, edges_into}
use Rattle.reach.specs.inner.Search.{ComeFrom, IsWithin, IsSearch, AreLatest, start_times, work_left}
use Rattle.reach.proofs.TimeLaws.{no_time}
use Rattle.reach.proofs.PathLaws.{in_limit}
use Rattle.reach.proofs.Standing.{current_at, permuted, start_stands, visited_stands}
use Rattle.reach.proofs.WorkLaws.{times_after_visit-length, visited_within, work_visited}

pub all_from : (count : ℕ) (edges : List Edge) → IsTrue (are_between count edges) → ComeFrom count edges
all_from count edges between =
    All-weaker (λ (e : Edge). is_between count e ≡ true) (λ (e : Edge). e.source < count)
    (λ e is. ltb-true e.source count (and_parts (nat_lt e.source count) (nat_lt e.target count) is).0)
    edges (AllPass-from_list_all (is_between count) edges between)

module _ (count : ℕ) (edges : List Edge) (between : IsTrue (are_between count edges)) (latest : Times) (queue left : Queue) (entry : ℕ × ℕ)
    (out : IsPermutation queue (entry ∷ left)) (long : length latest ≡ count) (within : IsWithin count queue) where
  abbrev out_within : IsWithin count (entry ∷ left)
  out_within = All-permutation (λ (x : ℕ × ℕ). x.1 < count) queue (entry ∷ left) out within

  place_within : entry.1 < count
  place_within = All-head (λ (x : ℕ × ℕ). x.1 < count) entry left out_within

  pub turn_place : entry.1 < length latest
  turn_place = omega (arith, place_within, long)

  into_from : ComeFrom count (edges_into edges entry.1)
  into_from = All-filter (is_into entry.1) (λ (e : Edge). e.source < count) edges (all_from count edges between)

  pub turn_from : ComeFrom (length latest) (edges_into edges entry.1)
  turn_from = subst (λ (n : ℕ). ComeFrom n (edges_into edges entry.1)) (sym long) into_from

  module _ (next : Times) (after : Queue) (next_is : next ≡ times_after_visit latest (edges_into edges entry.1) entry)
      (after_is : IsPermutation (visited_queue latest (edges_into edges entry.1) entry left) after) where
    pub turn_long : length next ≡ count
    turn_long = ap length next_is ∙ times_after_visit-length latest (edges_into edges entry.1) entry ∙ long

    pub turn_within : IsWithin count after
    turn_within =
        All-permutation (λ (x : ℕ × ℕ). x.1 < count) (visited_queue latest (edges_into edges entry.1) entry left) after after_is
        (visited_within count latest (edges_into edges entry.1) entry left into_from
        (All-tail (λ (x : ℕ × ℕ). x.1 < count) entry left out_within))

    before : (node limit : ℕ) → limit < 2 ^ 32 → IsSearch edges node limit latest queue [] 0 → is_current latest entry.0 entry.1 ≡ true → entry.0 < 2 ^ 32
    before node limit small stands is =
        let path = stands.known.sound entry.1 entry.0 (current_at latest entry is) in
        let late : entry.0 ≤ limit = in_limit edges node limit path.0 entry.1 entry.0 path.1 in
        omega (arith, late, small)

    pub turn_smaller : (node limit : ℕ) → limit < 2 ^ 32 → IsSearch edges node limit latest queue [] 0 → work_left next after < work_left latest queue
    turn_smaller node limit small stands =
        let in_time = λ (is : is_current latest entry.0 entry.1 ≡ true). before node limit small stands is in
        let less = work_visited latest (edges_into edges entry.1) entry left turn_from in_time in
        let same : length after ≡ length (visited_queue latest (edges_into edges entry.1) entry left) =
        length_permutation (visited_queue latest (edges_into edges entry.1) entry left) after after_is in
        let all : length (entry ∷ left) ≡ length queue = length_permutation queue (entry ∷ left) out in
        let now : work_left (times_after_visit latest (edges_into edges entry.1) entry) after ≤ work_left latest left = omega (arith, less, same) in
        let then : work_left next after ≤ work_left latest left =
        subst (λ (l : Times). work_left l after ≤ work_left latest left) (sym next_is) now in
        omega (arith, then, all)

    pub turn_stands : (node limit : ℕ) → IsSearch edges node limit latest queue [] 0 → IsSearch edges node limit next after [] 0
    turn_stands node limit stands =
        let sources = λ (e : Edge) (at : Contains edges e). subst (λ (n : ℕ). e.source < n) (sym long)
        (All-contains (λ (x : Edge). x.source < count) edges e (all_from count edges between) at) in
        subst (λ (l : Times). IsSearch edges node limit l after [] 0) (sym next_is)
        (permuted edges node limit (times_after_visit latest (edges_into edges entry.1) entry) (visited_queue latest (edges_into edges entry.1) entry left) after [] 0 after_is
        (visited_stands edges node limit latest queue left entry out sources stands))

-- ---- at first, and in the end

module _ (edges : List Edge) (node limit count : ℕ) (latest : Times) (queue : Queue) (within : node < count)
    (latest_is : latest ≡ start_times count node limit) (queue_is : IsPermutation ((limit, node) ∷ []) queue) where
  pub begin_long : length latest ≡ count
  begin_long = ap (λ (l : Times). length l) latest_is ∙ length-set (replicate count None) node (Some limit) ∙ length-replicate count no_time

  pub begin_within : IsWithin count queue
  begin_within =
      All-permutation (λ (x : ℕ × ℕ). x.1 < count) ((limit, node) ∷ []) queue queue_is
      (All-cons (λ (x : ℕ × ℕ). x.1 < count) (limit, node) [] within (All-nil (λ (x : ℕ × ℕ). x.1 < count)))

  pub begin_stands : IsSearch edges node limit latest queue [] 0
  begin_stands =
      permuted edges node limit latest ((limit, node) ∷ []) queue [] 0 queue_is
      (subst (λ (l : Times). IsSearch edges node limit l ((limit, node) ∷ []) [] 0) (sym latest_is) (start_stands edges node limit count within))

pub end_latest : (edges : List Edge) (node limit : ℕ) (latest : Times) (queue : Queue) → length queue ≡ 0
    → IsSearch edges node limit latest queue [] 0 → AreLatest edges node limit latest
end_latest edges node limit latest queue empty stands =
    subst (λ (q : Queue). IsSearch edges node limit latest q [] 0) (nil_from_length queue empty) stands
