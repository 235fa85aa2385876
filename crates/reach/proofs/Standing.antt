-- The state of the search: at first, after an edge, and after a place.
use Rattle.std.proofs.Common.{◌≡◌, ◌∙◌, sym, ap, subst, refl, inl, inr, ◌⊎◌, arith, ℕ, ◌<◌, ◌≤◌, Bool, true, false}
use Rattle.std.proofs.Common.{List, [], ◌∷◌, length, set, Option, Some, None}
use Rattle.std.specs.Prelude.{Contains, replicate, if◌then◌else◌}
use Rattle.std.specs.List.Sorted.{IsPermutation}
use Rattle.std.proofs.lemmas.Bool.{false≢true, cases_eq, cases_lt, eqb-true, eq-eqb}
use Rattle.std.proofs.lemmas.Option.{none-some, same_Some}
use Rattle.std.proofs.lemmas.List.{length-replicate, get_or-replicate, get_or_past}
use Rattle.std.proofs.lemmas.List.Sorted.{Contains-permutation}
use Rattle.reach.specs.Types.{Edge}
use Rattle.reach.specs.Reach.{Leg, Leaves}
use Rattle.reach.specs.Found.{Times, time_at, reaches, last_by, is_later, times_with_source}
use Rattle.reach.specs.inner.Search.{Queue, queue_after_edge, times_with_sources, queue_after_edges, is_time}
use Rattle.reach.specs.inner.Search.{is_current, times_after_visit, visited_queue, start_times, is_into}
use Rattle.reach.specs.inner.Search.{edges_into}
use Rattle.reach.specs.inner.Search.{IsDone, HasPath, ArePending, AreKnown, IsSearch}
use Rattle.reach.proofs.Members.{in_nil, in_head, in_tail, in_cons, in_same, in_filter, from_filter}
use Rattle.reach.proofs.TimeLaws.{no_time, time_is, reaches_at, later_parts, later_falls, not_later, set_there, set_elsewhere, set_rises, raised_length}
use Rattle.reach.proofs.PathLaws.{earlier}

same_entry : (a b c d : ℕ) → a ≡ c → b ≡ d → ◌≡◌ {A = ℕ × ℕ} (a, b) (c, d)
same_entry a b c d first second = λ j. (first j, second j)

pub current_at : (latest : Times) (entry : ℕ × ℕ) → is_current latest entry.0 entry.1 ≡ true → time_at latest entry.1 ≡ Some entry.0
current_at latest entry is = by (time_at latest entry.1) is
  where
    by : (o : Option ℕ) → is_time entry.0 o ≡ true → o ≡ Some entry.0
    by None is = absurd (false≢true is)
    by (Some t) is = ap Some (eqb-true t entry.0 is)

-- ---- the same, of other queues

module _ (edges : List Edge) (node limit : ℕ) where
  pub permuted : (latest : Times) (queue other : Queue) (rest : List Edge) (now : ℕ) → IsPermutation queue other
      → IsSearch edges node limit latest queue rest now → IsSearch edges node limit latest other rest now
  permuted latest queue other rest now same stands = record {
    known = stands.known;
    pending = λ edge among time is. moved edge time (stands.pending edge among time is);
  }
    where
      moved : (edge : Edge) (time : ℕ) → IsDone latest edge time ⊎ (Contains queue (time, edge.target) ⊎ (Contains rest edge × (time ≡ now)))
          → IsDone latest edge time ⊎ (Contains other (time, edge.target) ⊎ (Contains rest edge × (time ≡ now)))
      moved edge time (inl done) = inl done
      moved edge time (inr (inl at)) = inr (inl (Contains-permutation queue other (time, edge.target) same at))
      moved edge time (inr (inr more)) = inr (inr more)

  pub rested : (latest : Times) (queue : Queue) (now later : ℕ)
      → IsSearch edges node limit latest queue [] now → IsSearch edges node limit latest queue [] later
  rested latest queue now later stands = record {
    known = stands.known;
    pending = λ edge among time is. moved edge time (stands.pending edge among time is);
  }
    where
      moved : (edge : Edge) (time : ℕ) → IsDone latest edge time ⊎ (Contains queue (time, edge.target) ⊎ (Contains [] edge × (time ≡ now)))
          → IsDone latest edge time ⊎ (Contains queue (time, edge.target) ⊎ (Contains [] edge × (time ≡ later)))
      moved edge time (inl done) = inl done
      moved edge time (inr (inl at)) = inr (inl at)
      moved edge time (inr (inr more)) = in_nil edge more.0

  -- ---- at first

  module _ (count : ℕ) (within : node < count) where
    short : node < length (replicate count no_time)
    short = subst (λ (n : ℕ). node < n) (sym (length-replicate count None)) within

    there : (place : ℕ) → place ≡ node → time_at (start_times count node limit) place ≡ Some limit
    there = set_there (replicate count None) node limit short

    none : (place : ℕ) → time_at (replicate count None) place ≡ None
    none place = time_is (replicate count None) place ∙ elim (cases_lt place count) [
      | inl lt ↦ get_or-replicate count place None None lt
      | inr le ↦ get_or_past (replicate count None) place None (omega (arith, length-replicate count no_time, le))
    ]

    pub start_only : (place time : ℕ) → time_at (start_times count node limit) place ≡ Some time → (place ≡ node) × (limit ≡ time)
    start_only place time is = elim (cases_eq place node) [
      | inl same ↦ (same, same_Some limit time (sym (there place same) ∙ is))
      | inr other ↦ absurd (none-some time (sym (none place) ∙ sym (set_elsewhere (replicate count None) node limit short place other) ∙ is))
    ]

    pub start_known : AreKnown edges node limit (start_times count node limit)
    start_known = record {
      sound = λ place time is. let at = start_only place time is in ([], (at.0, omega (arith, at.1)));
      start = reaches_at limit limit (time_at (start_times count node limit) node) (there node refl) (omega arith);
    }

  pub start_stands : (count : ℕ) → node < count → IsSearch edges node limit (start_times count node limit) ((limit, node) ∷ []) [] 0
  start_stands count within = record { known = start_known count within; pending = pending }
    where
      pending : ArePending edges (start_times count node limit) ((limit, node) ∷ []) [] 0
      pending edge among time is =
          let at = start_only count within edge.target time is in
          inr (inl (in_same (limit, node) [] (time, edge.target) (same_entry limit node time edge.target at.1 (sym at.0))))

  -- ---- after an edge

  module _ (latest : Times) (edge : Edge) (now : ℕ) (among : Contains edges edge) (within : edge.source < length latest)
      (path : HasPath edges node limit edge.target now) (known : AreKnown edges node limit latest) (is : is_later latest edge now ≡ true) where
    parts : (edge.first ≤ last_by edge now) × (reaches (last_by edge now) (time_at latest edge.source) ≡ false)
    parts = later_parts latest edge now is

    pub higher : (a place : ℕ) → reaches a (time_at latest place) ≡ true
        → reaches a (time_at (set latest edge.source (Some (last_by edge now))) place) ≡ true
    higher = set_rises latest edge.source (last_by edge now) within parts.1

    taken : (place : ℕ) → place ≡ edge.source → HasPath edges node limit place (last_by edge now)
    taken place same =
        let leg : Leg = record { edge = edge; time = last_by edge now } in
        let leaves : Leaves edges place (last_by edge now) leg = record {
          among = among;
          source = sym same;
          later = omega arith;
          begun = parts.0;
          ended = omega arith;
        } in
        (leg ∷ path.0, (leaves, earlier edges node limit path.0 edge.target (last_by edge now) now (omega arith) path.1))

    sound : (place time : ℕ) → time_at (set latest edge.source (Some (last_by edge now))) place ≡ Some time → HasPath edges node limit place time
    sound place time at = elim (cases_eq place edge.source) [
      | inl same ↦ subst (λ (t : ℕ). HasPath edges node limit place t)
          (same_Some (last_by edge now) time (sym (set_there latest edge.source (last_by edge now) within place same) ∙ at)) (taken place same)
      | inr other ↦ known.sound place time (sym (set_elsewhere latest edge.source (last_by edge now) within place other) ∙ at)
    ]

    pub rising_known : AreKnown edges node limit (set latest edge.source (Some (last_by edge now)))
    rising_known = record { sound = sound; start = higher limit node known.start }

  module _ (latest : Times) (queue : Queue) (edge : Edge) (rest : List Edge) (now : ℕ) (among : Contains edges edge)
      (within : edge.source < length latest) (path : HasPath edges node limit edge.target now)
      (stands : IsSearch edges node limit latest queue (edge ∷ rest) now) where
    abbrev new : ℕ
    new = last_by edge now

    stays : is_later latest edge now ≡ false → IsSearch edges node limit latest queue rest now
    stays none = record {
      known = stands.known;
      pending = λ e among time is. moved e time (stands.pending e among time is);
    }
      where
        last : (e : Edge) (time : ℕ) → time ≡ now → (edge ≡ e) ⊎ Contains rest e
            → IsDone latest e time ⊎ (Contains queue (time, e.target) ⊎ (Contains rest e × (time ≡ now)))
        last e time at (inl same) = inl (subst (λ (t : ℕ). is_later latest e t ≡ false) (sym at) (subst (λ (x : Edge). is_later latest x now ≡ false) same none))
        last e time at (inr more) = inr (inr (more, at))

        moved : (e : Edge) (time : ℕ) → IsDone latest e time ⊎ (Contains queue (time, e.target) ⊎ (Contains (edge ∷ rest) e × (time ≡ now)))
            → IsDone latest e time ⊎ (Contains queue (time, e.target) ⊎ (Contains rest e × (time ≡ now)))
        moved e time (inl done) = inl done
        moved e time (inr (inl at)) = inr (inl at)
        moved e time (inr (inr more)) = last e time more.1 (in_cons edge rest e more.0)

    rises : is_later latest edge now ≡ true
        → IsSearch edges node limit (set latest edge.source (Some new)) ((new, edge.source) ∷ queue) rest now
    rises is = record {
      known = rising_known latest edge now among within path stands.known is;
      pending = λ e among time at. elim (cases_eq e.target edge.source) [
        | inl same ↦ inr (inl (in_same (new, edge.source) queue (time, e.target)
            (let when : new ≡ time = same_Some new time (sym (set_there latest edge.source new within e.target same) ∙ at) in same_entry new edge.source time e.target when (sym same))))
        | inr other ↦ moved e time (stands.pending e among time (sym (set_elsewhere latest edge.source new within e.target other) ∙ at))
      ];
    }
      where
        own : is_later (set latest edge.source (Some new)) edge now ≡ false
        own = not_later (set latest edge.source (Some new)) edge now
            (reaches_at new new (time_at (set latest edge.source (Some new)) edge.source) (set_there latest edge.source new within edge.source refl) (omega arith))

        last : (e : Edge) (time : ℕ) → time ≡ now → (edge ≡ e) ⊎ Contains rest e
            → IsDone (set latest edge.source (Some new)) e time ⊎ (Contains ((new, edge.source) ∷ queue) (time, e.target) ⊎ (Contains rest e × (time ≡ now)))
        last e time at (inl same) =
            inl (subst (λ (t : ℕ). is_later (set latest edge.source (Some new)) e t ≡ false) (sym at)
            (subst (λ (x : Edge). is_later (set latest edge.source (Some new)) x now ≡ false) same own))
        last e time at (inr more) = inr (inr (more, at))

        moved : (e : Edge) (time : ℕ) → IsDone latest e time ⊎ (Contains queue (time, e.target) ⊎ (Contains (edge ∷ rest) e × (time ≡ now)))
            → IsDone (set latest edge.source (Some new)) e time ⊎ (Contains ((new, edge.source) ∷ queue) (time, e.target) ⊎ (Contains rest e × (time ≡ now)))
        moved e time (inl done) = inl (later_falls latest (set latest edge.source (Some new)) e time (higher latest edge now among within path stands.known is (last_by e time) e.source) done)
        moved e time (inr (inl at)) = inr (inl (in_tail (new, edge.source) queue (time, e.target) at))
        moved e time (inr (inr more)) = last e time more.1 (in_cons edge rest e more.0)

    pub looked : IsSearch edges node limit (times_with_source latest edge now) (queue_after_edge latest edge now queue) rest now
    looked = by (is_later latest edge now) refl
      where
        by : (b : Bool) → is_later latest edge now ≡ b
            → IsSearch edges node limit (if b then set latest edge.source (Some new) else latest) (if b then (new, edge.source) ∷ queue else queue) rest now
        by true is = rises is
        by false is = stays is

  -- ---- after edges to one place

  -- what is known of the edges that are looked at
  pub record AreGiven (count now : ℕ) (es : List Edge) : Type 0 where
    pub among : (e : Edge) → Contains es e → Contains edges e
    pub source : (e : Edge) → Contains es e → e.source < count
    pub path : (e : Edge) → Contains es e → HasPath edges node limit e.target now

  pub looked_all : (es : List Edge) (latest : Times) (queue : Queue) (now : ℕ) → AreGiven (length latest) now es
      → IsSearch edges node limit latest queue es now
      → IsSearch edges node limit (times_with_sources latest es now) (queue_after_edges latest es now queue) [] now
  looked_all [] latest queue now given stands = stands
  looked_all (e ∷ es) latest queue now given stands =
      looked_all es (times_with_source latest e now) (queue_after_edge latest e now queue) now
      (record {
        among = λ x at. given.among x (in_tail e es x at);
        source = λ x at. subst (λ (n : ℕ). x.source < n) (sym (raised_length latest e now)) (given.source x (in_tail e es x at));
        path = λ x at. given.path x (in_tail e es x at);
      })
      (looked latest queue e es now (given.among e (in_head e es)) (given.source e (in_head e es)) (given.path e (in_head e es)) stands)

  -- ---- after a place is taken out of the queue

  module _ (latest : Times) (queue left : Queue) (entry : ℕ × ℕ) (out : IsPermutation queue (entry ∷ left))
      (sources : (e : Edge) → Contains edges e → e.source < length latest)
      (stands : IsSearch edges node limit latest queue [] 0) where
    abbrev ready : IsSearch edges node limit latest (entry ∷ left) [] 0
    ready = permuted latest queue (entry ∷ left) [] 0 out stands

    stale : is_current latest entry.0 entry.1 ≡ false → IsSearch edges node limit latest left [] 0
    stale not' = record {
      known = stands.known;
      pending = λ e among time is. moved e time is (ready.pending e among time is);
    }
      where
        -- the place that was taken out had another time
        other : (e : Edge) (time : ℕ) → time_at latest e.target ≡ Some time → entry ≡ (time, e.target) → ⊥
        other e time is same =
            let current : is_current latest entry.0 entry.1 ≡ true =
            subst (λ (x : ℕ × ℕ). is_current latest x.0 x.1 ≡ true) (sym same) (ap (is_time time) is ∙ eq-eqb time time refl) in
            false≢true (sym not' ∙ current)

        left-in : (e : Edge) (time : ℕ) → time_at latest e.target ≡ Some time → (entry ≡ (time, e.target)) ⊎ Contains left (time, e.target)
            → IsDone latest e time ⊎ (Contains left (time, e.target) ⊎ (Contains [] e × (time ≡ 0)))
        left-in e time is (inl same) = absurd (other e time is same)
        left-in e time is (inr at) = inr (inl at)

        moved : (e : Edge) (time : ℕ) → time_at latest e.target ≡ Some time
            → IsDone latest e time ⊎ (Contains (entry ∷ left) (time, e.target) ⊎ (Contains [] e × (time ≡ 0)))
            → IsDone latest e time ⊎ (Contains left (time, e.target) ⊎ (Contains [] e × (time ≡ 0)))
        moved e time is (inl done) = inl done
        moved e time is (inr (inl at)) = left-in e time is (in_cons entry left (time, e.target) at)
        moved e time is (inr (inr more)) = in_nil e more.0

    current : time_at latest entry.1 ≡ Some entry.0 → IsSearch edges node limit latest left (edges_into edges entry.1) entry.0
    current at-entry = record {
      known = stands.known;
      pending = λ e among time is. moved e among time (ready.pending e among time is);
    }
      where
        left-in : (e : Edge) → Contains edges e → (time : ℕ) → (entry ≡ (time, e.target)) ⊎ Contains left (time, e.target)
            → IsDone latest e time ⊎ (Contains left (time, e.target) ⊎ (Contains (edges_into edges entry.1) e × (time ≡ entry.0)))
        left-in e among time (inl same) =
            inr (inr (in_filter (is_into entry.1) edges e among (eq-eqb e.target entry.1 (ap (λ (x : ℕ × ℕ). x.1) (sym same))), ap (λ (x : ℕ × ℕ). x.0) (sym same)))
        left-in e among time (inr at) = inr (inl at)

        moved : (e : Edge) → Contains edges e → (time : ℕ)
            → IsDone latest e time ⊎ (Contains (entry ∷ left) (time, e.target) ⊎ (Contains [] e × (time ≡ 0)))
            → IsDone latest e time ⊎ (Contains left (time, e.target) ⊎ (Contains (edges_into edges entry.1) e × (time ≡ entry.0)))
        moved e among time (inl done) = inl done
        moved e among time (inr (inl at)) = left-in e among time (in_cons entry left (time, e.target) at)
        moved e among time (inr (inr more)) = in_nil e more.0

    given : time_at latest entry.1 ≡ Some entry.0 → AreGiven (length latest) entry.0 (edges_into edges entry.1)
    given at-entry = record {
      among = λ e at. (from_filter (is_into entry.1) edges e at).0;
      source = λ e at. sources e (from_filter (is_into entry.1) edges e at).0;
      path = λ e at. subst (λ (p : ℕ). HasPath edges node limit p entry.0)
          (sym (eqb-true e.target entry.1 (from_filter (is_into entry.1) edges e at).1)) (stands.known.sound entry.1 entry.0 at-entry);
    }

    pub visited_stands : IsSearch edges node limit (times_after_visit latest (edges_into edges entry.1) entry)
        (visited_queue latest (edges_into edges entry.1) entry left) [] 0
    visited_stands = by (is_current latest entry.0 entry.1) refl
      where
        by : (b : Bool) → is_current latest entry.0 entry.1 ≡ b
            → IsSearch edges node limit (if b then times_with_sources latest (edges_into edges entry.1) entry.0 else latest)
            (if b then queue_after_edges latest (edges_into edges entry.1) entry.0 left else left) [] 0
        by true is =
            let at = current_at latest entry is in
            rested (times_with_sources latest (edges_into edges entry.1) entry.0) (queue_after_edges latest (edges_into edges entry.1) entry.0 left) entry.0 0
            (looked_all (edges_into edges entry.1) latest left entry.0 (given at) (current at))
        by false is = stale is
