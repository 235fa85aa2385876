-- Passes over the edges find the latest times.
use Rattle.std.proofs.Common.{◌≡◌, ◌∙◌, sym, ap, subst, refl, inl, inr, ◌⊎◌, arith, ℕ, ◌+◌, ◌<◌, ◌≤◌, zero, suc, Bool, true, false}
use Rattle.std.proofs.Common.{List, [], ◌∷◌, length, set, map, Option, Some, None, IsTrue}
use Rattle.std.specs.Prelude.{◌==◌, Contains, replicate, if◌then◌else◌}
use Rattle.std.proofs.lemmas.Bool.{eqb-true, eqb-false}
use Rattle.std.proofs.lemmas.List.{length-set, length-replicate}
use Rattle.std.proofs.lemmas.List.Elements.{All-contains}
use Rattle.std.proofs.lemmas.Option.{none-some, same_Some}
use Rattle.trace_graph.specs.Graph.{Parts, are_between}
use Rattle.reach.specs.Types.{Node, Edge}
use Rattle.reach.specs.Found.{Times, time_at, last_by, is_later}
use Rattle.reach.specs.inner.Search.{start_times, AreKnown, AreLatest}
use Rattle.reach.specs.Depends.{brought_by, times_after_edge, times_after_pass, room, passes, first_times, latest_of}
use Rattle.reach.proofs.Members.{in_nil, in_head, in_tail, in_cons}
use Rattle.reach.proofs.TimeLaws.{no_time, raised_length}
use Rattle.reach.proofs.PathLaws.{in_limit}
use Rattle.reach.proofs.Standing.{start_known, rising_known}
use Rattle.reach.proofs.WorkLaws.{room_raised}
use Rattle.reach.proofs.TurnLaws.{all_from}

pub brought_length : (latest : Times) (e : Edge) → length (times_after_edge latest e) ≡ length latest
brought_length latest e = by (time_at latest e.target)
  where
    by : (o : Option ℕ) → length (brought_by o latest e) ≡ length latest
    by None = refl
    by (Some time) = raised_length latest e time

passed_length : (es : List Edge) (latest : Times) → length (times_after_pass latest es) ≡ length latest
passed_length [] latest = refl
passed_length (e ∷ es) latest = passed_length es (times_after_edge latest e) ∙ brought_length latest e

-- an edge brings nothing more
IsQuiet : Times → Edge → Type 0
IsQuiet latest e = (time : ℕ) → time_at latest e.target ≡ Some time → is_later latest e time ≡ false

module _ (edges : List Edge) (node limit : ℕ) where
  -- ---- one edge

  module _ (latest : Times) (e : Edge) (among : Contains edges e) (within : e.source < length latest) (known : AreKnown edges node limit latest) where
    small : (time : ℕ) → time_at latest e.target ≡ Some time → time ≤ limit
    small time is = let path = known.sound e.target time is in in_limit edges node limit path.0 e.target time path.1

    brought_known : AreKnown edges node limit (times_after_edge latest e)
    brought_known = by (time_at latest e.target) refl
      where
        some : (time : ℕ) → time_at latest e.target ≡ Some time → (b : Bool) → is_later latest e time ≡ b
            → AreKnown edges node limit (if b then set latest e.source (Some (last_by e time)) else latest)
        some time at true is = rising_known edges node limit latest e time among within (known.sound e.target time at) known is
        some time at false is = known

        by : (o : Option ℕ) → time_at latest e.target ≡ o → AreKnown edges node limit (brought_by o latest e)
        by None at = known
        by (Some time) at = some time at (is_later latest e time) refl

    brought_cases : (IsQuiet latest e × (times_after_edge latest e ≡ latest)) ⊎ (room limit (times_after_edge latest e) + 1 ≤ room limit latest)
    unfolding IsQuiet
    brought_cases = by (time_at latest e.target) refl
      where
        some : (time : ℕ) → time_at latest e.target ≡ Some time → (b : Bool) → is_later latest e time ≡ b
            → (IsQuiet latest e × ((if b then set latest e.source (Some (last_by e time)) else latest) ≡ latest))
            ⊎ (room limit (if b then set latest e.source (Some (last_by e time)) else latest) + 1 ≤ room limit latest)
        some time at true is = inr (room_raised limit latest e time within (small time at) is)
        some time at false is =
            inl (λ other there. subst (λ (t : ℕ). is_later latest e t ≡ false) (same_Some time other (sym at ∙ there)) is, refl)

        by : (o : Option ℕ) → time_at latest e.target ≡ o
            → (IsQuiet latest e × (brought_by o latest e ≡ latest)) ⊎ (room limit (brought_by o latest e) + 1 ≤ room limit latest)
        by None at = inl (λ other there. absurd (none-some other (sym at ∙ there)), refl)
        by (Some time) at = some time at (is_later latest e time) refl

  -- ---- one pass

  -- what is known of the edges of a pass
  record AreTaken (count : ℕ) (es : List Edge) : Type 0 where
    among : (e : Edge) → Contains es e → Contains edges e
    source : (e : Edge) → Contains es e → e.source < count

  taken_rest : (latest : Times) (e : Edge) (es : List Edge) → AreTaken (length latest) (e ∷ es) → AreTaken (length (times_after_edge latest e)) es
  taken_rest latest e es taken = record {
    among = λ x at. taken.among x (in_tail e es x at);
    source = λ x at. subst (λ (n : ℕ). x.source < n) (sym (brought_length latest e)) (taken.source x (in_tail e es x at));
  }

  head_known : (latest : Times) (e : Edge) (es : List Edge) → AreTaken (length latest) (e ∷ es) → AreKnown edges node limit latest
      → AreKnown edges node limit (times_after_edge latest e)
  head_known latest e es taken known = brought_known latest e (taken.among e (in_head e es)) (taken.source e (in_head e es)) known

  passed_known : (es : List Edge) (latest : Times) → AreTaken (length latest) es → AreKnown edges node limit latest
      → AreKnown edges node limit (times_after_pass latest es)
  passed_known [] latest taken known = known
  passed_known (e ∷ es) latest taken known = passed_known es (times_after_edge latest e) (taken_rest latest e es taken) (head_known latest e es taken known)

  abbrev PassCases : List Edge → Times → Type 0
  PassCases es latest =
      (((e : Edge) → Contains es e → IsQuiet latest e) × (times_after_pass latest es ≡ latest)) ⊎ (room limit (times_after_pass latest es) + 1 ≤ room limit latest)

  passed_cases : (es : List Edge) (latest : Times) → AreTaken (length latest) es → AreKnown edges node limit latest → PassCases es latest
  passed_cases [] latest taken known = inl (λ e at. in_nil e at, refl)
  passed_cases (e ∷ es) latest taken known =
      by (brought_cases latest e (taken.among e (in_head e es)) (taken.source e (in_head e es)) known)
      (passed_cases es (times_after_edge latest e) (taken_rest latest e es taken) (head_known latest e es taken known))
    where
      quiet : IsQuiet latest e → ((x : Edge) → Contains es x → IsQuiet latest x) → (x : Edge) → Contains (e ∷ es) x → IsQuiet latest x
      quiet first others x at = elim (in_cons e es x at) [
        | inl same ↦ subst (λ (y : Edge). IsQuiet latest y) same first
        | inr more ↦ others x more
      ]

      by : (IsQuiet latest e × (times_after_edge latest e ≡ latest)) ⊎ (room limit (times_after_edge latest e) + 1 ≤ room limit latest)
          → PassCases es (times_after_edge latest e) → PassCases (e ∷ es) latest
      by (inl first) (inl rest) =
          inl (quiet first.0 (subst (λ (l : Times). (x : Edge) → Contains es x → IsQuiet l x) first.1 rest.0), rest.1 ∙ first.1)
      by (inl first) (inr less) = inr (subst (λ (l : Times). room limit (times_after_pass (times_after_edge latest e) es) + 1 ≤ room limit l) first.1 less)
      by (inr less) (inl rest) = inr (subst (λ (l : Times). room limit l + 1 ≤ room limit latest) (sym rest.1) less)
      by (inr less) (inr more) = inr (omega (arith, less, more))

  -- ---- passes

  module _ (count : ℕ) (taken : AreTaken count edges) where
    taken_now : (latest : Times) → length latest ≡ count → AreTaken (length latest) edges
    taken_now latest long = subst (λ (n : ℕ). AreTaken n edges) (sym long) taken

    quiet_latest : (latest : Times) → AreKnown edges node limit latest → ((e : Edge) → Contains edges e → IsQuiet latest e) → AreLatest edges node limit latest
    unfolding IsQuiet
    quiet_latest latest known quiet = record { known = known; pending = λ e among time is. inl (quiet e among time is) }

    passes_latest : (n : ℕ) (latest : Times) → AreKnown edges node limit latest → length latest ≡ count → room limit latest ≤ n
        → AreLatest edges node limit (passes limit n edges latest)
    unfolding passes
    passes_latest zero latest known long fuel = by (passed_cases edges latest (taken_now latest long) known)
      where
        by : PassCases edges latest → AreLatest edges node limit latest
        by (inl done) = quiet_latest latest known done.0
        by (inr less) = absurd (omega (arith, less, fuel))
    passes_latest (suc n) latest known long fuel =
        by (room limit (times_after_pass latest edges) == room limit latest) refl (passed_cases edges latest (taken_now latest long) known)
        (passes_latest n (times_after_pass latest edges) (passed_known edges latest (taken_now latest long) known) (passed_length edges latest ∙ long))
      where
        by : (b : Bool) → (room limit (times_after_pass latest edges) == room limit latest) ≡ b → PassCases edges latest
            → (room limit (times_after_pass latest edges) ≤ n → AreLatest edges node limit (passes limit n edges (times_after_pass latest edges)))
            → AreLatest edges node limit (if b then latest else passes limit n edges (times_after_pass latest edges))
        by true is (inl done) next = quiet_latest latest known done.0
        by true is (inr less) next =
            absurd (let same : room limit (times_after_pass latest edges) ≡ room limit latest = eqb-true (room limit (times_after_pass latest edges)) (room limit latest) is in omega (arith, same, less))
        by false is (inl done) next = absurd (eqb-false (room limit (times_after_pass latest edges)) (room limit latest) is (ap (room limit) done.1))
        by false is (inr less) next = next (omega (arith, less, fuel))

-- no node has a time
none_first : (nodes : List Node) → map (λ (n : Node). no_time) nodes ≡ replicate (length nodes) None
none_first [] = refl
none_first (n ∷ ns) = ap (λ (l : Times). None ∷ l) (none_first ns)

first_is : (nodes : List Node) (node time : ℕ) → first_times nodes node time ≡ start_times (length nodes) node time
first_is nodes node time = ap (λ (l : Times). set l node (Some time)) (none_first nodes)

pub latest_are : (graph : Parts) (node time : ℕ) → IsTrue (are_between (length graph.nodes) graph.edges) → node < length graph.nodes
    → AreLatest graph.edges node time (latest_of graph node time)
latest_are graph node time between within =
    let count : ℕ = length graph.nodes in
    let edges : List Edge = graph.edges in
    let start : Times = start_times count node time in
    let from = all_from count edges between in
    let taken : AreTaken edges node time count edges = record {
      among = λ e at. at;
      source = λ e at. All-contains (λ (x : Edge). x.source < count) edges e from at;
    } in
    let long : length start ≡ count = length-set (replicate count None) node (Some time) ∙ length-replicate count no_time in
    subst (λ (l : Times). AreLatest edges node time (passes time (room time l) edges l)) (sym (first_is graph.nodes node time))
    (passes_latest edges node time count taken (room time start) start (start_known edges node time count within) long (omega arith))
