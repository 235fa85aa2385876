-- Paths and latest times.
use Rattle.std.proofs.Common.{◌≡◌, sym, subst, refl, inl, inr, arith, ℕ, ◌≤◌, true, false, List, [], ◌∷◌, Some}
use Rattle.std.specs.Prelude.{Contains, nat_le}
use Rattle.std.proofs.lemmas.Bool.{leb-true, le-leb, and_parts, and_from}
use Rattle.reach.specs.Types.{Edge}
use Rattle.reach.specs.Reach.{Leg, Leaves, IsPath, Leads}
use Rattle.reach.specs.Found.{Times, time_at, reaches, is_open, last_by, is_later}
use Rattle.reach.specs.inner.Search.{HasPath, AreLatest}
use Rattle.reach.proofs.Members.{in_nil}
use Rattle.reach.proofs.TimeLaws.{reaches_less, reaches_some, brought}

-- a path is also one for an earlier time
pub earlier : (edges : List Edge) (node limit : ℕ) (legs : List Leg) (place a b : ℕ) → a ≤ b
    → IsPath edges node limit place b legs → IsPath edges node limit place a legs
earlier edges node limit [] place a b le path = (path.0, omega (arith, le, path.1))
earlier edges node limit (leg ∷ legs) place a b le path =
    let leaves : Leaves edges place b leg = path.0 in (
      record {
        among = leaves.among;
        source = leaves.source;
        later = omega (arith, le, leaves.later);
        begun = leaves.begun;
        ended = leaves.ended;
      },
      path.1,
    )

-- a path is in time
pub in_limit : (edges : List Edge) (node limit : ℕ) (legs : List Leg) (place earliest : ℕ) → IsPath edges node limit place earliest legs → earliest ≤ limit
in_limit edges node limit [] place earliest path = path.1
in_limit edges node limit (leg ∷ legs) place earliest path =
    let leaves : Leaves edges place earliest leg = path.0 in
    let rest : leg.time ≤ limit = in_limit edges node limit legs leg.edge.target leg.time path.1 in
    omega (arith, leaves.later, rest)

module _ (edges : List Edge) (node limit : ℕ) (latest : Times) (are : AreLatest edges node limit latest) where
  abbrev done : (edge : Edge) → Contains edges edge → (time : ℕ) → time_at latest edge.target ≡ Some time → is_later latest edge time ≡ false
  done edge among time is = elim (are.pending edge among time is) [
    | inl none ↦ none
    | inr more ↦ elim more [ inl queued ↦ in_nil (time, edge.target) queued | inr rest ↦ in_nil edge rest.0 ]
  ]

  -- a path doesn't leave later than the latest time
  pub in_time : (legs : List Leg) (place earliest : ℕ) → IsPath edges node limit place earliest legs → reaches earliest (time_at latest place) ≡ true
  in_time [] place earliest path =
      subst (λ (p : ℕ). reaches earliest (time_at latest p) ≡ true) (sym path.0) (reaches_less earliest limit (time_at latest node) path.1 are.known.start)
  in_time (leg ∷ legs) place earliest path =
      let leaves : Leaves edges place earliest leg = path.0 in
      let found = reaches_some leg.time (time_at latest leg.edge.target) (in_time legs leg.edge.target leg.time path.1) in
      let time : ℕ = found.0 in
      let first : leg.edge.first ≤ last_by leg.edge time = omega (arith, leaves.begun, leaves.ended, found.2) in
      let early : earliest ≤ last_by leg.edge time = omega (arith, leaves.later, leaves.ended, found.2) in
      let is : reaches (last_by leg.edge time) (time_at latest leg.edge.source) ≡ true = brought latest leg.edge time first (done leg.edge leaves.among time found.1) in
      subst (λ (p : ℕ). reaches earliest (time_at latest p) ≡ true) leaves.source (reaches_less earliest (last_by leg.edge time) (time_at latest leg.edge.source) early is)

  -- an edge is open exactly where a path begins with it
  pub open_leads : (edge : Edge) → Contains edges edge → is_open latest edge ≡ true → Leads edges node limit edge.source
  open_leads edge among open' =
      let parts = and_parts (nat_le edge.first edge.last) (reaches edge.first (time_at latest edge.target)) open' in
      let within : edge.first ≤ edge.last = leb-true edge.first edge.last parts.0 in
      let found = reaches_some edge.first (time_at latest edge.target) parts.1 in
      let path : HasPath edges node limit edge.target found.0 = are.known.sound edge.target found.0 found.1 in
      let leaves : Leaves edges edge.source 0 (record { edge = edge; time = edge.first }) =
      record { among = among; source = refl; later = omega arith; begun = omega arith; ended = within } in
      (record { edge = edge; time = edge.first }, path.0, (leaves, earlier edges node limit path.0 edge.target edge.first found.0 found.2 path.1))

  pub leads_open : (place : ℕ) → Leads edges node limit place → (edge : Edge) × Contains edges edge × (edge.source ≡ place) × (is_open latest edge ≡ true)
  leads_open place leads =
      let leg : Leg = leads.0 in
      let legs : List Leg = leads.1 in
      let path : IsPath edges node limit place 0 (leg ∷ legs) = leads.2 in
      let leaves : Leaves edges place 0 leg = path.0 in
      let within : leg.edge.first ≤ leg.edge.last = omega (arith, leaves.begun, leaves.ended) in
      let is : reaches leg.edge.first (time_at latest leg.edge.target) ≡ true =
      reaches_less leg.edge.first leg.time (time_at latest leg.edge.target) leaves.begun (in_time legs leg.edge.target leg.time path.1) in
      (leg.edge, leaves.among, leaves.source, and_from (nat_le leg.edge.first leg.edge.last) (reaches leg.edge.first (time_at latest leg.edge.target)) (le-leb leg.edge.first leg.edge.last within) is)
