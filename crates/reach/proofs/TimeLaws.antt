-- The meaning of the tests of times.
use Rattle.std.proofs.Common.{◌≡◌, ◌∙◌, sym, ap, subst, refl, inl, inr, arith, ℕ, ◌<◌, ◌≤◌, Bool, true, false, not}
use Rattle.std.proofs.Common.{length, get_or, set, Option, Some, None}
use Rattle.std.specs.Prelude.{◌&&◌, nat_le, if◌then◌else◌}
use Rattle.std.proofs.lemmas.Bool.{false≢true, true≢false, leb-true, leb-false, le-leb, and_parts, not-true, cases_eq}
use Rattle.std.proofs.lemmas.List.{get_or-set_same, get_or-set_other, get_or_default, length-set}
use Rattle.std.proofs.lemmas.Option.{unwrap_or-slice_get}
use Rattle.reach.specs.Types.{Edge}
use Rattle.reach.specs.Found.{Times, time_at, reaches, last_by, is_later, times_with_source}

pub reaches_less : (a b : ℕ) (o : Option ℕ) → a ≤ b → reaches b o ≡ true → reaches a o ≡ true
reaches_less a b None le is = absurd (false≢true is)
reaches_less a b (Some t) le is = le-leb a t (omega (arith, le, leb-true b t is))

pub reaches_some : (a : ℕ) (o : Option ℕ) → reaches a o ≡ true → (t : ℕ) × (o ≡ Some t) × (a ≤ t)
reaches_some a None is = absurd (false≢true is)
reaches_some a (Some t) is = (t, refl, leb-true a t is)

pub reaches_at : (a t : ℕ) (o : Option ℕ) → o ≡ Some t → a ≤ t → reaches a o ≡ true
reaches_at a t o is le = ap (reaches a) is ∙ le-leb a t le

abbrev pub no_time : Option ℕ
no_time = None

-- a time is where it is read
pub time_is : (latest : Times) (place : ℕ) → time_at latest place ≡ get_or latest place None
time_is latest place = unwrap_or-slice_get latest place None

pub time_read : (latest : Times) (place : ℕ) (time : Option ℕ) → place < length latest → time ≡ get_or latest place time → time ≡ time_at latest place
time_read latest place time within is = is ∙ get_or_default latest place time None within ∙ sym (time_is latest place)

-- ---- one edge

-- an edge that may be taken, and not later, has brought its time
pub brought : (latest : Times) (edge : Edge) (time : ℕ) → edge.first ≤ last_by edge time → is_later latest edge time ≡ false
    → reaches (last_by edge time) (time_at latest edge.source) ≡ true
brought latest edge time le none =
    by (nat_le edge.first (last_by edge time)) (reaches (last_by edge time) (time_at latest edge.source)) (le-leb edge.first (last_by edge time) le) none
  where
    by : (b r : Bool) → b ≡ true → (b && not r) ≡ false → r ≡ true
    by true true is none = refl
    by true false is none = absurd (true≢false none)
    by false r is none = absurd (false≢true is)

pub later_parts : (latest : Times) (edge : Edge) (time : ℕ) → is_later latest edge time ≡ true
    → (edge.first ≤ last_by edge time) × (reaches (last_by edge time) (time_at latest edge.source) ≡ false)
later_parts latest edge time is =
    let reached : Bool = reaches (last_by edge time) (time_at latest edge.source) in
    let parts = and_parts (nat_le edge.first (last_by edge time)) (not reached) is in
    (leb-true edge.first (last_by edge time) parts.0, not-true reached parts.1)

-- where the source reaches all that it did, no edge is later that wasn't
pub later_falls : (latest after : Times) (edge : Edge) (time : ℕ)
    → (reaches (last_by edge time) (time_at latest edge.source) ≡ true → reaches (last_by edge time) (time_at after edge.source) ≡ true)
    → is_later latest edge time ≡ false → is_later after edge time ≡ false
later_falls latest after edge time rises none =
    by (nat_le edge.first (last_by edge time)) (reaches (last_by edge time) (time_at latest edge.source))
    (reaches (last_by edge time) (time_at after edge.source)) none rises
  where
    by : (b r s : Bool) → (b && not r) ≡ false → (r ≡ true → s ≡ true) → (b && not s) ≡ false
    by false r s none rises = refl
    by true true s none rises = ap not (rises refl)
    by true false s none rises = absurd (true≢false none)

pub not_later : (latest : Times) (edge : Edge) (time : ℕ) → reaches (last_by edge time) (time_at latest edge.source) ≡ true
    → is_later latest edge time ≡ false
not_later latest edge time is =
    by (nat_le edge.first (last_by edge time)) (reaches (last_by edge time) (time_at latest edge.source)) is
  where
    by : (b r : Bool) → r ≡ true → (b && not r) ≡ false
    by true r is = ap not is
    by false r is = refl

-- ---- a time that is set

module _ (latest : Times) (source new : ℕ) (within : source < length latest) where
  pub set_there : (place : ℕ) → place ≡ source → time_at (set latest source (Some new)) place ≡ Some new
  set_there place same = ap (λ (p : ℕ). time_at (set latest source (Some new)) p) same
      ∙ time_is (set latest source (Some new)) source ∙ get_or-set_same latest source (Some new) None within

  pub set_elsewhere : (place : ℕ) → (place ≡ source → ⊥) → time_at (set latest source (Some new)) place ≡ time_at latest place
  set_elsewhere place other =
      time_is (set latest source (Some new)) place ∙ get_or-set_other latest source place (Some new) None other ∙ sym (time_is latest place)

  -- what didn't reach the new time reaches all that it did
  pub set_rises : reaches new (time_at latest source) ≡ false → (a place : ℕ) → reaches a (time_at latest place) ≡ true
      → reaches a (time_at (set latest source (Some new)) place) ≡ true
  set_rises lower a place is = elim (cases_eq place source) [
    | inl same ↦ ap (reaches a) (set_there place same)
        ∙ le-leb a new (less (time_at latest source) lower (subst (λ (p : ℕ). reaches a (time_at latest p) ≡ true) same is))
    | inr other ↦ ap (reaches a) (set_elsewhere place other) ∙ is
  ]
    where
      less : (o : Option ℕ) → reaches new o ≡ false → reaches a o ≡ true → a ≤ new
      less None low high = absurd (false≢true high)
      less (Some t) low high = omega (arith, leb-true a t high, leb-false new t low)

pub raised_length : (latest : Times) (edge : Edge) (time : ℕ) → length (times_with_source latest edge time) ≡ length latest
raised_length latest edge time = by (is_later latest edge time)
  where
    by : (b : Bool) → length (if b then set latest edge.source (Some (last_by edge time)) else latest) ≡ length latest
    by true = length-set latest edge.source (Some (last_by edge time))
    by false = refl
