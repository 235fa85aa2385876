-- Keys that are asked for.
use Rattle.std.proofs.Common.{◌≡◌, ◌∙◌, sym, ap, refl, ℕ, Bool, true, false, cond, ◌&&◌, List, [], ◌∷◌, Option, Some, None, inl, inr}
use Rattle.std.specs.BTreeSet.{BTreeSet, Updates}
use Rattle.std.specs.Cmp.Lexicographic.{slice_cmp}
use Rattle.std.specs.Ordering.{is_eq}
use Rattle.std.proofs.lemmas.Bool.{cases_Bool}
use Rattle.std.proofs.lemmas.Cmp.{tied_itself}
use Rattle.ldv_value.specs.Order.{order, order_total, values_total}
use Rattle.ldv_value.proofs.Booleans.{true≢false}
use Rattle.ldv_value.proofs.Orderings.{is_eq-true}
use Rattle.sql_model.proofs.SameValues.{exact, all_exact}
use Rattle.query_eval.proofs.Levels.{both-of}
use Rattle.query_eval.proofs.TieKeys.{then_eq}
use Rattle.query_eval.specs.declared.probe.Probe.{Probe}
use Rattle.query_eval.specs.declared.source.Source.{Source}
use Rattle.query_eval.specs.inner.Asked.{has_key, is_asked, AreAsked, IsAskedBy, KeepKeys}
use Rattle.query_eval.specs.inner.Joining.{key_of, tie_order, TieValues, values_before}
use Rattle.query_eval.specs.inner.Slots.{slot_added, values_at}

-- ---- the order of keys

tie_itself : (key : TieValues) → is_eq (tie_order key key) ≡ true
tie_itself key = then_eq (order key.0 key.0) (slice_cmp order key.1 key.1)
    ∙ (λ j. is_eq (tied_itself order_total key.0 j) && is_eq (tied_itself values_total key.1 j))

tie_exact : (a b : TieValues) → is_eq (tie_order a b) ≡ true → a ≡ b
tie_exact a b is =
    let two = both-of (is_eq (order a.0 b.0)) (is_eq (slice_cmp order a.1 b.1)) (sym (then_eq (order a.0 b.0) (slice_cmp order a.1 b.1)) ∙ is) in
    λ j. (exact a.0 b.0 (is_eq-true (order a.0 b.0) two.0) j, all_exact a.1 b.1 (is_eq-true (slice_cmp order a.1 b.1) two.1) j)

-- ---- a key more

module _ (old new : BTreeSet TieValues) (key : TieValues) (updates : Updates tie_order old new key true) where
  pub kept : KeepKeys old new
  kept q had = updates.0 q ∙ by (is_eq (tie_order key q)) had
    where
      by : (b : Bool) → has_key old q ≡ true → cond b true (has_key old q) ≡ true
      by true had = refl
      by false had = had

  pub put : has_key new key ≡ true
  put = updates.0 key ∙ ap (λ (b : Bool). cond b true (has_key old key)) (tie_itself key)

-- ---- a key that isn't asked for is no key that is

pub not_asked : (asked : Option (BTreeSet TieValues)) (own other : TieValues) → is_asked asked own ≡ false → is_asked asked other ≡ true
    → (slot : ℕ) (slots : List ℕ) → slots ≡ slot_added own slot other slots
not_asked asked own other left is slot slots = elim (cases_Bool (is_eq (tie_order own other))) [
  | inl hit ↦ absurd (true≢false (sym is ∙ ap (is_asked asked) (sym (tie_exact own other hit)) ∙ left))
  | inr miss ↦ rw miss refl
]

-- ---- without a set each key is asked for

each : (key : Option TieValues) → IsAskedBy None key
each None = tt
each (Some key) = refl

pub all_asked : (sources : List Source) (ties : List Probe) (ps : List (List ℕ)) → AreAsked None sources ties ps
all_asked sources ties [] = tt
all_asked sources ties (p ∷ ps) = (each (key_of (values_before ties (values_at sources p))), all_asked sources ties ps)

-- a larger set has the key too
pub asked_more : (old new : BTreeSet TieValues) → KeepKeys old new → (key : Option TieValues) → IsAskedBy (Some old) key → IsAskedBy (Some new) key
asked_more old new keep None is = tt
asked_more old new keep (Some key) is = keep key is
