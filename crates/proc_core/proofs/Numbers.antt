-- Numbers within 64 bits.
use Rattle.std.proofs.Common.{◌≡◌, ◌^◌, refl, ap, ◌∙◌, true, inl, inr, w64}
use Rattle.std.specs.Prelude.{ℤ, pos, negsuc, nat_lt, Some, None}
use Rattle.std.specs.Option.{SomeIff}
use Rattle.std.proofs.lemmas.Bool.{ltb-true, lt-ltb}
use mir.Val.{SFits}
use Rattle.ldv_value.proofs.Cases.{cases-bool}
use Rattle.proc_core.specs.Types.{Int}
use Rattle.run_model.specs.StepBase.{Yields, Misused, number_too_large, number_within}

fits_test : (z : ℤ) → SFits w64 z → Yields (Int z) ≡ number_within z
fits_test (pos n) fits = let test : nat_lt n (2 ^ 63) ≡ true = lt-ltb n (2 ^ 63) fits.sfits in rw test refl
fits_test (negsuc n) fits = let test : nat_lt n (2 ^ 63) ≡ true = lt-ltb n (2 ^ 63) fits.sfits in rw test refl

past_test : (z : ℤ) → (SFits w64 z → ⊥) → Misused number_too_large ≡ number_within z
past_test (pos n) past = elim (cases-bool (nat_lt n (2 ^ 63))) [
  | inl fits ↦ absurd (past (record { sfits = ltb-true n (2 ^ 63) fits }))
  | inr over ↦ rw over refl
]
past_test (negsuc n) past = elim (cases-bool (nat_lt n (2 ^ 63))) [
  | inl fits ↦ absurd (past (record { sfits = ltb-true n (2 ^ 63) fits }))
  | inr over ↦ rw over refl
]

pub within_some : (y z : ℤ) → SomeIff (Some y) (SFits w64 z) z → Yields (Int y) ≡ number_within z
within_some y z is = ap (λ (x : ℤ). Yields (Int x)) is.1 ∙ fits_test z is.0

pub within_none : (z : ℤ) → SomeIff {T = ℤ} None (SFits w64 z) z → Misused number_too_large ≡ number_within z
within_none z is = past_test z is
