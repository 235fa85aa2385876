-- The result of checked arithmetic is a number within 64 bits or NULL.
use Rattle.std.proofs.Common.{◌≡◌, ◌^◌, refl, sym, ap, ◌∙◌, arith, true, false, w64}
use Rattle.std.specs.Prelude.{ℤ, pos, negsuc, Option, Some, None, SomeIff, FitsSigned, nat_lt}
use Rattle.std.proofs.lemmas.Bool.Decides.{nat_tests}
use Rattle.std.proofs.lemmas.Int.{to_z-of_z}
use Rattle.sql_model.specs.Types.{Null, Int}
use Rattle.ldv_value.specs.Cells.{int_value}
use Rattle.sql_model.specs.Meaning.{number_value}

fits : (z : ℤ) → FitsSigned w64 z → number_value z ≡ Int z
fits (pos n) h = let t : nat_lt n (2 ^ 63) ≡ true = grind (arith, nat_tests) in rw t refl
fits (negsuc n) h = let t : nat_lt n (2 ^ 63) ≡ true = grind (arith, nat_tests) in rw t refl

outside : (z : ℤ) → ¬ FitsSigned w64 z → number_value z ≡ Null
outside (pos n) h = let t : nat_lt n (2 ^ 63) ≡ false = grind (arith, nat_tests) in rw t refl
outside (negsuc n) h = let t : nat_lt n (2 ^ 63) ≡ false = grind (arith, nat_tests) in rw t refl

pub checked : (z : ℤ) (r : Option ℤ) → SomeIff r (FitsSigned w64 z) z → int_value r ≡ number_value z
checked z None h = sym (outside z h)
checked z (Some x) h = ap Int h.1 ∙ sym (fits z h.0)

-- with the way in which a number is passed
pub ruleset checked_numbers = (checked, to_z-of_z)
