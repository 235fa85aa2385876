-- Tests of two numbers.
use Rattle.std.proofs.Common.{◌≡◌, ◌==◌, ◌<◌, ℕ, sym, arith, true, false, eq-eqb}
use Rattle.std.specs.Prelude.{nat_lt}
use Rattle.std.proofs.lemmas.Bool.{lt-ltb, ltb-true, ne_eqb}
use Rattle.ldv_value.proofs.Booleans.{same-tests}
use Rattle.ldv_value.proofs.SameBytes.{nat_eq-true}

-- the numbers exchanged
pub eq-turned : (a b : ℕ) → (a == b) ≡ (b == a)
eq-turned a b = same-tests (a == b) (b == a) (λ same. eq-eqb b a (sym (nat_eq-true a b same))) (λ same. eq-eqb a b (sym (nat_eq-true b a same)))

-- a number isn't one below it
pub apart-above : (a b : ℕ) → b < a → (a == b) ≡ false
apart-above a b more = ne_eqb a b (λ same. absurd (omega (arith, more, same)))

pub less-trans : (a b c : ℕ) → nat_lt a b ≡ true → nat_lt b c ≡ true → nat_lt a c ≡ true
less-trans a b c one two = lt-ltb a c (omega (arith, ltb-true a b one, ltb-true b c two))
