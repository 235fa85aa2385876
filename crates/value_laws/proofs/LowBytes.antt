-- Bytes below 128.
use Rattle.std.proofs.Common.{◌≡◌, ℕ, ◌<◌, List, [], ◌∷◌, true, arith}
use Rattle.std.specs.Prelude.{◌&&◌, ◌==◌, nat_le}
use Rattle.std.specs.List.{AllByRecursion}
use Rattle.std.proofs.lemmas.Bool.{eqb-true, leb-true}
use Rattle.ldv_value.proofs.Booleans.{and-parts}

pub low_as : (b c : ℕ) → c < 128 → (b == c) ≡ true → b < 128
low_as b c low e = omega (arith, eqb-true b c e, low)

pub low_within : (a b c : ℕ) → b < 128 → (nat_le a c && nat_le c b) ≡ true → c < 128
low_within a b c low h = omega (arith, leb-true c b (and-parts (nat_le a c) (nat_le c b) h).1, low)

pub all_low : (Is : ℕ → Type 0) → ((b : ℕ) → Is b → b < 128) → (bytes : List ℕ) → AllByRecursion Is bytes → AllByRecursion (λ b. b < 128) bytes
all_low Is low [] are = tt
all_low Is low (b ∷ bytes) are = (low b are.0, all_low Is low bytes are.1)
