-- An optional number, increased by one.
use Rattle.std.proofs.Common.{◌≡◌, ap, refl, ℕ, zero, suc, Option, Some, None, arith}
use Rattle.std.specs.Option.{option_map}

pub not_some : (o : Option ℕ) → option_map suc o ≡ None → o ≡ None
not_some None is = refl
not_some (Some i) is = cc

pub some_more : (o : Option ℕ) (i : ℕ) → option_map suc o ≡ Some (suc i) → o ≡ Some i
some_more None i is = cc
some_more (Some k) i is = let same : suc k ≡ suc i = cc in let it : k ≡ i = omega (arith, same) in ap Some it

pub none_zero : (o : Option ℕ) → option_map suc o ≡ Some zero → ⊥
none_zero None is = cc
none_zero (Some k) is = let same : suc k ≡ zero = cc in omega (arith, same)

pub later_some : (o : Option ℕ) (P : Type 0) → ((k : ℕ) → o ≡ Some k → P) → (i : ℕ) → option_map suc o ≡ Some i → P
later_some None P there i is = cc
later_some (Some k) P there i is = there k refl
