-- A set, and the entries that are still to be added.
use Rattle.std.proofs.Common.{◌≡◌, refl, ℕ, Bool, true, false, cond, Option, Some, None}
use Rattle.std.specs.Option.{option_or}

pub one_first : (b : Bool) (v : ℕ) (o : Option ℕ) → option_or (cond b (Some v) None) o ≡ cond b (Some v) o
one_first true v o = refl
one_first false v o = refl
