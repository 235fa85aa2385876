-- The branch of a choice that gave its result.
use Rattle.std.proofs.Common.{◌≡◌, Bool, true, false, refl, Some}
use Rattle.std.specs.Prelude.{Option, ◌||◌, if◌then◌else◌}

pub choose : {A G : Type 0} (b : Bool) (o q : Option A) (y : A) → (if b then o else q) ≡ Some y → (b ≡ true → o ≡ Some y → G) → (b ≡ false → q ≡ Some y → G) → G
choose true o q y h f g = f refl h
choose false o q y h f g = g refl h

pub or_go : {G : Type 0} (a b : Bool) → (a || b) ≡ true → (a ≡ true → G) → (b ≡ true → G) → G
or_go true b h f g = f refl
or_go false b h f g = g h
