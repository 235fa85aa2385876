-- Cases to split on.
use Rattle.std.proofs.Common.{◌≡◌, Option, Some, None, refl, inl, inr, ◌⊎◌}
pub use Rattle.std.proofs.lemmas.Bool.{cases_Bool as cases-bool}

pub cases-option : {A : Type 0} (o : Option A) → (o ≡ None) ⊎ ((x : A) × (o ≡ Some x))
cases-option None = inl refl
cases-option (Some x) = inr (x, refl)
