-- Options that are known to be `Some` or `None`, and the parts that they come from.
use Rattle.std.proofs.Common.{◌≡◌, Bool, true, false, refl, subst, Some, None, inl, inr, ◌⊎◌, is_some}
use Rattle.std.specs.Prelude.{Option, is_none, if◌then◌else◌}
use Rattle.std.specs.Option.{option_or}
pub use Rattle.std.proofs.lemmas.Option.{same_Some as same-some, none-some}
use Rattle.ldv_value.specs.Options.{◌>>=◌, only_if}

pub bind-some : {A B : Type 0} (o : Option A) (f : A → Option B) (y : B) → (o >>= f) ≡ Some y → (x : A) × (o ≡ Some x) × (f x ≡ Some y)
bind-some None f y h = cc
bind-some (Some x) f y h = (x, refl, h)

pub only_if-some : {A : Type 0} (b : Bool) (o : Option A) (y : A) → only_if b o ≡ Some y → (b ≡ true) × (o ≡ Some y)
only_if-some true o y h = (refl, h)
only_if-some false o y h = cc

-- a value that passes a test
pub tested-some : {A : Type 0} (test : A → Bool) (w x : A) → only_if (test w) (Some w) ≡ Some x → (w ≡ x) × (test x ≡ true)
tested-some test w x h =
    let p = only_if-some (test w) (Some w) x h in
    let same : w ≡ x = same-some w x p.1 in
    (same, subst (λ v. test v ≡ true) same p.0)

pub if-some : {A : Type 0} (b : Bool) (o p : Option A) (y : A) → (if b then o else p) ≡ Some y → ((b ≡ true) × (o ≡ Some y)) ⊎ (p ≡ Some y)
if-some true o p y h = inl (refl, h)
if-some false o p y h = inr h

pub is_some-false : {A : Type 0} (o : Option A) → is_some o ≡ false → o ≡ None
is_some-false None h = refl
is_some-false (Some x) h = cc

pub is_some-true : {A : Type 0} (o : Option A) → is_some o ≡ true → (x : A) × (o ≡ Some x)
is_some-true None h = cc
is_some-true (Some x) h = (x, refl)

pub is_none-true : {A : Type 0} (o : Option A) → is_none o ≡ true → o ≡ None
is_none-true None h = refl
is_none-true (Some x) h = cc

pub option_or-none : {A : Type 0} (o : Option A) → option_or o None ≡ o
option_or-none None = refl
option_or-none (Some x) = refl

pub option_or-assoc : {A : Type 0} (a b c : Option A) → option_or (option_or a b) c ≡ option_or a (option_or b c)
option_or-assoc None b c = refl
option_or-assoc (Some x) b c = refl
