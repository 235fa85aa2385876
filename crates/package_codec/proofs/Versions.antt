-- The version of bytes, by their magic.
use Rattle.std.proofs.Common.{◌≡◌, ℕ, Bool, true, false, cond, List, length, take, Option, Some, None, refl, sym, ap, ◌∙◌}
use Rattle.std.specs.Prelude.{bytes_eq, ◌↔◌}
use Rattle.std.proofs.lemmas.Slice.Eq.{bytes_eq-Decides}
use Rattle.package_codec.specs.Version.{Version, One, Two, magic, HasMagic, has_magic, version_of}

pub magic_length : (v : Version) → length (magic v) ≡ 8
magic_length One = refl
magic_length Two = refl

magic_fact : (v : Version) (bytes : List ℕ) → has_magic v bytes ≡ true → HasMagic v bytes
magic_fact v bytes h = (bytes_eq-Decides (take 8 bytes) (magic v)).0 h

magic_test : (v : Version) (bytes : List ℕ) → HasMagic v bytes → has_magic v bytes ≡ true
magic_test v bytes h = (bytes_eq-Decides (take 8 bytes) (magic v)).1 h

-- bytes with the second magic don't have the first
other_magic : (bytes : List ℕ) → HasMagic Two bytes → has_magic One bytes ≡ false
other_magic bytes h = ap (λ (l : List ℕ). bytes_eq l (magic One)) h

abbrev chosen : Bool → Bool → Option Version
chosen one two = cond one (Some One) (cond two (Some Two) None)

pub version_is : (v : Version) (bytes : List ℕ) → HasMagic v bytes → version_of bytes ≡ Some v
version_is One bytes h = ap (λ (b : Bool). chosen b (has_magic Two bytes)) (magic_test One bytes h)
version_is Two bytes h = (λ j. chosen (other_magic bytes h j) (magic_test Two bytes h j))

abbrev some_version : Version → Option Version
some_version v = Some v

chosen_one : (one two : Bool) → chosen one two ≡ some_version One → one ≡ true
chosen_one true two e = refl
chosen_one false true e = absurd cc
chosen_one false false e = absurd cc

chosen_two : (one two : Bool) → chosen one two ≡ some_version Two → two ≡ true
chosen_two true two e = absurd cc
chosen_two false true e = refl
chosen_two false false e = absurd cc

pub version_fact : (v : Version) (bytes : List ℕ) → version_of bytes ≡ Some v → HasMagic v bytes
version_fact One bytes e = magic_fact One bytes (chosen_one (has_magic One bytes) (has_magic Two bytes) e)
version_fact Two bytes e = magic_fact Two bytes (chosen_two (has_magic One bytes) (has_magic Two bytes) e)

pub version_exact : (bytes : List ℕ) (o : Option Version) → o ≡ version_of bytes → (v : Version) → (o ≡ Some v) ↔ HasMagic v bytes
version_exact bytes o is v = (λ e. version_fact v bytes (sym is ∙ e), λ h. is ∙ version_is v bytes h)

no_version : (o : Option Version) → ((v : Version) → ¬ (o ≡ Some v)) → o ≡ None
no_version None h = refl
no_version (Some v) h = absurd (h v refl)

pub version_none : (bytes : List ℕ) (o : Option Version) → o ≡ version_of bytes → (o ≡ None) ↔ ((v : Version) → ¬ HasMagic v bytes)
version_none bytes o is = (
  λ e v h. let no : some_version v ≡ None = sym (is ∙ version_is v bytes h) ∙ e in cc,
  λ none. no_version o (λ v e. none v (version_fact v bytes (sym is ∙ e))),
)
