-- Whether bytes are a text.
use Rattle.std.proofs.Common.{◌≡◌, ℕ, List, Bool, true, false, Some, None, refl}
use Rattle.std.specs.Str.{IsUtf8, is_utf8}
use Rattle.std.proofs.lemmas.Str.{IsUtf8-from_is_utf8, is_utf8-from_IsUtf8}
use Rattle.ldv_value.specs.Texts.{text_of}

pub is_text : (bytes : List ℕ) → IsUtf8 bytes → text_of bytes ≡ Some bytes
is_text bytes h = rw (is_utf8-from_IsUtf8 bytes h) refl

none_from : (bytes : List ℕ) (b : Bool) → is_utf8 bytes ≡ b → ¬ (IsUtf8 bytes) → text_of bytes ≡ None
none_from bytes true e h = absurd (h (IsUtf8-from_is_utf8 bytes e))
none_from bytes false e h = rw e refl

pub no_text : (bytes : List ℕ) → ¬ (IsUtf8 bytes) → text_of bytes ≡ None
no_text bytes h = none_from bytes (is_utf8 bytes) refl h
