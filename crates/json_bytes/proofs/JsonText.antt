-- The JSON value of bytes that are a text, and of those that aren't.
use Rattle.std.proofs.Common.{◌≡◌, ℕ, List, Some, None, refl, inl, inr}
use Rattle.std.proofs.lemmas.Bool.{cases_Bool}
use Rattle.std.proofs.lemmas.Str.{IsUtf8-from_is_utf8, is_utf8-from_IsUtf8}
use Rattle.std.specs.Str.{IsUtf8, is_utf8}
use Rattle.serde_json.specs.Data.{Data}
use Rattle.serde_json.specs.Read.{read}
use Rattle.json_bytes.specs.Reading.{json_of}

pub json_some : (bytes : List ℕ) (d : Data) → IsUtf8 bytes → read bytes ≡ Some d → json_of bytes ≡ Some d
json_some bytes d text is = rw (is_utf8-from_IsUtf8 bytes text) is

pub json_none : (bytes : List ℕ) → (IsUtf8 bytes → read bytes ≡ None) → json_of bytes ≡ None
json_none bytes is = elim (cases_Bool (is_utf8 bytes)) [
  | inl hit ↦ rw hit (is (IsUtf8-from_is_utf8 bytes hit))
  | inr miss ↦ rw miss refl
]
