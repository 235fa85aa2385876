-- The smallest fields of the format, how they are spelled and how they are read from the front of bytes.
use Rattle.std.specs.Prelude.{◌≡◌, ℕ, ℤ, zero, suc, List, [], ◌∷◌, ◌++◌, length, take, drop, Option, Some}
use Rattle.std.specs.Prelude.{None, Result, Ok, Err, nat_lt, if◌then◌else◌}
use Rattle.std.specs.List.{flat_map}
use Rattle.std.specs.Int.{Width, w8, w32, w64, byte_len, to_be_bytes, from_be_bytes, cast_signed}
use Rattle.ldv_value.specs.Texts.{text_of}
pub use Rattle.ldv_value.specs.Options.{◌>>=◌}
use Rattle.package_codec.specs.declared.decode_stop.DecodeStop.{DecodeStop}
use Rattle.package_codec.specs.declared.decode_stop.DecodeStop.TheVariants.{NoMemory, Malformed}

-- a value and the bytes after it, or nothing where the bytes begin with no spelling
abbrev pub DecodeResult : Type 0 → Type 0
DecodeResult X = Option (X × List ℕ)

-- one field and then another, which may depend on the first
abbrev pub then_at : {A B : Type 0} → (List ℕ → DecodeResult A)
    → (A → List ℕ → DecodeResult B) → List ℕ → DecodeResult (A × B)
then_at a_at b_at bytes = do
  a ← a_at bytes
  b ← b_at a.0 a.1
  Some ((a.0, b.0), b.1)

abbrev pub both_at : {A B : Type 0} → (List ℕ → DecodeResult A)
    → (List ℕ → DecodeResult B) → List ℕ → DecodeResult (A × B)
both_at a_at b_at = then_at a_at (λ a. b_at)

-- what is made of a field, where it can be made
abbrev pub made_at : {A B : Type 0} → (A → Option B) → (List ℕ → DecodeResult A) → List ℕ → DecodeResult B
made_at make a_at bytes = do
  a ← a_at bytes
  b ← make a.0
  Some (b, a.1)

-- A function returned what reading gives, and left what reading leaves, unless memory ran out.
abbrev pub Decodes : {X : Type 0} → Result X DecodeStop → List ℕ → DecodeResult X → Type 0
Decodes (Ok x) left read = read ≡ Some (x, left)
Decodes (Err NoMemory) left read = Unit {0}
Decodes (Err Malformed) left read = read ≡ None

abbrev pub bytes_at : ℕ → List ℕ → DecodeResult (List ℕ)
bytes_at n bytes = if nat_lt (length bytes) n then None else Some (take n bytes, drop n bytes)

-- A function returned what a test of a part gives, unless memory ran out.
abbrev pub Makes : {X : Type 0} → Result X DecodeStop → Option X → Type 0
Makes (Ok x) made = made ≡ Some x
Makes (Err NoMemory) made = Unit {0}
Makes (Err Malformed) made = made ≡ None

-- ---- numbers

abbrev pub number_at : Width → List ℕ → DecodeResult ℕ
number_at w bytes = do
  f ← bytes_at (byte_len w) bytes
  Some (from_be_bytes w f.0, f.1)

abbrev pub signed_at : List ℕ → DecodeResult ℤ
signed_at = made_at (λ n. Some (cast_signed w64 n)) (number_at w64)

-- a tag of one byte, and what follows it
abbrev pub tagged_at : {X : Type 0} → (ℕ → List ℕ → DecodeResult X) → List ℕ → DecodeResult X
tagged_at body_at bytes = do
  t ← number_at w8 bytes
  body_at t.0 t.1

-- ---- texts: the length and the bytes

abbrev pub text_spelling : List ℕ → List ℕ
text_spelling text = to_be_bytes w32 (length text) ++ text

abbrev pub sized_at : List ℕ → DecodeResult (List ℕ)
sized_at bytes = do
  n ← number_at w32 bytes
  bytes_at n.0 n.1

abbrev pub text_at : List ℕ → DecodeResult (List ℕ)
text_at = made_at text_of sized_at

-- ---- lists: the number of items and the items

abbrev pub items_at : {X : Type 0} → (List ℕ → DecodeResult X) → ℕ → List ℕ → DecodeResult (List X)
items_at item_at zero bytes = Some ([], bytes)
items_at item_at (suc n) bytes = do
  x ← item_at bytes
  xs ← items_at item_at n x.1
  Some (x.0 ∷ xs.0, xs.1)

abbrev pub list_at : {X : Type 0} → Width → (List ℕ → DecodeResult X) → List ℕ → DecodeResult (List X)
list_at w item_at bytes = do
  n ← number_at w bytes
  items_at item_at n.0 n.1

abbrev pub list_spelling : {X : Type 0} → Width → (X → List ℕ) → List X → List ℕ
list_spelling w item_spelling xs = to_be_bytes w (length xs) ++ flat_map item_spelling xs
