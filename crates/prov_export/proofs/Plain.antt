-- Documents with objects, texts and numbers only, as those of graphs are: their text is read back.
use Rattle.std.specs.Prelude.{◌≡◌, ℕ, ◌<◌, ◌≤◌, ◌^◌, List, Some}
use Rattle.std.specs.Ordering.{nat_cmp}
use Rattle.std.specs.Cmp.Lexicographic.{slice_cmp}
use Rattle.std.specs.Str.{IsUtf8}
use Rattle.std.specs.declared.cmp.Ordering.TheVariants.{Greater}
use Rattle.serde_json.specs.Data.{Num, unsigned, negative, float, Data, null, boolean, number, string, array, object, Members, no_members, member, depth}
use Rattle.serde_json.specs.Read.{read, max_depth}
use Rattle.serde_json.specs.Written.{compact_text}

-- all names are above one, or below it
abbrev pub AllAbove : List ℕ → Members → Type 0
AllAbove k no_members = Unit {0}
AllAbove k (member l e ms) = (slice_cmp nat_cmp l k ≡ Greater) × AllAbove k ms

-- each name is above those before it
abbrev pub Rises : Members → Type 0
Rises no_members = Unit {0}
Rises (member k d ms) = AllAbove k ms × Rises ms

abbrev pub IsPlainNumber : Num → Type 0
IsPlainNumber (unsigned n) = n < 2 ^ 64
IsPlainNumber (negative z) = ⊥
IsPlainNumber (float x) = ⊥

abbrev mutual
  pub IsPlain : Data → Type 0
  IsPlain null = ⊥
  IsPlain (boolean b) = ⊥
  IsPlain (number n) = IsPlainNumber n
  IsPlain (string s) = IsUtf8 s
  IsPlain (array ds) = ⊥
  IsPlain (object ms) = Rises ms × ArePlain ms

  pub ArePlain : Members → Type 0
  ArePlain no_members = Unit {0}
  ArePlain (member k d ms) = IsUtf8 k × (IsPlain d × ArePlain ms)

-- the text of a plain value is read as it
abbrev pub TextLaw : Type 0
TextLaw = (d : Data) → IsPlain d → depth d ≤ max_depth → (read (compact_text d) ≡ Some d) × IsUtf8 (compact_text d)
