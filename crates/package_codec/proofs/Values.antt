-- Values, files and tables: what is spelled is read, and what is read was spelled so.
use Rattle.std.proofs.Common.{◌≡◌, ℕ, zero, suc, ◌^◌, ◌<◌, true, List, [], ◌++◌, length, Option, Some, None, refl, arith, ◌&&◌}
use Rattle.std.specs.List.{list_all, AllByRecursion}
use Rattle.std.specs.Str.{IsUtf8}
use Rattle.std.specs.Int.{w8, w64, to_be_bytes, cast_unsigned}
use Rattle.std.specs.Int.RustNames.{FitsSigned}
use Rattle.ldv_value.specs.declared.value.Value.{Value}
use Rattle.ldv_value.specs.declared.value.Value.TheVariants.{Null, Int, Text}
use Rattle.ldv_value.proofs.Booleans.{and-parts, and-from}
use Rattle.run_model.specs.declared.package.PackedFile.{PackedFile}
use Rattle.package_codec.specs.Fields.{both_at, signed_at, text_spelling, sized_at, text_at}
use Rattle.package_codec.specs.Spelling.{value_spelling, values_spelling, content_spelling, file_spelling}
use Rattle.package_codec.specs.Typed.{TypedValue, TypedValues, TypedFile}
use Rattle.package_codec.specs.Room.{fits_u16_count}
use Rattle.package_codec.specs.Counts.{IsCountable, CountedValue, CountedContent, CountedFile}
use Rattle.package_codec.specs.Reading.{value_of_tag, value_at, values_at, content_of_tag, content_at, file_at}
use Rattle.package_codec.proofs.Laws.{IsBytes, IsField, always, list_all-always, restate, then_law, struct_law}
use Rattle.package_codec.proofs.Numbers.{signed_law, text_law, sized_law, short_list_law}
use Rattle.package_codec.proofs.Tags.{TookTagged, tagged_law, bare_took, case_took, case_again}

-- ---- values

abbrev value_tag : Value → ℕ
value_tag Null = 0
value_tag (Int z) = 1
value_tag (Text t) = 2

abbrev value_rest : Value → List ℕ
value_rest Null = []
value_rest (Int z) = to_be_bytes w64 (cast_unsigned w64 z)
value_rest (Text t) = text_spelling t

value_again : (v : Value) (rest : List ℕ) → TypedValue v → always v ≡ true → CountedValue v → value_of_tag (value_tag v) (value_rest v ++ rest) ≡ Some (v, rest)
value_again Null rest t f n = refl
value_again (Int z) rest t f n = case_again _ (FitsSigned w64) always signed_at Int z rest signed_law t refl tt
value_again (Text x) rest t f n = case_again _ IsUtf8 always text_at Text x rest text_law t refl n

value_took : (t : ℕ) (bytes : List ℕ) (v : Value) (rest : List ℕ) → IsBytes bytes → value_of_tag t bytes ≡ Some (v, rest) → TookTagged value_tag value_rest TypedValue always CountedValue t bytes v rest
value_took zero bytes v rest h e = bare_took value_tag value_rest TypedValue always CountedValue 0 bytes Null v rest refl refl tt refl tt e
value_took (suc zero) bytes v rest h e = case_took (λ z. to_be_bytes w64 (cast_unsigned w64 z)) (FitsSigned w64) always signed_at Int value_tag value_rest TypedValue always CountedValue 1 bytes v rest signed_law h e (λ a. refl) (λ a. refl) (λ a t. t) (λ a f. refl) (λ a n. n)
value_took (suc (suc zero)) bytes v rest h e = case_took text_spelling IsUtf8 always text_at Text value_tag value_rest TypedValue always CountedValue 2 bytes v rest text_law h e (λ a. refl) (λ a. refl) (λ a t. t) (λ a f. refl) (λ a n. n)
value_took (suc (suc (suc t))) bytes v rest h e = absurd cc

value_short : (v : Value) → length (value_rest v) < 2 ^ 32 → CountedValue v
value_short Null len = tt
value_short (Int z) len = tt
value_short (Text t) len = text_law.short t len

value_small : (v : Value) → value_tag v < 256
value_small Null = omega arith
value_small (Int z) = omega arith
value_small (Text t) = omega arith

value_same : (v : Value) → value_spelling v ≡ to_be_bytes w8 (value_tag v) ++ value_rest v
value_same Null = refl
value_same (Int z) = refl
value_same (Text t) = refl

pub value_law : IsField value_spelling TypedValue always CountedValue value_at
value_law = tagged_law value_spelling value_tag value_rest TypedValue always CountedValue value_of_tag (record { small = value_small; again = value_again; took = value_took; short = value_short }) value_same

pub values_law : IsField values_spelling TypedValues fits_u16_count (AllByRecursion CountedValue) values_at
values_law = restate values_spelling TypedValues TypedValues (λ xs. fits_u16_count xs && list_all always xs) fits_u16_count values_at (short_list_law value_spelling TypedValue always value_at value_law)
    (λ xs t h. (t, and-from (fits_u16_count xs) (list_all always xs) h (list_all-always xs))) (λ xs t h. (t, (and-parts (fits_u16_count xs) (list_all always xs) h).0))

-- ---- files

abbrev content_tag : Option (List ℕ) → ℕ
content_tag (Some bytes) = 1
content_tag None = 2

abbrev content_rest : Option (List ℕ) → List ℕ
content_rest (Some bytes) = text_spelling bytes
content_rest None = []

abbrev Anything : Option (List ℕ) → Type 0
Anything x = Unit {0}

content_again : (v : Option (List ℕ)) (rest : List ℕ) → Anything v → always v ≡ true → CountedContent v → content_of_tag (content_tag v) (content_rest v ++ rest) ≡ Some (v, rest)
content_again None rest t f n = refl
content_again (Some x) rest t f n = case_again _ (λ _. Unit {0}) always sized_at Some x rest sized_law tt refl n

content_took : (t : ℕ) (bytes : List ℕ) (v : Option (List ℕ)) (rest : List ℕ) → IsBytes bytes → content_of_tag t bytes ≡ Some (v, rest) → TookTagged content_tag content_rest Anything always CountedContent t bytes v rest
content_took zero bytes v rest h e = absurd cc
content_took (suc zero) bytes v rest h e = case_took text_spelling (λ _. Unit {0}) always sized_at Some content_tag content_rest Anything always CountedContent 1 bytes v rest sized_law h e (λ a. refl) (λ a. refl) (λ a t. tt) (λ a f. refl) (λ a n. n)
content_took (suc (suc zero)) bytes v rest h e = bare_took content_tag content_rest Anything always CountedContent 2 bytes None v rest refl refl tt refl tt e
content_took (suc (suc (suc t))) bytes v rest h e = absurd cc

content_short : (v : Option (List ℕ)) → length (content_rest v) < 2 ^ 32 → CountedContent v
content_short (Some x) len = sized_law.short x len
content_short None len = tt

content_small : (v : Option (List ℕ)) → content_tag v < 256
content_small (Some x) = omega arith
content_small None = omega arith

content_same : (v : Option (List ℕ)) → content_spelling v ≡ to_be_bytes w8 (content_tag v) ++ content_rest v
content_same (Some x) = refl
content_same None = refl

content_law : IsField content_spelling Anything always CountedContent content_at
content_law = tagged_law content_spelling content_tag content_rest Anything always CountedContent content_of_tag (record { small = content_small; again = content_again; took = content_took; short = content_short }) content_same

abbrev FileParts : Type 0
FileParts = List ℕ × Option (List ℕ)

file_parts_law : IsField (λ (p : FileParts). text_spelling p.0 ++ content_spelling p.1) (λ (p : FileParts). IsUtf8 p.0 × Unit {0}) always (λ (p : FileParts). IsCountable p.0 × CountedContent p.1) (both_at text_at content_at)
file_parts_law = then_law text_spelling IsUtf8 always text_at content_spelling Anything (λ a. always) (λ a. content_at) text_law (λ a. content_law)

pub file_law : IsField file_spelling TypedFile always CountedFile file_at
file_law = restate file_spelling (λ f. IsUtf8 f.path × Unit {0}) TypedFile always always file_at
    (struct_law (λ (p : FileParts). text_spelling p.0 ++ content_spelling p.1) (λ (p : FileParts). IsUtf8 p.0 × Unit {0}) always (both_at text_at content_at) (λ (p : FileParts). record { path = p.0; content = p.1 }) (λ (f : PackedFile). (f.path, f.content)) file_parts_law (λ f. refl) (λ p. refl))
    (λ f t h. ((t, tt), h)) (λ f t h. (t.0, h))

pub file_filled : (f : PackedFile) → 0 < length (file_spelling f)
file_filled f = omega arith
