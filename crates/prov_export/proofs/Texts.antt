-- The text of a plain document is read back as that document.
use Rattle.std.proofs.Common.{◌≡◌, ℕ, suc, ◌≤◌, List, [], ◌∷◌, ◌++◌, Bool, true, false, refl, sym, ap, ap₂, ◌∙◌, subst, append-nil}
use Rattle.std.specs.Prelude.{Option, Some, option_map, option_and_then, max, decimal, IsUtf8}
use Rattle.std.specs.Ordering.{nat_cmp}
use Rattle.std.specs.Cmp.Lexicographic.{slice_cmp}
use Rattle.std.specs.declared.cmp.Ordering.TheVariants.{Greater}
use Rattle.std.proofs.lemmas.Fmt.{IsAscii-decimal}
use Rattle.std.proofs.lemmas.Str.{IsUtf8-append, IsUtf8-from_ascii}
use Rattle.json.specs.Token.{Token}
use Rattle.json.specs.Lex.{tokens}
use Rattle.json.specs.Print.{quoted}
use Rattle.json.specs.Json as json
use Rattle.json.specs.Tree as tree
use Rattle.json.proofs.Printed.Decimals.{IsNumber-decimal}
use Rattle.json.proofs.Printed.Tokens.{tokens-print}
use Rattle.json.proofs.Printed.Trees.{value-json_tokens, ArePrintable-json_tokens}
use Rattle.json.proofs.Printed.Utf8.{IsUtf8-are_ascii, IsUtf8-quoted}
use Rattle.serde_json.specs.Data.{unsigned, negative, float, Data, null, boolean, number, string, array, object, Members, no_members, member, put, depth, members_depth}
use Rattle.serde_json.specs.Read.{of_json, of_members, max_depth}
use Rattle.serde_json.specs.Written.{outline, members_outline, comma_if, compact_text, members_text}
use Rattle.serde_json.proofs.Numbers.{number_of-decimal}
use Rattle.serde_json.proofs.Texts.{print-outline}
use Rattle.prov_export.proofs.Plain.{AllAbove, Rises, IsPlain, ArePlain, TextLaw}

-- ---- members that go in one after another, each above those before it

abbrev followed : Members → Members → Members
followed no_members ms = ms
followed (member k d ns) ms = member k d (followed ns ms)

abbrev AllBelow : Members → List ℕ → Type 0
AllBelow no_members k = Unit {0}
AllBelow (member l e ns) k = (slice_cmp nat_cmp k l ≡ Greater) × AllBelow ns k

put_last : (k : List ℕ) (d : Data) (ns : Members) → AllBelow ns k → put k d ns ≡ followed ns (member k d no_members)
put_last k d no_members below = refl
put_last k d (member l e ns) below = rw below.0 (ap (member l e) (put_last k d ns below.1))

followed_twice : (ns ms os : Members) → followed (followed ns ms) os ≡ followed ns (followed ms os)
followed_twice no_members ms os = refl
followed_twice (member k d ns) ms os = ap (member k d) (followed_twice ns ms os)

abbrev BelowAll : Members → Members → Type 0
BelowAll ns no_members = Unit {0}
BelowAll ns (member k d ms) = AllBelow ns k × BelowAll ns ms

below_more : (ns : Members) (k l : List ℕ) (d : Data) → AllBelow ns l → slice_cmp nat_cmp l k ≡ Greater → AllBelow (followed ns (member k d no_members)) l
below_more no_members k l d below above = (above, tt)
below_more (member m e ns) k l d below above = (below.0, below_more ns k l d below.1 above)

all_more : (ns : Members) (k : List ℕ) (d : Data) (ms : Members) → BelowAll ns ms → AllAbove k ms → BelowAll (followed ns (member k d no_members)) ms
all_more ns k d no_members below above = tt
all_more ns k d (member l e ms) below above = (below_more ns k l d below.0 above.0, all_more ns k d ms below.1 above.1)

followed_none : (ns : Members) → ns ≡ followed ns no_members
followed_none no_members = refl
followed_none (member k d ns) = ap (member k d) (followed_none ns)

none_below : (ms : Members) → BelowAll no_members ms
none_below no_members = tt
none_below (member k d ms) = (tt, none_below ms)

mutual
  of_outline : (d : Data) → IsPlain d → of_json (outline d) ≡ Some d
  of_outline null plain = absurd plain
  of_outline (boolean b) plain = absurd plain
  of_outline (number (unsigned n)) plain = ap (option_map number) (number_of-decimal n plain)
  of_outline (number (negative z)) plain = absurd plain
  of_outline (number (float x)) plain = absurd plain
  of_outline (string s) plain = refl
  of_outline (array ds) plain = absurd plain
  of_outline (object ms) plain = ap (option_map object) (of_members_outline ms no_members plain.0 (none_below ms) plain.1)

  of_members_outline : (ms ns : Members) → Rises ms → BelowAll ns ms → ArePlain ms → of_members (members_outline ms) ns ≡ Some (followed ns ms)
  of_members_outline no_members ns rises below plain = ap Some (followed_none ns)
  of_members_outline (member k d ms) ns rises below plain =
      ap (option_and_then (λ (e : Data). of_members (members_outline ms) (put k e ns))) (of_outline d plain.1.0)
      ∙ ap (of_members (members_outline ms)) (put_last k d ns below.0)
      ∙ of_members_outline ms (followed ns (member k d no_members)) rises.1 (all_more ns k d ms below.1 rises.0) plain.1.1
      ∙ ap Some (followed_twice ns (member k d no_members) ms)

-- ---- numbers, and depth

mutual
  numbers : (d : Data) → IsPlain d → tree.HasNumbers (outline d)
  numbers null plain = absurd plain
  numbers (boolean b) plain = absurd plain
  numbers (number (unsigned n)) plain = IsNumber-decimal n plain
  numbers (number (negative z)) plain = absurd plain
  numbers (number (float x)) plain = absurd plain
  numbers (string s) plain = tt
  numbers (array ds) plain = absurd plain
  numbers (object ms) plain = members_numbers ms plain.1

  members_numbers : (ms : Members) → ArePlain ms → tree.MembersHaveNumbers (members_outline ms)
  members_numbers no_members plain = tt
  members_numbers (member k d ms) plain = (numbers d plain.1.0, members_numbers ms plain.1.1)

mutual
  depth_same : (d : Data) → IsPlain d → tree.depth (outline d) ≡ depth d
  depth_same null plain = absurd plain
  depth_same (boolean b) plain = absurd plain
  depth_same (number n) plain = refl
  depth_same (string s) plain = refl
  depth_same (array ds) plain = absurd plain
  depth_same (object ms) plain = ap suc (members_depth_same ms plain.1)

  members_depth_same : (ms : Members) → ArePlain ms → tree.members_depth (members_outline ms) ≡ members_depth ms
  members_depth_same no_members plain = refl
  members_depth_same (member k d ms) plain = ap₂ max (depth_same d plain.1.0) (members_depth_same ms plain.1.1)

-- ---- UTF-8

ascii_front : (x : ℕ) (xs : List ℕ) → IsUtf8 (x ∷ []) → IsUtf8 xs → IsUtf8 (x ∷ xs)
ascii_front x xs one more = IsUtf8-append (x ∷ []) xs one more

comma_text : (later : Bool) → IsUtf8 (comma_if later)
comma_text true = IsUtf8-are_ascii (44 ∷ []) refl
comma_text false = IsUtf8-are_ascii [] refl

mutual
  text_utf8 : (d : Data) → IsPlain d → IsUtf8 (compact_text d)
  text_utf8 null plain = absurd plain
  text_utf8 (boolean b) plain = absurd plain
  text_utf8 (number (unsigned n)) plain = IsUtf8-from_ascii (decimal n) (IsAscii-decimal n plain)
  text_utf8 (number (negative z)) plain = absurd plain
  text_utf8 (number (float x)) plain = absurd plain
  text_utf8 (string s) plain = IsUtf8-quoted s plain
  text_utf8 (array ds) plain = absurd plain
  text_utf8 (object ms) plain = ascii_front 123 (members_text false ms) (IsUtf8-are_ascii (123 ∷ []) refl) (members_utf8 false ms plain.1)

  members_utf8 : (later : Bool) (ms : Members) → ArePlain ms → IsUtf8 (members_text later ms)
  members_utf8 later no_members plain = IsUtf8-are_ascii (125 ∷ []) refl
  members_utf8 later (member k d ms) plain =
      IsUtf8-append (comma_if later) (quoted k ++ 58 ∷ (compact_text d ++ members_text true ms)) (comma_text later)
      (IsUtf8-append (quoted k) (58 ∷ (compact_text d ++ members_text true ms)) (IsUtf8-quoted k plain.0)
      (ascii_front 58 (compact_text d ++ members_text true ms) (IsUtf8-are_ascii (58 ∷ []) refl)
      (IsUtf8-append (compact_text d) (members_text true ms) (text_utf8 d plain.1.0) (members_utf8 true ms plain.1.1))))

-- ---- the law

tokens_are : (d : Data) → IsPlain d → tokens (compact_text d) ≡ tree.json_tokens (outline d)
tokens_are d plain =
    ap tokens (sym (print-outline d)) ∙ tokens-print (tree.json_tokens (outline d)) (ArePrintable-json_tokens (outline d) (numbers d plain))

pub text_law : TextLaw
text_law d plain shallow = (
  ap (λ (ts : List Token). option_and_then of_json (option_and_then (λ (p : json.Json × List Token). json.if_last p.0 p.1) (json.value max_depth ts)))
      (tokens_are d plain ∙ sym (append-nil (tree.json_tokens (outline d))))
      ∙ ap (λ (o : Option (json.Json × List Token)). option_and_then of_json (option_and_then (λ (p : json.Json × List Token). json.if_last p.0 p.1) o))
      (value-json_tokens (outline d) max_depth [] (subst (λ (n : ℕ). n ≤ max_depth) (sym (depth_same d plain)) shallow))
      ∙ of_outline d plain,
  text_utf8 d plain,
)
