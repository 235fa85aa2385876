-- The values that instructions compute are good.
use Rattle.std.proofs.Common.{◌≡◌, ℕ, zero, suc, ◌^◌, ◌<◌, ◌≤◌, List, [], ◌∷◌, ◌++◌, length, take, refl, false, arith, inl, inr}
use Rattle.std.specs.Prelude.{ℤ, pos, negsuc, Option, Some, None, nat_lt}
use Rattle.std.specs.Fmt.{signed_decimal}
use Rattle.std.specs.Str.{IsUtf8, is_utf8}
use Rattle.std.specs.List.{before_first}
use Rattle.std.proofs.lemmas.Bool.{cases_Bool, ltb-true, ltb-false, le-leb}
use Rattle.std.proofs.lemmas.Fmt.{IsAscii-signed}
use Rattle.std.proofs.lemmas.Str.{IsUtf8-append, IsUtf8-from_ascii, IsUtf8-from_is_utf8}
use Rattle.ldv_value.specs.FileState.{is_line_feed, line_length, text_read, first_read, line_read, FileState, read_line, rest_at}
use Rattle.ldv_value.specs.Limits.{text_limit}
use Rattle.ldv_value.specs.declared.line.LineRead.{LineRead}
use Rattle.ldv_value.specs.declared.line.LineRead.TheVariants as lines
use Rattle.script_parse.specs.Number.{number_of}
use Rattle.script_parse.proofs.NumberLaw.{number_sound}
use Rattle.sql_model.specs.Codes.{code_of}
use Rattle.sql_model.specs.declared.reply.SqlRefusal.{SqlRefusal}
use Rattle.sql_model.specs.declared.reply.SqlRefusal.TheVariants as refusals
use Rattle.run_model.specs.Types.{Value, Null, Int, Text, CalcOp, Reply, Rows, Changed, Refused}
use Rattle.run_model.specs.Core.{Cursor}
use Rattle.run_model.specs.StepBase.{Computation, Yields, Misused, number_within}
use Rattle.run_model.specs.StepReplies.{row_count, count_in, code_in, status_value}
use Rattle.run_model.specs.StepVariables.{calculation, result_of, concatenation, text_within, number_or_misuse, to_number}
use Rattle.value_laws.specs.Values.{GoodValue}
use Rattle.value_laws.proofs.ScriptTokens.{number_fits}

-- ---- single values

pub small_good : (n : ℕ) → n < 2 ^ 63 → GoodValue (Int (pos n))
small_good n below = (record { sfits = below }, refl)

pub text_good : (t : List ℕ) → IsUtf8 t → length t ≤ text_limit → GoodValue (Text t)
text_good t utf8 short = (utf8, le-leb (length t) text_limit short)

not_over : (n : ℕ) → nat_lt text_limit n ≡ false → n ≤ text_limit
not_over n fits = ltb-false text_limit n fits

-- ---- what is computed: a good value, or a status of misuse

abbrev pub GoodComputed : Computation → Type 0
GoodComputed (Yields v) = GoodValue v
GoodComputed (Misused status) = status < 256

pub within_good : (z : ℤ) → GoodComputed (number_within z)
within_good (pos n) = elim (cases_Bool (nat_lt n (2 ^ 63))) [
  | inl fits ↦ rw fits (small_good n (ltb-true n (2 ^ 63) fits))
  | inr over ↦ let byte : 241 < 256 = omega arith in rw over byte
]
within_good (negsuc n) = elim (cases_Bool (nat_lt n (2 ^ 63))) [
  | inl fits ↦
      let good : GoodValue (Int (negsuc n)) = (record { sfits = ltb-true n (2 ^ 63) fits }, refl) in
      rw fits good
  | inr over ↦ let byte : 241 < 256 = omega arith in rw over byte
]

pub calculated_good : (op : CalcOp) (v w : Value) → GoodComputed (calculation op v w)
calculated_good op Null w = omega arith
calculated_good op (Int m) Null = omega arith
calculated_good op (Int m) (Int n) = within_good (result_of op m n)
calculated_good op (Int m) (Text t) = omega arith
calculated_good op (Text s) w = omega arith

-- ---- joined texts

shown_number : (z : ℤ) → GoodValue (Int z) → IsUtf8 (signed_decimal z)
shown_number (pos n) good =
    let below : n < 2 ^ 63 = good.0.sfits in
    IsUtf8-from_ascii (signed_decimal (pos n)) (IsAscii-signed (pos n) below)
shown_number (negsuc n) good =
    let below : n < 2 ^ 63 = good.0.sfits in
    IsUtf8-from_ascii (signed_decimal (negsuc n)) (IsAscii-signed (negsuc n) below)

joined_good : (s t : List ℕ) → IsUtf8 s → IsUtf8 t → GoodComputed (text_within (s ++ t))
joined_good s t first second = elim (cases_Bool (nat_lt text_limit (length (s ++ t)))) [
  | inl over ↦ let byte : 242 < 256 = omega arith in rw over byte
  | inr fits ↦ rw fits (text_good (s ++ t) (IsUtf8-append s t first second) (not_over (length (s ++ t)) fits))
]

pub glued_good : (v w : Value) → GoodValue v → GoodValue w → GoodComputed (concatenation v w)
glued_good Null w first second = omega arith
glued_good (Int m) Null first second = omega arith
glued_good (Int m) (Int n) first second =
    joined_good (signed_decimal m) (signed_decimal n) (shown_number m first) (shown_number n second)
glued_good (Int m) (Text t) first second = joined_good (signed_decimal m) t (shown_number m first) second.0
glued_good (Text s) Null first second = omega arith
glued_good (Text s) (Int n) first second = joined_good s (signed_decimal n) first.0 (shown_number n second)
glued_good (Text s) (Text t) first second = joined_good s t first.0 second.0

-- ---- numbers that texts write

written_good : (t : List ℕ) (o : Option ℤ) → number_of t ≡ o → GoodComputed (number_or_misuse o)
written_good t None is = omega arith
written_good t (Some z) is = (number_fits t z (number_sound t z is), refl)

pub to_number_good : (v : Value) → GoodValue v → GoodComputed (to_number v)
to_number_good Null good = omega arith
to_number_good (Int z) good = good
to_number_good (Text t) good = written_good t (number_of t) refl

-- ---- numbers of replies

pub counted_good : (o : Option Cursor) → GoodComputed (row_count o)
counted_good None = omega arith
counted_good (Some cursor) = within_good (pos (count_in cursor.reply))

refusal_small : (r : SqlRefusal) → code_of r < 2 ^ 63
refusal_small refusals.Syntax = omega arith
refusal_small refusals.NoTable = omega arith
refusal_small refusals.NoColumn = omega arith
refusal_small refusals.TypeClash = omega arith
refusal_small refusals.NotNull = omega arith
refusal_small (refusals.KeyTaken table key) = omega arith
refusal_small refusals.Full = omega arith
refusal_small (refusals.NoParent table key) = omega arith
refusal_small (refusals.HasChild table key) = omega arith

code_small : (r : Reply) → code_in r < 2 ^ 63
code_small (Rows rows) = omega arith
code_small (Changed n) = omega arith
code_small (Refused refusal) = refusal_small refusal

pub status_value_good : (o : Option Cursor) → GoodComputed (status_value o)
status_value_good None = omega arith
status_value_good (Some cursor) = small_good (code_in cursor.reply) (code_small cursor.reply)

-- ---- lines

abbrev pub GoodLine : LineRead → Type 0
GoodLine lines.End = Unit {0}
GoodLine (lines.Line line next) = GoodValue (Text line)
GoodLine lines.TooLong = Unit {0}
GoodLine lines.NotText = Unit {0}

text_line : (line : List ℕ) (next : ℕ) → length line ≤ text_limit → GoodLine (text_read line next)
text_line line next short = elim (cases_Bool (is_utf8 line)) [
  | inl utf8 ↦ rw utf8 (text_good line (IsUtf8-from_is_utf8 line utf8) short)
  | inr other ↦ rw other tt
]

taken_short : (n : ℕ) (l : List ℕ) → length (take n l) ≤ n
taken_short zero l = omega arith
taken_short (suc n) [] = omega arith
taken_short (suc n) (x ∷ l) = omega (arith, taken_short n l)

first_line : (at : ℕ) (bytes : List ℕ) → GoodLine (first_read at bytes)
first_line at bytes = elim (cases_Bool (nat_lt text_limit (line_length bytes))) [
  | inl over ↦ rw over tt
  | inr fits ↦
      rw fits
      (text_line (before_first is_line_feed bytes) _
      (omega (arith, taken_short (line_length bytes) bytes, not_over (line_length bytes) fits)))
]

line_good : (at : ℕ) (bytes : List ℕ) → GoodLine (line_read at bytes)
line_good at [] = tt
line_good at (b ∷ bytes) = first_line at (b ∷ bytes)

pub read_good : (s : FileState) (path : List ℕ) (at : ℕ) → GoodLine (read_line s path at)
read_good s path at = line_good at (rest_at s path at)
