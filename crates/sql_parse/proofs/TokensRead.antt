-- Bytes that spell tokens are read as these tokens.
use Rattle.std.proofs.Common.{◌≡◌, ℕ, ◌+◌, ◌-◌, ◌*◌, ◌^◌, ◌<◌, ◌≤◌, min, List, [], ◌∷◌, ◌++◌, length, map, refl, sym, ap, ◌∙◌, subst, cond, true, false, inl, inr, Some, None, arith, append_assoc, append-nil, pos}
use Rattle.std.specs.Prelude.{◌==◌, ◌&&◌, IsTrue, IsUtf8, nat_le}
use Rattle.std.specs.List.{AllByRecursion}
use Rattle.std.specs.Str.{IsAscii}
use Rattle.std.proofs.lemmas.Bool.{cases_Bool, eqb-true, leb-true, lt-ltb}
use Rattle.std.proofs.lemmas.List.{length-map}
use Rattle.std.proofs.lemmas.Str.{IsUtf8-from_ascii}
use Rattle.std.proofs.lemmas.Str.Ascii.{IsAscii-nil, IsAscii-cons}
use Rattle.sql_model.specs.declared.token.Token.{Token}
use Rattle.sql_model.specs.declared.token.Token.TheVariants.{Word, Number, Quoted, Given}
use Rattle.sql_model.specs.declared.reading.LexState.{LexState}
use Rattle.sql_model.specs.declared.reading.LexState.TheVariants.{Between, InWord, InNumber, InText, InSymbol, Ended}
use Rattle.ldv_value.specs.Options.{◌>>=◌}
use Rattle.sql_model.specs.GrammarOfTokens.{AreBlanks, BeginsNot, is_inside, is_quote, digits_from, with_doubled_quotes, IsSymbol, IsWhole, IsToken, Spells}
use Rattle.ldv_value.specs.Digits.{is_digit}
use Rattle.sql_model.specs.TextBytes.{is_blank, is_letter, is_upper, lower_case_of}
use Rattle.ldv_value.specs.Limits.{text_limit}
use Rattle.ldv_value.specs.Scan.{before}
use Rattle.sql_model.specs.Tokens.{begins_symbol, is_pair, with_digit, word_token, number_token, text_token, symbol_token, short_symbol, start, step, finish, tokens_from, tokens_of}
use Rattle.ldv_value.proofs.Scanning.{stays-run, stays-only}
use Rattle.sql_parse.proofs.Choices.{or_go}
use Rattle.sql_parse.proofs.Symbols.{pair_symbol, symbol_low}
use Rattle.sql_parse.proofs.TokensSteps.{put, start_goes, word_closes, number_closes, quote_closes, symbol_closes, ended_closes, word_goes, number_goes, text_goes, text_quote, quote_quote, pair_goes}
use Rattle.sql_parse.proofs.TokensSound.{LIMIT, AreInside, AreAllDigits, longer_is}
use Rattle.ldv_value.proofs.Utf8Parts.{utf8-tail, utf8-cut, utf8-rest, text-made, short_text-made}
use Rattle.sql_parse.proofs.Quotes.{doubled_utf8}
use Rattle.ldv_value.proofs.Booleans.{and-parts, not-so}

-- ---- which bytes they are

within : (a b c : ℕ) → (nat_le a c && nat_le c b) ≡ true → (a ≤ c) × (c ≤ b)
within a b c h = let p = and-parts (nat_le a c) (nat_le c b) h in (leb-true a c p.0, leb-true c b p.1)

at_most : (b c : ℕ) → c ≤ 32 → (b == c) ≡ true → b ≤ 32
at_most b c low e = omega (arith, eqb-true b c e, low)

blank_low : (b : ℕ) → IsTrue (is_blank b) → b ≤ 32
blank_low b h = or_go _ _ h (λ h. or_go _ _ h (λ h. or_go _ _ h (at_most b 32 (omega arith)) (at_most b 9 (omega arith))) (at_most b 10 (omega arith))) (at_most b 13 (omega arith))

letter_range : (b : ℕ) → is_letter b ≡ true → (65 ≤ b) × (b ≤ 122)
letter_range b h =
    or_go _ _ h
    (λ h. or_go _ _ h (λ e. let p = within 65 90 b e in (p.0, omega (arith, p.1))) (λ e. let p = within 97 122 b e in (omega (arith, p.0), p.1)))
    (λ e. let is : b ≡ 95 = eqb-true b 95 e in (omega (arith, is), omega (arith, is)))

digit_range : (b : ℕ) → is_digit b ≡ true → (48 ≤ b) × (b ≤ 57)
digit_range b h = within 48 57 b h

letter_no_blank : (b : ℕ) → is_letter b ≡ true → is_blank b ≡ false
letter_no_blank b h = not-so (is_blank b) (λ is. omega (arith, blank_low b is, (letter_range b h).0))

digit_no_blank : (b : ℕ) → is_digit b ≡ true → is_blank b ≡ false
digit_no_blank b h = not-so (is_blank b) (λ is. omega (arith, blank_low b is, (digit_range b h).0))

digit_no_letter : (b : ℕ) → is_digit b ≡ true → is_letter b ≡ false
digit_no_letter b h = not-so (is_letter b) (λ is. omega (arith, (letter_range b is).0, (digit_range b h).1))

inside_low : (b : ℕ) → IsTrue (is_inside b) → b ≤ 122
inside_low b h = or_go _ _ h (λ e. (letter_range b e).1) (λ e. omega (arith, (digit_range b e).1))

folded_low : (b : ℕ) → IsTrue (is_inside b) → lower_case_of b < 128
folded_low b h = elim (cases_Bool (is_upper b)) [
  | inl upper ↦ let is : lower_case_of b ≡ b + 32 = rw upper refl in omega (arith, is, (within 65 90 b upper).1)
  | inr other ↦ let is : lower_case_of b ≡ b = rw other refl in omega (arith, is, inside_low b h)
]

all_ascii : (piece : List ℕ) → AreInside piece → IsAscii (map lower_case_of piece)
all_ascii [] h = IsAscii-nil
all_ascii (b ∷ piece) h = IsAscii-cons (lower_case_of b) (map lower_case_of piece) (folded_low b h.0) (all_ascii piece h.1)

-- ---- where a token begins

pub letter_starts : (b : ℕ) → is_letter b ≡ true → start b ≡ Some (InWord (lower_case_of b ∷ []))
letter_starts b h = rw (letter_no_blank b h, h) refl

pub digit_starts : (b : ℕ) → is_digit b ≡ true → start b ≡ Some (InNumber (b - 48))
digit_starts b h = rw (digit_no_blank b h, digit_no_letter b h, h) refl

begin : (b : ℕ) (bs : List ℕ) (p : LexState) → start b ≡ Some p → tokens_from (b ∷ bs) Between ≡ tokens_from bs p
begin b bs p h = start_goes b bs ∙ ap (λ o. o >>= λ p. tokens_from bs p) h

abbrev IsBlank : ℕ → Type 0
IsBlank b = IsTrue (is_blank b)

blank_stays : (b : ℕ) → IsTrue (is_blank b) → step Between b ≡ Some (Between, None)
blank_stays b h = let blank : is_blank b ≡ true = h in rw blank refl

-- ---- the bytes of a token

word_run : (piece w rest : List ℕ) → AreInside piece → BeginsNot is_inside rest → tokens_from (piece ++ rest) (InWord w) ≡ put (word_token (w ++ map lower_case_of piece)) rest
word_run [] w rest all ends = word_closes w rest ends ∙ ap (λ (l : List ℕ). put (word_token l) rest) (sym (append-nil w))
word_run (b ∷ piece) w rest all ends =
    word_goes w b (piece ++ rest) all.0 ∙ word_run piece (w ++ lower_case_of b ∷ []) rest all.1 ends
    ∙ ap (λ (l : List ℕ). put (word_token l) rest) (append_assoc w (lower_case_of b ∷ []) (map lower_case_of piece))

number_run : (piece : List ℕ) (n m : ℕ) (rest : List ℕ) → n ≡ min m LIMIT → AreAllDigits piece → BeginsNot is_inside rest
    → tokens_from (piece ++ rest) (InNumber n) ≡ put (number_token (min (digits_from m piece) LIMIT)) rest
number_run [] n m rest same all ends = number_closes n rest ends ∙ ap (λ (x : ℕ). put (number_token x) rest) same
number_run (b ∷ piece) n m rest same all ends =
    number_goes n b (piece ++ rest) all.0 ∙ number_run piece (with_digit n b) (m * 10 + (b - 48)) rest (longer_is n m b same) all.1 ends

text_run : (text t rest : List ℕ) → BeginsNot is_quote rest → tokens_from (with_doubled_quotes text ++ 39 ∷ rest) (InText t) ≡ put (text_token (t ++ text)) rest
text_run [] t rest ends = text_quote t rest ∙ quote_closes t rest ends ∙ ap (λ (l : List ℕ). put (text_token l) rest) (sym (append-nil t))
text_run (b ∷ text) t rest ends = elim (cases_Bool (is_quote b)) [
  | inl quote ↦
      let more : List ℕ = with_doubled_quotes text ++ 39 ∷ rest in
      let run : tokens_from (39 ∷ 39 ∷ more) (InText t) ≡ put (text_token (t ++ 39 ∷ text)) rest =
      text_quote t (39 ∷ more) ∙ quote_quote t more ∙ text_run text (t ++ 39 ∷ []) rest ends ∙ ap (λ (l : List ℕ). put (text_token l) rest) (append_assoc t (39 ∷ []) text) in
      subst (λ (c : ℕ). tokens_from (with_doubled_quotes (c ∷ text) ++ 39 ∷ rest) (InText t) ≡ put (text_token (t ++ c ∷ text)) rest) (sym (eqb-true b 39 quote)) run
  | inr other ↦
      let same : with_doubled_quotes (b ∷ text) ≡ b ∷ with_doubled_quotes text = ap (λ c. cond c (39 ∷ 39 ∷ with_doubled_quotes text) (b ∷ with_doubled_quotes text)) other in
      ap (λ (l : List ℕ). tokens_from (l ++ 39 ∷ rest) (InText t)) same ∙ text_goes t b (with_doubled_quotes text ++ 39 ∷ rest) other
      ∙ text_run text (t ++ b ∷ []) rest ends ∙ ap (λ (l : List ℕ). put (text_token l) rest) (append_assoc t (b ∷ []) text)
]

-- ---- tokens that are made

word_made : (w : List ℕ) → IsAscii w → length w ≤ 63 → word_token w ≡ Some (Word w)
word_made w ascii short =
    short_text-made Word w (IsUtf8-from_ascii w ascii) 63 short

number_made : (n : ℕ) → n ≤ 9223372036854775807 → number_token (min n LIMIT) ≡ Some (Number (pos n))
number_made n fits =
    let below : min n LIMIT < 2 ^ 63 = omega (arith, fits) in
    let same : min n LIMIT ≡ n = omega (arith, fits) in
    ap (λ c. cond c (Some (Number (pos (min n LIMIT)))) None) (lt-ltb (min n LIMIT) (2 ^ 63) below) ∙ ap (λ (x : ℕ). Some (Number (pos x))) same

-- ---- symbols

symbol_made : (s : List ℕ) → IsAscii s → symbol_token s ≡ Some (Word s)
symbol_made s ascii = text-made Word s (IsUtf8-from_ascii s ascii)

one_made : (b : ℕ) → b < 128 → symbol_token (b ∷ []) ≡ Some (Word (b ∷ []))
one_made b low = symbol_made (b ∷ []) (IsAscii-cons b [] low IsAscii-nil)

two_made : (a b : ℕ) → a < 128 → b < 128 → symbol_token (a ∷ b ∷ []) ≡ Some (Word (a ∷ b ∷ []))
two_made a b low below = symbol_made (a ∷ b ∷ []) (IsAscii-cons a (b ∷ []) low (IsAscii-cons b [] below IsAscii-nil))

single_run : (b : ℕ) (rest : List ℕ) → start b ≡ (symbol_token (b ∷ []) >>= λ t. Some (Ended t)) → b < 128 → tokens_from (b ∷ rest) Between ≡ before (Word (b ∷ []) ∷ []) (tokens_from rest Between)
single_run b rest h low = begin b rest (Ended (Word (b ∷ []))) (h ∙ ap (λ o. o >>= λ t. Some (Ended t)) (one_made b low)) ∙ ended_closes (Word (b ∷ [])) rest

short_run : (a : ℕ) (rest : List ℕ) (k : Token) → start a ≡ Some (InSymbol a) → short_symbol a ≡ Some k → BeginsNot (is_pair a) rest → tokens_from (a ∷ rest) Between ≡ before (k ∷ []) (tokens_from rest Between)
short_run a rest k h is ends = begin a rest (InSymbol a) h ∙ symbol_closes a rest ends ∙ ap (λ o. put o rest) is

pair_run : (a b : ℕ) (rest : List ℕ) (k : Token) → start a ≡ Some (InSymbol a) → is_pair a b ≡ true → symbol_token (a ∷ b ∷ []) ≡ Some k → tokens_from (a ∷ b ∷ rest) Between ≡ before (k ∷ []) (tokens_from rest Between)
pair_run a b rest k h pair is = begin a (b ∷ rest) (InSymbol a) h ∙ pair_goes a b rest pair ∙ ap (λ o. put o rest) is

short_ends : (a : ℕ) (rest : List ℕ) → begins_symbol a ≡ true → IsWhole (a ∷ []) rest → BeginsNot (is_pair a) rest
short_ends a [] h whole = tt
short_ends a (b ∷ rest) h whole = λ pair. whole (pair_symbol a b h pair)

by_symbol : (piece symbol rest : List ℕ) → piece ≡ symbol → tokens_from (symbol ++ rest) Between ≡ before (Word symbol ∷ []) (tokens_from rest Between)
    → tokens_from (piece ++ rest) Between ≡ before (Word piece ∷ []) (tokens_from rest Between)
by_symbol piece symbol rest e run = subst (λ (l : List ℕ). tokens_from (l ++ rest) Between ≡ before (Word l ∷ []) (tokens_from rest Between)) (sym e) run

symbol_run : (piece rest : List ℕ) → IsSymbol piece → IsWhole piece rest → tokens_from (piece ++ rest) Between ≡ before (Word piece ∷ []) (tokens_from rest Between)
symbol_run piece rest (inl e) whole = by_symbol piece (63 ∷ []) rest e (single_run 63 rest refl (omega arith))
symbol_run piece rest (inr (inl e)) whole = by_symbol piece (42 ∷ []) rest e (single_run 42 rest refl (omega arith))
symbol_run piece rest (inr (inr (inl e))) whole = by_symbol piece (43 ∷ []) rest e (single_run 43 rest refl (omega arith))
symbol_run piece rest (inr (inr (inr (inl e)))) whole = by_symbol piece (45 ∷ []) rest e (single_run 45 rest refl (omega arith))
symbol_run piece rest (inr (inr (inr (inr (inl e))))) whole = by_symbol piece (61 ∷ []) rest e (single_run 61 rest refl (omega arith))
symbol_run piece rest (inr (inr (inr (inr (inr (inl e)))))) whole = by_symbol piece (60 ∷ 62 ∷ []) rest e (pair_run 60 62 rest (Word (60 ∷ 62 ∷ [])) refl refl (two_made 60 62 (omega arith) (omega arith)))
symbol_run piece rest (inr (inr (inr (inr (inr (inr (inl e))))))) whole = by_symbol piece (33 ∷ 61 ∷ []) rest e (pair_run 33 61 rest (Word (33 ∷ 61 ∷ [])) refl refl (two_made 33 61 (omega arith) (omega arith)))
symbol_run piece rest (inr (inr (inr (inr (inr (inr (inr (inl e)))))))) whole = by_symbol piece (60 ∷ []) rest e (short_run 60 rest (Word (60 ∷ [])) refl (one_made 60 (omega arith)) (short_ends 60 rest refl (subst (λ (l : List ℕ). IsWhole l rest) e whole)))
symbol_run piece rest (inr (inr (inr (inr (inr (inr (inr (inr (inl e))))))))) whole = by_symbol piece (60 ∷ 61 ∷ []) rest e (pair_run 60 61 rest (Word (60 ∷ 61 ∷ [])) refl refl (two_made 60 61 (omega arith) (omega arith)))
symbol_run piece rest (inr (inr (inr (inr (inr (inr (inr (inr (inr (inl e)))))))))) whole = by_symbol piece (62 ∷ []) rest e (short_run 62 rest (Word (62 ∷ [])) refl (one_made 62 (omega arith)) (short_ends 62 rest refl (subst (λ (l : List ℕ). IsWhole l rest) e whole)))
symbol_run piece rest (inr (inr (inr (inr (inr (inr (inr (inr (inr (inr (inl e))))))))))) whole = by_symbol piece (62 ∷ 61 ∷ []) rest e (pair_run 62 61 rest (Word (62 ∷ 61 ∷ [])) refl refl (two_made 62 61 (omega arith) (omega arith)))
symbol_run piece rest (inr (inr (inr (inr (inr (inr (inr (inr (inr (inr (inr (inl e)))))))))))) whole = by_symbol piece (40 ∷ []) rest e (single_run 40 rest refl (omega arith))
symbol_run piece rest (inr (inr (inr (inr (inr (inr (inr (inr (inr (inr (inr (inr (inl e))))))))))))) whole = by_symbol piece (41 ∷ []) rest e (single_run 41 rest refl (omega arith))
symbol_run piece rest (inr (inr (inr (inr (inr (inr (inr (inr (inr (inr (inr (inr (inr (inl e)))))))))))))) whole = by_symbol piece (44 ∷ []) rest e (single_run 44 rest refl (omega arith))
symbol_run piece rest (inr (inr (inr (inr (inr (inr (inr (inr (inr (inr (inr (inr (inr (inr (inl e))))))))))))))) whole = by_symbol piece (46 ∷ []) rest e (single_run 46 rest refl (omega arith))
symbol_run piece rest (inr (inr (inr (inr (inr (inr (inr (inr (inr (inr (inr (inr (inr (inr (inr (inl e)))))))))))))))) whole = by_symbol piece (59 ∷ []) rest e (single_run 59 rest refl (omega arith))
symbol_run piece rest (inr (inr (inr (inr (inr (inr (inr (inr (inr (inr (inr (inr (inr (inr (inr (inr x)))))))))))))))) whole = absurd x

-- ---- one token

token_run : (t : Token) (piece rest : List ℕ) → IsUtf8 (piece ++ rest) → IsToken piece rest t → tokens_from (piece ++ rest) Between ≡ before (t ∷ []) (tokens_from rest Between)
token_run (Word w) [] rest u (inl (is, e, ends)) = absurd is
token_run (Word w) (b ∷ piece) rest u (inl (is, e, ends)) =
    let short : length (lower_case_of b ∷ map lower_case_of piece) ≤ 63 = omega (arith, is.2, length-map piece lower_case_of) in
    let low : lower_case_of b < 128 = folded_low b (rw is.0 refl) in
    let made : word_token (lower_case_of b ∷ map lower_case_of piece) ≡ Some (Word w) =
    word_made (lower_case_of b ∷ map lower_case_of piece) (IsAscii-cons (lower_case_of b) (map lower_case_of piece) low (all_ascii piece is.1)) short ∙ ap (λ (l : List ℕ). Some (Word l)) (sym e) in
    begin b (piece ++ rest) (InWord (lower_case_of b ∷ [])) (letter_starts b is.0) ∙ word_run piece (lower_case_of b ∷ []) rest is.1 ends ∙ ap (λ o. put o rest) made
token_run (Word w) piece rest u (inr (is, e, whole)) = symbol_run piece rest is whole ∙ ap (λ (l : List ℕ). before (Word l ∷ []) (tokens_from rest Between)) (sym e)
token_run (Number z) [] rest u (are, e, fits, ends) = absurd (are.0 refl)
token_run (Number z) (b ∷ piece) rest u (are, e, fits, ends) =
    let range : (48 ≤ b) × (b ≤ 57) = digit_range b are.1.0 in
    let small : b - 48 ≡ min (0 * 10 + (b - 48)) LIMIT = omega (arith, range.1) in
    let made : number_token (min (digits_from (0 * 10 + (b - 48)) piece) LIMIT) ≡ Some (Number z) = number_made (digits_from (0 * 10 + (b - 48)) piece) fits ∙ ap (λ x. Some (Number x)) (sym e) in
    begin b (piece ++ rest) (InNumber (b - 48)) (digit_starts b are.1.0) ∙ number_run piece (b - 48) (0 * 10 + (b - 48)) rest small are.1.1 ends ∙ ap (λ o. put o rest) made
token_run (Quoted text) piece rest u (e, short, ends) =
    let u2 : IsUtf8 (39 ∷ with_doubled_quotes text ++ 39 ∷ rest) = subst IsUtf8 (ap (λ (l : List ℕ). l ++ rest) e ∙ ap (λ (l : List ℕ). 39 ∷ l) (append_assoc (with_doubled_quotes text) (39 ∷ []) rest)) u in
    let inner : IsUtf8 (with_doubled_quotes text) = (utf8-cut (with_doubled_quotes text) 39 rest (omega arith) (utf8-tail 39 (with_doubled_quotes text ++ 39 ∷ rest) (omega arith) u2)).0 in
    ap (λ (l : List ℕ). tokens_from (l ++ rest) Between) e
    ∙ begin 39 ((with_doubled_quotes text ++ 39 ∷ []) ++ rest) (InText []) refl
    ∙ ap (λ (l : List ℕ). tokens_from l (InText [])) (append_assoc (with_doubled_quotes text) (39 ∷ []) rest)
    ∙ text_run text [] rest ends ∙ ap (λ o. put o rest) (short_text-made Quoted text (doubled_utf8 text inner) text_limit short)
token_run (Given v) piece rest u is = absurd is

-- ---- what stands after a token is UTF-8

inside_bytes : (piece : List ℕ) → AreInside piece → AllByRecursion (λ b. b < 128) piece
inside_bytes [] h = tt
inside_bytes (b ∷ piece) h = (omega (arith, inside_low b h.0), inside_bytes piece h.1)

digit_bytes : (piece : List ℕ) → AreAllDigits piece → AllByRecursion (λ b. b < 128) piece
digit_bytes [] h = tt
digit_bytes (b ∷ piece) h = (omega (arith, (digit_range b h.0).1), digit_bytes piece h.1)

blank_bytes : (piece : List ℕ) → AreBlanks piece → AllByRecursion (λ b. b < 128) piece
blank_bytes [] h = tt
blank_bytes (b ∷ piece) h = (omega (arith, blank_low b h.0), blank_bytes piece h.1)

pub after_token : (t : Token) (piece rest : List ℕ) → IsUtf8 (piece ++ rest) → IsToken piece rest t → IsUtf8 rest
after_token (Word w) [] rest u (inl (is, e, ends)) = absurd is
after_token (Word w) (b ∷ piece) rest u (inl (is, e, ends)) = utf8-rest (b ∷ piece) rest (omega (arith, (letter_range b is.0).1), inside_bytes piece is.1) u
after_token (Word w) piece rest u (inr (is, e, whole)) = utf8-rest piece rest (symbol_low piece is) u
after_token (Number z) piece rest u (are, e, fits, ends) = utf8-rest piece rest (digit_bytes piece are.1) u
after_token (Quoted text) piece rest u (e, short, ends) =
    let u2 : IsUtf8 (39 ∷ with_doubled_quotes text ++ 39 ∷ rest) = subst IsUtf8 (ap (λ (l : List ℕ). l ++ rest) e ∙ ap (λ (l : List ℕ). 39 ∷ l) (append_assoc (with_doubled_quotes text) (39 ∷ []) rest)) u in
    utf8-tail 39 rest (omega arith) (utf8-cut (with_doubled_quotes text) 39 rest (omega arith) (utf8-tail 39 (with_doubled_quotes text ++ 39 ∷ rest) (omega arith) u2)).1
after_token (Given v) piece rest u is = absurd is

-- ---- all of them

pub tokens_complete : (ts : List Token) (bytes : List ℕ) → IsUtf8 bytes → Spells bytes ts → tokens_of bytes ≡ Some ts
tokens_complete [] bytes u h = stays-only step finish IsBlank Between blank_stays bytes h
tokens_complete (t ∷ ts) bytes u (front, piece, rest, e, blanks, is, more) =
    let after_word : IsUtf8 (piece ++ rest) = utf8-rest front (piece ++ rest) (blank_bytes front blanks) (subst IsUtf8 e u) in
    ap (λ (l : List ℕ). tokens_from l Between) e ∙ stays-run step finish IsBlank Between blank_stays front (piece ++ rest) blanks ∙ token_run t piece rest after_word is
    ∙ ap (before (t ∷ [])) (tokens_complete ts rest (after_token t piece rest after_word is) more)
