-- Tokens as they are split off a text: where each begins, goes on and ends.
use Rattle.std.proofs.Common.{◌≡◌, ◌≢◌, ℕ, ◌+◌, ◌-◌, ◌<◌, ◌≤◌, List, [], ◌∷◌, ◌++◌, length, map, take, drop, get_or, refl, sym, ap, ◌∙◌, subst, Bool, true, false, cond, inl, inr, Some, None, arith}
use Rattle.std.specs.Prelude.{◌&&◌, ◌||◌, ◌==◌, nat_lt}
use Rattle.std.proofs.lemmas.Bool.{cases_Bool, eqb-true, ltb-true, ltb-false, lt-ltb, ne_eqb}
use Rattle.std.proofs.lemmas.List.{drop_all, drop-map, drop_more, get_or-drop, length-drop, length-map, map-append, take-map, take_more}
use Rattle.ldv_value.specs.Options.{◌>>=◌}
use Rattle.ldv_value.proofs.Booleans.{and-parts, false-not}
use Rattle.sql_model.specs.declared.reading.LexState.{LexState}
use Rattle.sql_model.specs.declared.reading.LexState.TheVariants.{Between, InWord, InNumber, InText, AfterQuote, InSymbol}
use Rattle.sql_model.specs.GrammarOfTokens.{BeginsNot, is_inside, is_quote}
use Rattle.ldv_value.specs.Digits.{is_digit}
use Rattle.sql_model.specs.TextBytes.{is_blank, is_letter, lower_case_of}
use Rattle.sql_model.specs.Tokens.{begins_symbol, is_pair, is_whole_symbol, with_digit, number_token, short_symbol, start, symbol_token, text_token, tokens_from, word_token}
use Rattle.sql_parse.specs.inner.Lexing.{blank_at, content_at, digit_at, inside_at, letter_at, next_at, pair_at, put_at, quote_at, tokens_at}
use Rattle.sql_parse.proofs.Symbols.{begins_cases, whole_cases}
use Rattle.sql_parse.proofs.TokensRead.{letter_starts, digit_starts}
use Rattle.sql_parse.proofs.TokensSteps.{put, start_goes, word_closes, number_closes, quote_closes, symbol_closes, word_goes, number_goes, number_stops, text_goes, text_quote, quote_quote, pair_goes, whole_goes}

-- ---- parts of a text

at_drop : (bs : List ℕ) (i : ℕ) → i < length bs → drop i bs ≡ get_or bs i 0 ∷ drop (i + 1) bs
at_drop bs i h = drop_more bs i 0 h

pub piece_one : (bs : List ℕ) (i : ℕ) → i < length bs → take (i + 1 - i) (drop i bs) ≡ get_or bs i 0 ∷ []
piece_one bs i h =
    let one : i + 1 - i ≡ 1 = omega arith in
    ap (λ (n : ℕ). take n (drop i bs)) one ∙ ap (λ (l : List ℕ). take 1 l) (at_drop bs i h)

piece_two : (bs : List ℕ) (i : ℕ) → i + 1 < length bs → take (i + 2 - i) (drop i bs) ≡ get_or bs i 0 ∷ get_or bs (i + 1) 0 ∷ []
piece_two bs i h =
    let two : i + 2 - i ≡ 2 = omega arith in
    let first : i < length bs = omega (arith, h) in
    ap (λ (n : ℕ). take n (drop i bs)) two ∙ ap (λ (l : List ℕ). take 2 l) (at_drop bs i first)
    ∙ ap (λ (l : List ℕ). take 2 (get_or bs i 0 ∷ l)) (at_drop bs (i + 1) h)

piece_more : (bs : List ℕ) (i j : ℕ) → i < j → j < length bs → take (j + 1 - i) (drop i bs) ≡ take (j - i) (drop i bs) ++ get_or bs j 0 ∷ []
piece_more bs i j on h =
    let more : j + 1 - i ≡ (j - i) + 1 = omega (arith, on) in
    let back : i + (j - i) ≡ j = omega (arith, on) in
    let inside : j - i < length (drop i bs) = omega (arith, length-drop i bs, on, h) in
    ap (λ (n : ℕ). take n (drop i bs)) more ∙ take_more (drop i bs) (j - i) 0 inside
    ∙ ap (λ (b : ℕ). take (j - i) (drop i bs) ++ b ∷ []) (get_or-drop i bs (j - i) 0 ∙ ap (λ (n : ℕ). get_or bs n 0) back)

folded_more : (bs : List ℕ) (i j : ℕ) → i < j → j < length bs
    → map lower_case_of (take (j + 1 - i) (drop i bs)) ≡ map lower_case_of (take (j - i) (drop i bs)) ++ lower_case_of (get_or bs j 0) ∷ []
folded_more bs i j on h = ap (map lower_case_of) (piece_more bs i j on h) ∙ map-append lower_case_of (take (j - i) (drop i bs)) (get_or bs j 0 ∷ [])

-- a word is cut out of the text in lower case
pub word_cut : (text : List ℕ) (i n : ℕ) → take n (drop i (map lower_case_of text)) ≡ map lower_case_of (take n (drop i text))
word_cut text i n = ap (take n) (drop-map lower_case_of i text) ∙ take-map lower_case_of n (drop i text)

pub lower_long : (text lower : List ℕ) → lower ≡ map lower_case_of text → length lower ≡ length text
lower_long text lower is = ap length is ∙ length-map text lower_case_of

-- ---- tests at a place

below : (i n : ℕ) (b : Bool) → (nat_lt i n && b) ≡ true → i < n
below i n b h = ltb-true i n (and-parts (nat_lt i n) b h).0

met : (i n : ℕ) (b : Bool) → (nat_lt i n && b) ≡ true → b ≡ true
met i n b h = (and-parts (nat_lt i n) b h).1

unmet : (i n : ℕ) (b : Bool) → (nat_lt i n && b) ≡ false → i < n → b ≡ false
unmet i n b h inside = sym (ap (λ c. c && b) (lt-ltb i n inside)) ∙ h

begins_not : (test : ℕ → Bool) (bs : List ℕ) (j : ℕ) → (nat_lt j (length bs) && test (get_or bs j 0)) ≡ false → BeginsNot test (drop j bs)
begins_not test bs j h = elim (cases_Bool (nat_lt j (length bs))) [
  | inl inside ↦
      let lt : j < length bs = ltb-true j (length bs) inside in
      subst (BeginsNot test) (sym (at_drop bs j lt)) (false-not (test (get_or bs j 0)) (unmet j (length bs) (test (get_or bs j 0)) h lt))
  | inr past ↦ subst (BeginsNot test) (sym (drop_all j bs (ltb-false j (length bs) past))) tt
]

quote_below : (bs : List ℕ) (j : ℕ) → quote_at bs j ≡ true → j < length bs
unfolding quote_at
quote_below bs j h = below j (length bs) (is_quote (get_or bs j 0)) h

quote_is : (bs : List ℕ) (j : ℕ) → quote_at bs j ≡ true → get_or bs j 0 ≡ 39
unfolding quote_at
quote_is bs j h = eqb-true (get_or bs j 0) 39 (met j (length bs) (is_quote (get_or bs j 0)) h)

no_quote : (bs : List ℕ) (j : ℕ) → quote_at bs j ≡ false → BeginsNot is_quote (drop j bs)
unfolding quote_at
no_quote bs j h = begins_not is_quote bs j h

quote_not : (bs : List ℕ) (j : ℕ) → quote_at bs j ≡ false → j < length bs → is_quote (get_or bs j 0) ≡ false
unfolding quote_at
quote_not bs j h inside = unmet j (length bs) (is_quote (get_or bs j 0)) h inside

-- ---- what a byte begins

starts : (bs : List ℕ) (i : ℕ) → i < length bs → tokens_from (drop i bs) Between ≡ (start (get_or bs i 0) >>= λ p. tokens_from (drop (i + 1) bs) p)
starts bs i h = ap (λ (l : List ℕ). tokens_from l Between) (at_drop bs i h) ∙ start_goes (get_or bs i 0) (drop (i + 1) bs)

begins : (bs : List ℕ) (i : ℕ) (p : LexState) → i < length bs → start (get_or bs i 0) ≡ Some p → tokens_from (drop i bs) Between ≡ tokens_from (drop (i + 1) bs) p
begins bs i p h is = starts bs i h ∙ ap (λ o. o >>= λ q. tokens_from (drop (i + 1) bs) q) is

blank_starts : (b : ℕ) → is_blank b ≡ true → start b ≡ Some Between
blank_starts b blank = rw blank refl

symbol_starts : (b : ℕ) → begins_symbol b ≡ true → start b ≡ Some (InSymbol b)
symbol_starts b first = begins_cases (λ c. start c ≡ Some (InSymbol c)) b first refl refl refl

single_goes : (b : ℕ) (bs : List ℕ) → is_whole_symbol b ≡ true → (start b >>= λ p. tokens_from bs p) ≡ put (symbol_token (b ∷ [])) bs
single_goes b bs whole =
    whole_cases (λ c. (start c >>= λ p. tokens_from bs p) ≡ put (symbol_token (c ∷ [])) bs) b whole
    (whole_goes (symbol_token (63 ∷ [])) bs) (whole_goes (symbol_token (42 ∷ [])) bs) (whole_goes (symbol_token (43 ∷ [])) bs) (whole_goes (symbol_token (45 ∷ [])) bs)
    (whole_goes (symbol_token (61 ∷ [])) bs) (whole_goes (symbol_token (40 ∷ [])) bs) (whole_goes (symbol_token (41 ∷ [])) bs) (whole_goes (symbol_token (44 ∷ [])) bs)
    (whole_goes (symbol_token (46 ∷ [])) bs) (whole_goes (symbol_token (59 ∷ [])) bs)

pub blank_goes : (bs : List ℕ) (j : ℕ) → blank_at bs j ≡ true → tokens_at bs j Between ≡ tokens_at bs (j + 1) Between
unfolding blank_at tokens_at
blank_goes bs j h =
    begins bs j Between (below j (length bs) (is_blank (get_or bs j 0)) h) (blank_starts (get_or bs j 0) (met j (length bs) (is_blank (get_or bs j 0)) h))

-- no token begins so
pub no_token : (bs : List ℕ) (i : ℕ) → i < length bs → is_blank (get_or bs i 0) ≡ false → is_letter (get_or bs i 0) ≡ false → is_digit (get_or bs i 0) ≡ false
    → get_or bs i 0 ≢ 39 → begins_symbol (get_or bs i 0) ≡ false → is_whole_symbol (get_or bs i 0) ≡ false → tokens_at bs i Between ≡ None
unfolding tokens_at
no_token bs i h blank letter digit quote first whole =
    let other : (get_or bs i 0 == 39) ≡ false = ne_eqb (get_or bs i 0) 39 quote in
    let none : start (get_or bs i 0) ≡ None = rw (blank, letter, digit, other, first, whole) refl in
    starts bs i h ∙ ap (λ o. o >>= λ q. tokens_from (drop (i + 1) bs) q) none

-- ---- a word

pub word_begins : (bs : List ℕ) (i : ℕ) → i < length bs → is_letter (get_or bs i 0) ≡ true
    → tokens_at bs i Between ≡ tokens_at bs (i + 1) (InWord (map lower_case_of (take (i + 1 - i) (drop i bs))))
unfolding tokens_at
word_begins bs i h letter =
    begins bs i (InWord (lower_case_of (get_or bs i 0) ∷ [])) h (letter_starts (get_or bs i 0) letter)
    ∙ ap (λ (w : List ℕ). tokens_from (drop (i + 1) bs) (InWord w)) (sym (ap (map lower_case_of) (piece_one bs i h)))

pub word_more : (bs : List ℕ) (i j : ℕ) → i < j → inside_at bs j ≡ true
    → tokens_at bs j (InWord (map lower_case_of (take (j - i) (drop i bs)))) ≡ tokens_at bs (j + 1) (InWord (map lower_case_of (take (j + 1 - i) (drop i bs))))
unfolding inside_at tokens_at
word_more bs i j on h =
    let inside : j < length bs = below j (length bs) (is_inside (get_or bs j 0)) h in
    let w : List ℕ = map lower_case_of (take (j - i) (drop i bs)) in
    ap (λ (l : List ℕ). tokens_from l (InWord w)) (at_drop bs j inside)
    ∙ word_goes w (get_or bs j 0) (drop (j + 1) bs) (met j (length bs) (is_inside (get_or bs j 0)) h)
    ∙ ap (λ (v : List ℕ). tokens_from (drop (j + 1) bs) (InWord v)) (sym (folded_more bs i j on inside))

pub word_ends : (bs : List ℕ) (w : List ℕ) (j : ℕ) → inside_at bs j ≡ false → tokens_at bs j (InWord w) ≡ put_at (word_token w) bs j
unfolding inside_at tokens_at next_at
word_ends bs w j h = word_closes w (drop j bs) (begins_not is_inside bs j h)

pub ruleset word_rules = (word_begins, word_more, word_ends)

-- ---- a number

pub number_begins : (bs : List ℕ) (i : ℕ) → i < length bs → is_digit (get_or bs i 0) ≡ true → tokens_at bs i Between ≡ tokens_at bs (i + 1) (InNumber (get_or bs i 0 - 48))
unfolding tokens_at
number_begins bs i h digit = begins bs i (InNumber (get_or bs i 0 - 48)) h (digit_starts (get_or bs i 0) digit)

pub number_more : (bs : List ℕ) (j n : ℕ) → digit_at bs j ≡ true → tokens_at bs j (InNumber n) ≡ tokens_at bs (j + 1) (InNumber (with_digit n (get_or bs j 0)))
unfolding digit_at tokens_at
number_more bs j n h =
    ap (λ (l : List ℕ). tokens_from l (InNumber n)) (at_drop bs j (below j (length bs) (is_digit (get_or bs j 0)) h))
    ∙ number_goes n (get_or bs j 0) (drop (j + 1) bs) (met j (length bs) (is_digit (get_or bs j 0)) h)

-- a letter stands after it
pub number_breaks : (bs : List ℕ) (j n : ℕ) → digit_at bs j ≡ false → letter_at bs j ≡ true → tokens_at bs j (InNumber n) ≡ None
unfolding digit_at letter_at tokens_at
number_breaks bs j n digit letter =
    let inside : j < length bs = below j (length bs) (is_letter (get_or bs j 0)) letter in
    ap (λ (l : List ℕ). tokens_from l (InNumber n)) (at_drop bs j inside)
    ∙ number_stops n (get_or bs j 0) (drop (j + 1) bs) (unmet j (length bs) (is_digit (get_or bs j 0)) digit inside) (met j (length bs) (is_letter (get_or bs j 0)) letter)

neither : (a b c : Bool) → (a && b) ≡ false → (a && c) ≡ false → (a && (b || c)) ≡ false
neither false b c h g = refl
neither true false c h g = g
neither true true c h g = h

pub number_ends : (bs : List ℕ) (j n : ℕ) → digit_at bs j ≡ false → letter_at bs j ≡ false → tokens_at bs j (InNumber n) ≡ put_at (number_token n) bs j
unfolding digit_at letter_at tokens_at next_at
number_ends bs j n digit letter =
    number_closes n (drop j bs) (begins_not is_inside bs j (neither (nat_lt j (length bs)) (is_letter (get_or bs j 0)) (is_digit (get_or bs j 0)) letter digit))

pub ruleset number_rules = (number_begins, number_more, number_breaks, number_ends)

-- ---- a text between quotes

pub text_begins : (bs : List ℕ) (i : ℕ) → i < length bs → get_or bs i 0 ≡ 39 → tokens_at bs i Between ≡ tokens_at bs (i + 1) (InText [])
unfolding tokens_at
text_begins bs i h quote = begins bs i (InText []) h (subst (λ (b : ℕ). start b ≡ Some (InText [])) (sym quote) refl)

at_quote : (bs t : List ℕ) (j : ℕ) → quote_at bs j ≡ true → tokens_from (drop j bs) (InText t) ≡ tokens_from (drop (j + 1) bs) (AfterQuote t)
at_quote bs t j h =
    ap (λ (l : List ℕ). tokens_from l (InText t)) (at_drop bs j (quote_below bs j h))
    ∙ ap (λ (b : ℕ). tokens_from (b ∷ drop (j + 1) bs) (InText t)) (quote_is bs j h) ∙ text_quote t (drop (j + 1) bs)

no_second : (bs : List ℕ) (j : ℕ) → content_at bs j ≡ false → quote_at bs j ≡ true → quote_at bs (j + 1) ≡ false
unfolding content_at
no_second bs j h quote = sym (ap (λ b. cond b (quote_at bs (j + 1)) (nat_lt j (length bs))) quote) ∙ h

-- where no content stands, a quote does, or the text ends
at_last : (bs : List ℕ) (j : ℕ) → content_at bs j ≡ false → j < length bs → quote_at bs j ≡ true
unfolding content_at
at_last bs j h inside = elim (cases_Bool (quote_at bs j)) [
  | inl quote ↦ quote
  | inr other ↦ absurd (omega (arith, ltb-false j (length bs) (sym (ap (λ b. cond b (quote_at bs (j + 1)) (nat_lt j (length bs))) other) ∙ h), inside))
]

-- two quotes are one
pub content_two : (bs t : List ℕ) (j : ℕ) → quote_at bs j ≡ true → quote_at bs (j + 1) ≡ true
    → tokens_at bs j (InText t) ≡ tokens_at bs (j + 2) (InText (t ++ get_or bs j 0 ∷ []))
unfolding tokens_at
content_two bs t j quote second =
    let two : (j + 1) + 1 ≡ j + 2 = omega arith in
    at_quote bs t j quote ∙ ap (λ (l : List ℕ). tokens_from l (AfterQuote t)) (at_drop bs (j + 1) (quote_below bs (j + 1) second))
    ∙ ap (λ (b : ℕ). tokens_from (b ∷ drop ((j + 1) + 1) bs) (AfterQuote t)) (quote_is bs (j + 1) second)
    ∙ quote_quote t (drop ((j + 1) + 1) bs) ∙ ap (λ (n : ℕ). tokens_from (drop n bs) (InText (t ++ 39 ∷ []))) two
    ∙ ap (λ (b : ℕ). tokens_from (drop (j + 2) bs) (InText (t ++ b ∷ []))) (sym (quote_is bs j quote))

pub content_one : (bs t : List ℕ) (j : ℕ) → j < length bs → quote_at bs j ≡ false
    → tokens_at bs j (InText t) ≡ tokens_at bs (j + 1) (InText (t ++ get_or bs j 0 ∷ []))
unfolding tokens_at
content_one bs t j inside other =
    ap (λ (l : List ℕ). tokens_from l (InText t)) (at_drop bs j inside) ∙ text_goes t (get_or bs j 0) (drop (j + 1) bs) (quote_not bs j other inside)

pub ruleset byte_rules = (content_two, content_one)

pub content_ends : (bs t : List ℕ) (j : ℕ) → content_at bs j ≡ false → j < length bs → tokens_at bs j (InText t) ≡ put_at (text_token t) bs (j + 1)
unfolding tokens_at next_at
content_ends bs t j h inside =
    let quote : quote_at bs j ≡ true = at_last bs j h inside in
    at_quote bs t j quote ∙ quote_closes t (drop (j + 1) bs) (no_quote bs (j + 1) (no_second bs j h quote))

-- no quote ends it
pub content_open : (bs t : List ℕ) (j : ℕ) → length bs ≤ j → tokens_at bs j (InText t) ≡ None
unfolding tokens_at
content_open bs t j past = ap (λ (l : List ℕ). tokens_from l (InText t)) (drop_all j bs past)

pub ruleset content_rules = (text_begins, content_ends, content_open)

-- ---- a symbol

pub symbol_two : (bs : List ℕ) (i : ℕ) → i < length bs → begins_symbol (get_or bs i 0) ≡ true → pair_at bs i ≡ true
    → tokens_at bs i Between ≡ put_at (symbol_token (take (i + 2 - i) (drop i bs))) bs (i + 2)
unfolding pair_at tokens_at next_at
symbol_two bs i h first second =
    let inside : i + 1 < length bs = below (i + 1) (length bs) (is_pair (get_or bs i 0) (get_or bs (i + 1) 0)) second in
    let two : (i + 1) + 1 ≡ i + 2 = omega arith in
    begins bs i (InSymbol (get_or bs i 0)) h (symbol_starts (get_or bs i 0) first)
    ∙ ap (λ (l : List ℕ). tokens_from l (InSymbol (get_or bs i 0))) (at_drop bs (i + 1) inside)
    ∙ pair_goes (get_or bs i 0) (get_or bs (i + 1) 0) (drop ((i + 1) + 1) bs) (met (i + 1) (length bs) (is_pair (get_or bs i 0) (get_or bs (i + 1) 0)) second)
    ∙ ap (λ (n : ℕ). put (symbol_token (get_or bs i 0 ∷ get_or bs (i + 1) 0 ∷ [])) (drop n bs)) two
    ∙ ap (λ (l : List ℕ). put (symbol_token l) (drop (i + 2) bs)) (sym (piece_two bs i inside))

pub symbol_one : (bs : List ℕ) (i : ℕ) → i < length bs → begins_symbol (get_or bs i 0) ≡ true → pair_at bs i ≡ false
    → tokens_at bs i Between ≡ put_at (short_symbol (get_or bs i 0)) bs (i + 1)
unfolding pair_at tokens_at next_at
symbol_one bs i h first second =
    begins bs i (InSymbol (get_or bs i 0)) h (symbol_starts (get_or bs i 0) first)
    ∙ symbol_closes (get_or bs i 0) (drop (i + 1) bs) (begins_not (is_pair (get_or bs i 0)) bs (i + 1) second)

pub symbol_whole : (bs : List ℕ) (i : ℕ) → i < length bs → is_whole_symbol (get_or bs i 0) ≡ true
    → tokens_at bs i Between ≡ put_at (symbol_token (take (i + 1 - i) (drop i bs))) bs (i + 1)
unfolding tokens_at next_at
symbol_whole bs i h whole =
    starts bs i h ∙ single_goes (get_or bs i 0) (drop (i + 1) bs) whole ∙ ap (λ (l : List ℕ). put (symbol_token l) (drop (i + 1) bs)) (sym (piece_one bs i h))

pub ruleset symbol_rules = (symbol_two, symbol_one, symbol_whole)
