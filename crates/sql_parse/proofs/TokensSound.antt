-- Bytes that are read as tokens spell these tokens.
use Rattle.std.proofs.Common.{◌≡◌, ◌≢◌, ℕ, ◌+◌, ◌-◌, ◌*◌, ◌^◌, ◌<◌, ◌≤◌, min, List, [], ◌∷◌, ◌++◌, length, map, refl, sym, ap, ◌∙◌, subst, cond, true, false, inl, inr, ◌⊎◌, Some, None, arith, append_assoc, append-nil, pos}
use Rattle.std.specs.Prelude.{◌==◌, IsTrue, nat_le, nat_lt}
use Rattle.std.specs.List.{AllByRecursion}
use Rattle.std.specs.Str.{is_utf8}
use Rattle.std.proofs.lemmas.Bool.{cases_Bool, eqb-true, leb-true, ltb-true, false≢true}
use Rattle.std.proofs.lemmas.Option.{cond_some}
use Rattle.std.proofs.lemmas.List.{length-map}
use Rattle.sql_model.specs.declared.token.Token.{Token}
use Rattle.sql_model.specs.declared.token.Token.TheVariants.{Word, Number, Quoted}
use Rattle.sql_model.specs.declared.reading.LexState.{LexState}
use Rattle.sql_model.specs.declared.reading.LexState.TheVariants.{Between, InWord, InNumber, InText, AfterQuote, InSymbol, Ended}
use Rattle.ldv_value.specs.Options.{◌>>=◌}
use Rattle.sql_model.specs.GrammarOfTokens.{BeginsNot, is_inside, is_quote, digits_from, with_doubled_quotes, IsSymbol, IsWhole, IsToken, Spells}
use Rattle.ldv_value.specs.Digits.{is_digit}
use Rattle.sql_model.specs.TextBytes.{is_blank, is_letter, lower_case_of}
use Rattle.ldv_value.specs.Texts.{text_of}
use Rattle.sql_model.specs.Tokens.{is_whole_symbol, begins_symbol, is_pair, with_digit, word_token, number_token, text_token, symbol_token, short_symbol, start, tokens_from}
use Rattle.sql_parse.proofs.Choices.{choose}
use Rattle.ldv_value.proofs.Options.{bind-some, same-some}
use Rattle.sql_parse.proofs.Symbols.{symbol_form, whole_cases, begins_cases, whole_symbol, less_symbol, more_symbol, pair_symbol}
use Rattle.sql_parse.proofs.TokensSteps.{put_some, start_goes, word_closes, number_closes, quote_closes, symbol_closes, ended_closes, word_goes, number_goes, number_stops, text_goes, text_quote, quote_quote, pair_goes}
use Rattle.ldv_value.proofs.Booleans.{and-parts, false-not}

-- ---- one token

text_same : (bytes t : List ℕ) → text_of bytes ≡ Some t → t ≡ bytes
text_same bytes t h = sym (cond_some (is_utf8 bytes) bytes t h).1

pub word_is : (w : List ℕ) (k : Token) → word_token w ≡ Some k → (length w ≤ 63) × (k ≡ Word w)
word_is w k h =
    choose (nat_le (length w) 63) (text_of w >>= λ t. Some (Word t)) None k h
    (λ fits made.
    let p : (t : List ℕ) × (text_of w ≡ Some t) × (Some (Word t) ≡ Some k) = bind-some (text_of w) (λ t. Some (Word t)) k made in
    (leb-true (length w) 63 fits, sym (same-some _ _ p.2) ∙ ap Word (text_same w p.0 p.1)))
    (λ long none. let no : None ≡ Some k = none in cc)

pub text_is_token : (t : List ℕ) (k : Token) → text_token t ≡ Some k → (length t ≤ 65536) × (k ≡ Quoted t)
text_is_token t k h =
    choose (nat_le (length t) 65536) (text_of t >>= λ u. Some (Quoted u)) None k h
    (λ fits made.
    let p : (u : List ℕ) × (text_of t ≡ Some u) × (Some (Quoted u) ≡ Some k) = bind-some (text_of t) (λ u. Some (Quoted u)) k made in
    (leb-true (length t) 65536 fits, sym (same-some _ _ p.2) ∙ ap Quoted (text_same t p.0 p.1)))
    (λ long none. let no : None ≡ Some k = none in cc)

pub number_is : (n : ℕ) (k : Token) → number_token n ≡ Some k → (n < 2 ^ 63) × (k ≡ Number (pos n))
number_is n k h =
    choose (nat_lt n (2 ^ 63)) (Some (Number (pos n))) None k h
    (λ fits made. (ltb-true n (2 ^ 63) fits, sym (same-some _ _ made)))
    (λ long none. let no : None ≡ Some k = none in cc)

symbol_is : (s : List ℕ) (k : Token) → symbol_token s ≡ Some k → k ≡ Word s
symbol_is s k h =
    let p : (t : List ℕ) × (text_of s ≡ Some t) × (Some (Word t) ≡ Some k) = bind-some (text_of s) (λ t. Some (Word t)) k h in
    sym (same-some _ _ p.2) ∙ ap Word (text_same s p.0 p.1)

short_is : (b : ℕ) (k : Token) → short_symbol b ≡ Some k → ((b == 33) ≡ false) × (k ≡ Word (b ∷ []))
short_is b k h =
    choose (b == 33) None (symbol_token (b ∷ [])) k h
    (λ bang none. let no : None ≡ Some k = none in cc)
    (λ other made. (other, symbol_is (b ∷ []) k made))

-- ---- from a place on

abbrev pub LIMIT : ℕ
LIMIT = 2 ^ 64 - 1

abbrev pub AreInside : List ℕ → Type 0
AreInside = AllByRecursion (λ b. IsTrue (is_inside b))

abbrev pub AreAllDigits : List ℕ → Type 0
AreAllDigits = AllByRecursion (λ b. IsTrue (is_digit b))

-- what the tokens are from a place on
abbrev pub WordMeans : List ℕ → List ℕ → List Token → Type 0
WordMeans w bs ts = (piece : List ℕ) × (rest : List ℕ) × (k : Token) × (more : List Token) × (bs ≡ piece ++ rest) × AreInside piece × BeginsNot is_inside rest
    × (word_token (w ++ map lower_case_of piece) ≡ Some k) × (ts ≡ k ∷ more) × Spells rest more

abbrev pub NumberMeans : ℕ → List ℕ → List Token → Type 0
NumberMeans n bs ts = (m : ℕ) → n ≡ min m LIMIT → (piece : List ℕ) × (rest : List ℕ) × (k : Token) × (more : List Token) × (bs ≡ piece ++ rest) × AreAllDigits piece
    × BeginsNot is_inside rest × (number_token (min (digits_from m piece) LIMIT) ≡ Some k) × (ts ≡ k ∷ more) × Spells rest more

abbrev pub TextMeans : List ℕ → List ℕ → List Token → Type 0
TextMeans t bs ts = (text : List ℕ) × (rest : List ℕ) × (k : Token) × (more : List Token) × (bs ≡ with_doubled_quotes text ++ 39 ∷ rest) × BeginsNot is_quote rest
    × (text_token (t ++ text) ≡ Some k) × (ts ≡ k ∷ more) × Spells rest more

abbrev pub QuoteMeans : List ℕ → List ℕ → List Token → Type 0
QuoteMeans t bs ts = (BeginsNot is_quote bs × ((k : Token) × (more : List Token) × (text_token t ≡ Some k) × (ts ≡ k ∷ more) × Spells bs more))
    ⊎ ((rest : List ℕ) × (bs ≡ 39 ∷ rest) × TextMeans (t ++ 39 ∷ []) rest ts)

abbrev pub SymbolMeans : ℕ → List ℕ → List Token → Type 0
SymbolMeans a bs ts = (BeginsNot (is_pair a) bs × ((k : Token) × (more : List Token) × (short_symbol a ≡ Some k) × (ts ≡ k ∷ more) × Spells bs more))
    ⊎ ((b : ℕ) × (rest : List ℕ) × (bs ≡ b ∷ rest) × (is_pair a b ≡ true) × ((k : Token) × (more : List Token) × (symbol_token (a ∷ b ∷ []) ≡ Some k) × (ts ≡ k ∷ more) × Spells rest more))

abbrev pub EndedMeans : Token → List ℕ → List Token → Type 0
EndedMeans k bs ts = (more : List Token) × (ts ≡ k ∷ more) × Spells bs more

abbrev pub Means : LexState → List ℕ → List Token → Type 0
Means Between bs ts = Spells bs ts
Means (InWord w) bs ts = WordMeans w bs ts
Means (InNumber n) bs ts = NumberMeans n bs ts
Means (InText t) bs ts = TextMeans t bs ts
Means (AfterQuote t) bs ts = QuoteMeans t bs ts
Means (InSymbol a) bs ts = SymbolMeans a bs ts
Means (Ended k) bs ts = EndedMeans k bs ts

-- ---- what a byte begins

blank_more : (b : ℕ) (bs : List ℕ) (ts : List Token) → IsTrue (is_blank b) → Spells bs ts → Spells (b ∷ bs) ts
blank_more b bs [] blank h = (blank, h)
blank_more b bs (t ∷ ts) blank (front, piece, rest, e, blanks, is, more) = (b ∷ front, piece, rest, ap (λ (l : List ℕ). b ∷ l) e, (blank, blanks), is, more)

-- a token with no blank before it
one : (bytes piece rest : List ℕ) (k : Token) (ts more : List Token) → bytes ≡ piece ++ rest → IsToken piece rest k → ts ≡ k ∷ more → Spells rest more → Spells bytes ts
one bytes piece rest k ts more e is are spells = subst (Spells bytes) (sym are) ([], piece, rest, e, tt, is, spells)

word_starts : (b : ℕ) (bs : List ℕ) (ts : List Token) → is_letter b ≡ true → WordMeans (lower_case_of b ∷ []) bs ts → Spells (b ∷ bs) ts
word_starts b bs ts letter (piece, rest, k, more, e, all, ends, is, are, spells) =
    let w : (length (lower_case_of b ∷ map lower_case_of piece) ≤ 63) × (k ≡ Word (lower_case_of b ∷ map lower_case_of piece)) = word_is (lower_case_of b ∷ map lower_case_of piece) k is in
    let short : length (b ∷ piece) ≤ 63 = omega (arith, w.0, length-map piece lower_case_of) in
    one (b ∷ bs) (b ∷ piece) rest k ts more (ap (λ (l : List ℕ). b ∷ l) e) (subst (IsToken (b ∷ piece) rest) (sym w.1) (inl ((letter, all, short), refl, ends))) are spells

number_starts : (b : ℕ) (bs : List ℕ) (ts : List Token) → is_digit b ≡ true → NumberMeans (b - 48) bs ts → Spells (b ∷ bs) ts
number_starts b bs ts digit means =
    let below : b ≤ 57 = leb-true b 57 (and-parts (nat_le 48 b) (nat_le b 57) digit).1 in
    let small : b - 48 ≡ min (0 * 10 + (b - 48)) LIMIT = omega (arith, below) in
    let m = means (0 * 10 + (b - 48)) small in
    number_made b bs ts digit m.0 m.1 m.2 m.3 m.4 m.5 m.6 m.7 m.8 m.9
  where
    number_made : (b : ℕ) (bs : List ℕ) (ts : List Token) → is_digit b ≡ true → (piece rest : List ℕ) (k : Token) (more : List Token) → bs ≡ piece ++ rest → AreAllDigits piece
        → BeginsNot is_inside rest → number_token (min (digits_from (0 * 10 + (b - 48)) piece) LIMIT) ≡ Some k → ts ≡ k ∷ more → Spells rest more → Spells (b ∷ bs) ts
    number_made b bs ts digit piece rest k more e all ends is are spells =
        let n : (min (digits_from (0 * 10 + (b - 48)) piece) LIMIT < 2 ^ 63) × (k ≡ Number (pos (min (digits_from (0 * 10 + (b - 48)) piece) LIMIT))) = number_is (min (digits_from (0 * 10 + (b - 48)) piece) LIMIT) k is in
        let same : min (digits_from (0 * 10 + (b - 48)) piece) LIMIT ≡ digits_from 0 (b ∷ piece) = omega (arith, n.0) in
        let fits : digits_from 0 (b ∷ piece) ≤ 9223372036854775807 = omega (arith, n.0) in
        let some : (b ∷ piece) ≢ [] = λ h. cc in
        one (b ∷ bs) (b ∷ piece) rest k ts more (ap (λ (l : List ℕ). b ∷ l) e)
        (subst (IsToken (b ∷ piece) rest) (sym (n.1 ∙ ap (λ n. Number (pos n)) same)) ((some, (digit, all)), refl, fits, ends)) are spells

text_starts : (bs : List ℕ) (ts : List Token) → TextMeans [] bs ts → Spells (39 ∷ bs) ts
text_starts bs ts (text, rest, k, more, e, ends, is, are, spells) =
    let t : (length text ≤ 65536) × (k ≡ Quoted text) = text_is_token text k is in
    one (39 ∷ bs) (39 ∷ with_doubled_quotes text ++ 39 ∷ []) rest k ts more (ap (λ (l : List ℕ). 39 ∷ l) (e ∙ sym (append_assoc (with_doubled_quotes text) (39 ∷ []) rest)))
    (subst (IsToken (39 ∷ with_doubled_quotes text ++ 39 ∷ []) rest) (sym t.1) (refl, t.0, ends)) are spells

-- a symbol of one byte is whole where no pair begins with it
whole_one : (a : ℕ) (bs : List ℕ) → BeginsNot (is_pair a) bs → IsWhole (a ∷ []) bs
whole_one a [] h = tt
whole_one a (b ∷ bs) h = λ s. h (symbol_form (a ∷ b ∷ []) s).1

whole_pair : (a b : ℕ) (bs : List ℕ) → IsWhole (a ∷ b ∷ []) bs
whole_pair a b [] = tt
whole_pair a b (c ∷ bs) = λ s. symbol_form (a ∷ b ∷ c ∷ []) s

whole_simple : (a : ℕ) (bs : List ℕ) → is_whole_symbol a ≡ true → IsWhole (a ∷ []) bs
whole_simple a [] h = tt
whole_simple a (b ∷ bs) h = λ s. false≢true (sym (whole_cases (λ c. begins_symbol c ≡ false) a h refl refl refl refl refl refl refl refl refl refl) ∙ (symbol_form (a ∷ b ∷ []) s).0)

short_symbol_is : (a : ℕ) → begins_symbol a ≡ true → (a == 33) ≡ false → IsSymbol (a ∷ [])
short_symbol_is a h = begins_cases (λ c. (c == 33) ≡ false → IsSymbol (c ∷ [])) a h (λ e. less_symbol) (λ e. more_symbol) (λ e. absurd (false≢true (sym e)))

symbol_starts : (a : ℕ) (bs : List ℕ) (ts : List Token) → begins_symbol a ≡ true → SymbolMeans a bs ts → Spells (a ∷ bs) ts
symbol_starts a bs ts h (inl (ends, (k, more, is, are, spells))) =
    let s : ((a == 33) ≡ false) × (k ≡ Word (a ∷ [])) = short_is a k is in
    one (a ∷ bs) (a ∷ []) bs k ts more refl (subst (IsToken (a ∷ []) bs) (sym s.1) (inr (short_symbol_is a h s.0, refl, whole_one a bs ends))) are spells
symbol_starts a bs ts h (inr (b, rest, e, pair, (k, more, is, are, spells))) =
    one (a ∷ bs) (a ∷ b ∷ []) rest k ts more (ap (λ (l : List ℕ). a ∷ l) e)
    (subst (IsToken (a ∷ b ∷ []) rest) (sym (symbol_is (a ∷ b ∷ []) k is)) (inr (pair_symbol a b h pair, refl, whole_pair a b rest))) are spells

whole_starts : (a : ℕ) (bs : List ℕ) (ts : List Token) (k : Token) → is_whole_symbol a ≡ true → symbol_token (a ∷ []) ≡ Some k → EndedMeans k bs ts → Spells (a ∷ bs) ts
whole_starts a bs ts k h is (more, are, spells) =
    one (a ∷ bs) (a ∷ []) bs k ts more refl (subst (IsToken (a ∷ []) bs) (sym (symbol_is (a ∷ []) k is)) (inr (whole_symbol a h, refl, whole_simple a bs h))) are spells

starts : (b : ℕ) (bs : List ℕ) (ts : List Token) (p : LexState) → start b ≡ Some p → Means p bs ts → Spells (b ∷ bs) ts
starts b bs ts p h means =
    let at : (q : LexState) → Some q ≡ Some p → Means q bs ts = λ q e. subst (λ (r : LexState). Means r bs ts) (sym (same-some q p e)) means in
    choose (is_blank b) _ _ p h (λ is made. blank_more b bs ts is (at Between made)) (λ n1 h1.
    choose (is_letter b) _ _ p h1 (λ is made. word_starts b bs ts is (at (InWord (lower_case_of b ∷ [])) made)) (λ n2 h2.
    choose (is_digit b) _ _ p h2 (λ is made. number_starts b bs ts is (at (InNumber (b - 48)) made)) (λ n3 h3.
    choose (b == 39) _ _ p h3 (λ is made. subst (λ (c : ℕ). Spells (c ∷ bs) ts) (sym (eqb-true b 39 is)) (text_starts bs ts (at (InText []) made))) (λ n4 h4.
    choose (begins_symbol b) _ _ p h4 (λ is made. symbol_starts b bs ts is (at (InSymbol b) made)) (λ n5 h5.
    choose (is_whole_symbol b) _ _ p h5
    (λ is made.
    let q : (k : Token) × (symbol_token (b ∷ []) ≡ Some k) × (Some (Ended k) ≡ Some p) = bind-some (symbol_token (b ∷ [])) (λ k. Some (Ended k)) p made in
    whole_starts b bs ts q.0 is q.1 (at (Ended q.0) q.2))
    (λ n6 h6. let none : None ≡ Some p = h6 in cc))))))

-- ---- a token ends here, or goes on

-- what is after the token that ends here
abbrev After : List ℕ → Type 0
After bs = (ts : List Token) → tokens_from bs Between ≡ Some ts → Spells bs ts

word_ends : (w bs : List ℕ) (ts : List Token) → BeginsNot is_inside bs → After bs → tokens_from bs (InWord w) ≡ Some ts → WordMeans w bs ts
word_ends w bs ts ends after_word h =
    let p = put_some (word_token w) bs ts (sym (word_closes w bs ends) ∙ h) in
    ([], bs, p.0, p.2, refl, tt, ends, ap word_token (append-nil w) ∙ p.1, p.3, after_word p.2 p.4)

number_ends : (n : ℕ) (bs : List ℕ) (ts : List Token) → BeginsNot is_inside bs → After bs → tokens_from bs (InNumber n) ≡ Some ts → NumberMeans n bs ts
number_ends n bs ts ends after_word h m same =
    let p = put_some (number_token n) bs ts (sym (number_closes n bs ends) ∙ h) in
    ([], bs, p.0, p.2, refl, tt, ends, ap number_token (sym same) ∙ p.1, p.3, after_word p.2 p.4)

quote_ends : (t bs : List ℕ) (ts : List Token) → BeginsNot is_quote bs → After bs → tokens_from bs (AfterQuote t) ≡ Some ts → QuoteMeans t bs ts
quote_ends t bs ts ends after_word h =
    let p = put_some (text_token t) bs ts (sym (quote_closes t bs ends) ∙ h) in
    inl (ends, (p.0, p.2, p.1, p.3, after_word p.2 p.4))

symbol_ends : (a : ℕ) (bs : List ℕ) (ts : List Token) → BeginsNot (is_pair a) bs → After bs → tokens_from bs (InSymbol a) ≡ Some ts → SymbolMeans a bs ts
symbol_ends a bs ts ends after_word h =
    let p = put_some (short_symbol a) bs ts (sym (symbol_closes a bs ends) ∙ h) in
    inl (ends, (p.0, p.2, p.1, p.3, after_word p.2 p.4))

ended_ends : (k : Token) (bs : List ℕ) (ts : List Token) → After bs → tokens_from bs (Ended k) ≡ Some ts → EndedMeans k bs ts
ended_ends k bs ts after_word h =
    let p = put_some (Some k) bs ts (sym (ended_closes k bs) ∙ h) in
    (p.2, p.3 ∙ ap (λ (t : Token). t ∷ p.2) (sym (same-some k p.0 p.1)), after_word p.2 p.4)

word_more : (w : List ℕ) (b : ℕ) (bs : List ℕ) (ts : List Token) → IsTrue (is_inside b) → WordMeans (w ++ lower_case_of b ∷ []) bs ts → WordMeans w (b ∷ bs) ts
word_more w b bs ts inside (piece, rest, k, more, e, all, ends, is, are, spells) =
    (b ∷ piece, rest, k, more, ap (λ (l : List ℕ). b ∷ l) e, (inside, all), ends, ap word_token (sym (append_assoc w (lower_case_of b ∷ []) (map lower_case_of piece))) ∙ is, are, spells)

-- one more digit
pub longer_is : (n m b : ℕ) → n ≡ min m LIMIT → with_digit n b ≡ min (m * 10 + (b - 48)) LIMIT
longer_is n m b h = omega (arith, h)

number_more : (n b : ℕ) (bs : List ℕ) (ts : List Token) → IsTrue (is_digit b) → NumberMeans (with_digit n b) bs ts → NumberMeans n (b ∷ bs) ts
number_more n b bs ts digit means m same =
    let p = means (m * 10 + (b - 48)) (longer_is n m b same) in
    (b ∷ p.0, p.1, p.2, p.3, ap (λ (l : List ℕ). b ∷ l) p.4, (digit, p.5), p.6, p.7, p.8, p.9)

text_more : (t : List ℕ) (b : ℕ) (bs : List ℕ) (ts : List Token) → is_quote b ≡ false → TextMeans (t ++ b ∷ []) bs ts → TextMeans t (b ∷ bs) ts
text_more t b bs ts other (text, rest, k, more, e, ends, is, are, spells) =
    let same : with_doubled_quotes (b ∷ text) ≡ b ∷ with_doubled_quotes text = ap (λ c. cond c (39 ∷ 39 ∷ with_doubled_quotes text) (b ∷ with_doubled_quotes text)) other in
    (b ∷ text, rest, k, more, ap (λ (l : List ℕ). b ∷ l) e ∙ ap (λ (l : List ℕ). l ++ 39 ∷ rest) (sym same), ends, ap text_token (sym (append_assoc t (b ∷ []) text)) ∙ is, are, spells)

text_quoted : (t bs : List ℕ) (ts : List Token) → QuoteMeans t bs ts → TextMeans t (39 ∷ bs) ts
text_quoted t bs ts (inl (ends, (k, more, is, are, spells))) = ([], bs, k, more, refl, ends, ap text_token (append-nil t) ∙ is, are, spells)
text_quoted t bs ts (inr (after, from, (text, rest, k, more, e, ends, is, are, spells))) =
    (39 ∷ text, rest, k, more, ap (λ (l : List ℕ). 39 ∷ l) (from ∙ ap (λ (l : List ℕ). 39 ∷ l) e), ends, ap text_token (sym (append_assoc t (39 ∷ []) text)) ∙ is, are, spells)

-- ---- all of it

abbrev Sound : List ℕ → Type 0
Sound bs = (place : LexState) (ts : List Token) → tokens_from bs place ≡ Some ts → Means place bs ts

between_sound : (b : ℕ) (bs : List ℕ) → Sound bs → After (b ∷ bs)
between_sound b bs ih ts h =
    let p : (q : LexState) × (start b ≡ Some q) × (tokens_from bs q ≡ Some ts) = bind-some (start b) (λ q. tokens_from bs q) ts (sym (start_goes b bs) ∙ h) in
    starts b bs ts p.0 p.1 (ih p.0 ts p.2)

more_sound : (b : ℕ) (bs : List ℕ) → Sound bs → Sound (b ∷ bs)
more_sound b bs ih Between ts h = between_sound b bs ih ts h
more_sound b bs ih (InWord w) ts h = elim (cases_Bool (is_inside b)) [
  | inl inside ↦ word_more w b bs ts inside (ih (InWord (w ++ lower_case_of b ∷ [])) ts (sym (word_goes w b bs inside) ∙ h))
  | inr outside ↦ word_ends w (b ∷ bs) ts (false-not (is_inside b) outside) (between_sound b bs ih) h
]
more_sound b bs ih (InNumber n) ts h = elim (cases_Bool (is_digit b)) [
  | inl digit ↦ number_more n b bs ts digit (ih (InNumber (with_digit n b)) ts (sym (number_goes n b bs digit) ∙ h))
  | inr other ↦ elim (cases_Bool (is_letter b)) [
    | inl letter ↦ let none : None ≡ Some ts = sym (number_stops n b bs other letter) ∙ h in absurd cc
    | inr outside ↦ number_ends n (b ∷ bs) ts (false-not (is_inside b) (rw (outside, other) refl)) (between_sound b bs ih) h
  ]
]
more_sound b bs ih (InText t) ts h = elim (cases_Bool (is_quote b)) [
  | inl quote ↦
      let is : b ≡ 39 = eqb-true b 39 quote in
      let h2 : tokens_from (39 ∷ bs) (InText t) ≡ Some ts = subst (λ (c : ℕ). tokens_from (c ∷ bs) (InText t) ≡ Some ts) is h in
      subst (λ (c : ℕ). TextMeans t (c ∷ bs) ts) (sym is) (text_quoted t bs ts (ih (AfterQuote t) ts (sym (text_quote t bs) ∙ h2)))
  | inr other ↦ text_more t b bs ts other (ih (InText (t ++ b ∷ [])) ts (sym (text_goes t b bs other) ∙ h))
]
more_sound b bs ih (AfterQuote t) ts h = elim (cases_Bool (is_quote b)) [
  | inl quote ↦
      let is : b ≡ 39 = eqb-true b 39 quote in
      let h2 : tokens_from (39 ∷ bs) (AfterQuote t) ≡ Some ts = subst (λ (c : ℕ). tokens_from (c ∷ bs) (AfterQuote t) ≡ Some ts) is h in
      inr (bs, ap (λ (c : ℕ). c ∷ bs) is, ih (InText (t ++ 39 ∷ [])) ts (sym (quote_quote t bs) ∙ h2))
  | inr other ↦ quote_ends t (b ∷ bs) ts (false-not (is_quote b) other) (between_sound b bs ih) h
]
more_sound b bs ih (InSymbol a) ts h = elim (cases_Bool (is_pair a b)) [
  | inl pair ↦
      let p = put_some (symbol_token (a ∷ b ∷ [])) bs ts (sym (pair_goes a b bs pair) ∙ h) in
      inr (b, bs, refl, pair, (p.0, p.2, p.1, p.3, ih Between p.2 p.4))
  | inr other ↦ symbol_ends a (b ∷ bs) ts (false-not (is_pair a b) other) (between_sound b bs ih) h
]
more_sound b bs ih (Ended k) ts h = ended_ends k (b ∷ bs) ts (between_sound b bs ih) h

after_nothing : After []
after_nothing ts h = subst (Spells []) (same-some [] ts h) tt

pub tokens_sound : (bs : List ℕ) → Sound bs
tokens_sound [] Between ts h = after_nothing ts h
tokens_sound [] (InWord w) ts h = word_ends w [] ts tt after_nothing h
tokens_sound [] (InNumber n) ts h = number_ends n [] ts tt after_nothing h
tokens_sound [] (InText t) ts h = let none : None ≡ Some ts = h in absurd cc
tokens_sound [] (AfterQuote t) ts h = quote_ends t [] ts tt after_nothing h
tokens_sound [] (InSymbol a) ts h = symbol_ends a [] ts tt after_nothing h
tokens_sound [] (Ended k) ts h = ended_ends k [] ts after_nothing h
tokens_sound (b ∷ bs) place ts h = more_sound b bs (tokens_sound bs) place ts h
