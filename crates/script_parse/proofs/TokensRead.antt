-- The tokens of the grammar are those that are read.
use Rattle.std.proofs.Common.{◌≡◌, ◌≢◌, ℕ, ◌<◌, List, [], ◌∷◌, ◌++◌, length, refl, sym, ap, ◌∙◌, subst, true, false, inl, inr, Some, None, arith, append_assoc, ℤ}
use Rattle.std.specs.Prelude.{◌==◌, IsTrue, IsUtf8, Option, option_to_list}
use Rattle.std.specs.List.{AllByRecursion}
use Rattle.std.proofs.lemmas.Bool.{cases_Bool, eqb-true, eq-eqb, false≢true}
use Rattle.std.proofs.lemmas.Str.{IsUtf8-nil}
use Rattle.script_parse.specs.declared.token.Token.{Token}
use Rattle.script_parse.specs.declared.token.Token.TheVariants.{Word, Number, Quoted}
use Rattle.script_parse.specs.declared.scan.LexState.{LexState}
use Rattle.script_parse.specs.declared.scan.LexState.TheVariants.{Between, InWord, InText, Escaped, Closed}
use Rattle.ldv_value.specs.Options.{◌>>=◌}
use Rattle.ldv_value.specs.Digits.{is_digit, AreDigits}
use Rattle.script_parse.specs.Number.{number_of}
use Rattle.ldv_value.specs.Limits.{text_limit}
use Rattle.ldv_value.specs.Scan.{before}
use Rattle.script_parse.specs.Tokens.{is_blank, word_or_number, word_token, text_token, step, finish, tokens_from, tokens_of}
use Rattle.script_parse.specs.Grammar.{IsNumber, Spells, IsBare, IsToken, AreBlanks, EndsToken, AreTokens}
use Rattle.ldv_value.proofs.Cases.{cases-option}
use Rattle.script_parse.proofs.LinesLaw.{ne_eqb}
use Rattle.script_parse.proofs.NumberLaw.{number_sound, number_complete}
use Rattle.script_parse.proofs.TokensLaw.{NoBlanks, escape_complete}
use Rattle.ldv_value.proofs.Utf8Parts.{utf8-tail, utf8-cut, text-made, short_text-made}
use Rattle.script_parse.proofs.Utf8Law.{spells_utf8}
use Rattle.ldv_value.proofs.Booleans.{not-so}
use Rattle.ldv_value.proofs.Lists.{append-nil}
use Rattle.ldv_value.proofs.Scanning.{before-none, stays-run, stays-only}

pub blank_low : (b : ℕ) → IsTrue (is_blank b) → b < 128
blank_low b h = elim (cases_Bool (b == 32)) [
  | inl space ↦ omega (arith, eqb-true b 32 space)
  | inr other ↦ let h2 : (b == 9) ≡ true = rw other at h in omega (arith, eqb-true b 9 h2)
]

-- a step and what follows it, by what it waits for
abbrev at_word : Option Token → Option (LexState × Option Token)
at_word o = o >>= λ t. Some (Between, Some t)

abbrev at_quote : Option Token → Option (LexState × Option Token)
at_quote o = o >>= λ k. Some (Closed k, None)

abbrev at_letter : List ℕ → Option ℕ → Option (LexState × Option Token)
at_letter t o = o >>= λ c. Some (InText (t ++ c ∷ []), None)

abbrev on : List ℕ → Option (LexState × Option Token) → Option (List Token)
on rest o = o >>= λ s. before (option_to_list s.1) (tokens_from rest s.0)

-- blanks are passed over
abbrev IsBlank : ℕ → Type 0
IsBlank b = IsTrue (is_blank b)

blank_stays : (b : ℕ) → IsTrue (is_blank b) → step Between b ≡ Some (Between, None)
blank_stays b h = let blank : is_blank b ≡ true = h in rw blank refl

-- the bytes of a token without quotes
word_run : (piece w rest : List ℕ) (k : Token) → NoBlanks piece → EndsToken rest → word_token (w ++ piece) ≡ Some k → tokens_from (piece ++ rest) (InWord w) ≡ before (k ∷ []) (tokens_from rest Between)
word_run [] w [] k none ends is = ap (λ o. (o >>= λ t. Some (Some t)) >>= λ t. Some (option_to_list t)) (ap word_token (sym (append-nil w)) ∙ is)
word_run [] w (b ∷ rest) k none ends is =
    let blank : is_blank b ≡ true = ends in
    let token : word_token w ≡ Some k = ap word_token (sym (append-nil w)) ∙ is in
    let right : tokens_from (b ∷ rest) Between ≡ tokens_from rest Between = rw blank (before-none (tokens_from rest Between)) in
    let left : tokens_from (b ∷ rest) (InWord w) ≡ on rest (at_word (word_token w)) = rw blank refl in
    left ∙ ap (λ o. on rest (at_word o)) token ∙ ap (before (k ∷ [])) (sym right)
word_run (b ∷ piece) w rest k none ends is =
    let visible : is_blank b ≡ false = not-so (is_blank b) none.0 in
    let left : tokens_from (b ∷ piece ++ rest) (InWord w) ≡ before [] (tokens_from (piece ++ rest) (InWord (w ++ b ∷ []))) = rw visible refl in
    left ∙ before-none (tokens_from (piece ++ rest) (InWord (w ++ b ∷ []))) ∙ word_run piece (w ++ b ∷ []) rest k none.1 ends (ap word_token (append_assoc w (b ∷ []) piece) ∙ is)

closed_run : (rest : List ℕ) (k : Token) → EndsToken rest → tokens_from rest (Closed k) ≡ before (k ∷ []) (tokens_from rest Between)
closed_run [] k ends = refl
closed_run (b ∷ rest) k ends =
    let blank : is_blank b ≡ true = ends in
    let right : tokens_from (b ∷ rest) Between ≡ tokens_from rest Between = rw blank (before-none (tokens_from rest Between)) in
    let left : tokens_from (b ∷ rest) (Closed k) ≡ before (k ∷ []) (tokens_from rest Between) = rw blank refl in
    left ∙ ap (before (k ∷ [])) (sym right)

text_run : (text body t rest : List ℕ) (k : Token) → Spells body text → EndsToken rest → text_token (t ++ text) ≡ Some k → tokens_from (body ++ 34 ∷ rest) (InText t) ≡ before (k ∷ []) (tokens_from rest Between)
text_run [] body t rest k e ends is =
    let token : text_token t ≡ Some k = ap text_token (sym (append-nil t)) ∙ is in
    ap (λ (l : List ℕ). tokens_from (l ++ 34 ∷ rest) (InText t)) e
    ∙ ap (λ o. on rest (at_quote o)) token
    ∙ before-none (tokens_from rest (Closed k)) ∙ closed_run rest k ends
text_run (b ∷ text) body t rest k (after, spells, inl (e, quote, slash)) ends is =
    let more : List ℕ = after ++ 34 ∷ rest in
    let left : tokens_from (b ∷ more) (InText t) ≡ before [] (tokens_from more (InText (t ++ b ∷ []))) = rw (ne_eqb b 34 quote, ne_eqb b 92 slash) refl in
    ap (λ (l : List ℕ). tokens_from (l ++ 34 ∷ rest) (InText t)) e ∙ left ∙ before-none (tokens_from more (InText (t ++ b ∷ [])))
    ∙ text_run text after (t ++ b ∷ []) rest k spells ends (ap text_token (append_assoc t (b ∷ []) text) ∙ is)
text_run (b ∷ text) body t rest k (after, spells, inr (letter, e, escape)) ends is =
    let more : List ℕ = after ++ 34 ∷ rest in
    let inside : tokens_from (letter ∷ more) (Escaped t) ≡ before [] (tokens_from more (InText (t ++ b ∷ []))) =
    ap (λ o. on more (at_letter t o)) (escape_complete letter b escape) in
    ap (λ (l : List ℕ). tokens_from (l ++ 34 ∷ rest) (InText t)) e
    ∙ before-none (tokens_from (letter ∷ more) (Escaped t)) ∙ inside ∙ before-none (tokens_from more (InText (t ++ b ∷ [])))
    ∙ text_run text after (t ++ b ∷ []) rest k spells ends (ap text_token (append_assoc t (b ∷ []) text) ∙ is)

bare_run : (piece rest : List ℕ) (k : Token) → IsBare piece → EndsToken rest → word_token piece ≡ Some k → tokens_from (piece ++ rest) Between ≡ before (k ∷ []) (tokens_from rest Between)
bare_run [] rest k bare ends is = absurd (bare.0 refl)
bare_run (b ∷ piece) rest k bare ends is =
    let visible : is_blank b ≡ false = not-so (is_blank b) bare.1.0 in
    let other : (b == 34) ≡ false = ne_eqb b 34 (λ e. bare.2 piece (ap (λ (x : ℕ). x ∷ piece) e)) in
    let left : tokens_from (b ∷ piece ++ rest) Between ≡ before [] (tokens_from (piece ++ rest) (InWord (b ∷ []))) = rw (visible, other) refl in
    left ∙ before-none (tokens_from (piece ++ rest) (InWord (b ∷ []))) ∙ word_run piece (b ∷ []) rest k bare.1.1 ends is

-- a number is no text in quotes, and has no blank
digit_bare : (b : ℕ) → IsTrue (is_digit b) → (¬ IsTrue (is_blank b)) × (b ≢ 34)
digit_bare b h = (
  λ blank. elim (cases_Bool (b == 32)) [
    | inl space ↦ false≢true (ap is_digit (sym (eqb-true b 32 space)) ∙ h)
    | inr other ↦ let tab : (b == 9) ≡ true = rw other at blank in false≢true (ap is_digit (sym (eqb-true b 9 tab)) ∙ h)
  ],
  λ e. false≢true (ap is_digit (sym e) ∙ h),
)

digits_none : (ds : List ℕ) → AllByRecursion (λ b. IsTrue (is_digit b)) ds → NoBlanks ds
digits_none [] h = tt
digits_none (d ∷ ds) h = ((digit_bare d h.0).0, digits_none ds h.1)

digits_bare : (ds : List ℕ) → AreDigits ds → IsBare ds
digits_bare [] h = absurd (h.0 refl)
digits_bare (d ∷ ds) h = (h.0, digits_none (d ∷ ds) h.1, λ rest e. let q : d ≡ 34 = cc in (digit_bare d h.1.0).1 q)

minus_bare : (ds : List ℕ) → AllByRecursion (λ b. IsTrue (is_digit b)) ds → IsBare (45 ∷ ds)
minus_bare ds h =
    let some : (45 ∷ ds) ≢ [] = λ e. cc in
    (some, (λ e. false≢true e, digits_none ds h), λ rest e. let q : 45 ≡ 34 = cc in false≢true (eq-eqb 45 34 q))

number_bare : (piece : List ℕ) (z : ℤ) → IsNumber piece z → IsBare piece
number_bare piece z (ds, digits, inl (e, is, below)) = subst IsBare (sym e) (digits_bare ds digits)
number_bare piece z (ds, digits, inr (e, is, within)) = subst IsBare (sym e) (minus_bare ds digits.1)

-- UTF-8 of the parts
utf8_blanks : (front rest : List ℕ) → AreBlanks front → IsUtf8 (front ++ rest) → IsUtf8 rest
utf8_blanks [] rest h u = u
utf8_blanks (b ∷ front) rest h u = utf8_blanks front rest h.1 (utf8-tail b (front ++ rest) (blank_low b h.0) u)

pub utf8_parts : (piece rest : List ℕ) → EndsToken rest → IsUtf8 (piece ++ rest) → IsUtf8 piece × IsUtf8 rest
utf8_parts piece [] ends u = (subst IsUtf8 (append-nil piece) u, IsUtf8-nil)
utf8_parts piece (b ∷ rest) ends u = utf8-cut piece b rest (blank_low b ends) u

utf8_inside : (body : List ℕ) → IsUtf8 (34 ∷ body ++ 34 ∷ []) → IsUtf8 body
utf8_inside body u = (utf8-cut body 34 [] (omega arith) (utf8-tail 34 (body ++ 34 ∷ []) (omega arith) u)).0

word_made : (w : List ℕ) → IsUtf8 w → ((z : ℤ) → ¬ IsNumber w z) → word_token w ≡ Some (Word w)
word_made w u not = elim (cases-option (number_of w)) [
  | inl none ↦ ap (word_or_number w) none ∙ text-made Word w u
  | inr some ↦ absurd (not some.0 (number_sound w some.0 some.1))
]

token_run : (t : Token) (piece rest : List ℕ) → IsUtf8 piece → IsToken piece t → EndsToken rest → tokens_from (piece ++ rest) Between ≡ before (t ∷ []) (tokens_from rest Between)
token_run (Word w) piece rest u (e, bare, not) ends = bare_run piece rest (Word w) bare ends (word_made piece u not ∙ ap (λ (l : List ℕ). Some (Word l)) e)
token_run (Number z) piece rest u is ends = bare_run piece rest (Number z) (number_bare piece z is) ends (ap (word_or_number piece) (number_complete piece z is))
token_run (Quoted text) piece rest u (body, e, spells, fits) ends =
    let inner : IsUtf8 body = utf8_inside body (subst IsUtf8 e u) in
    let token : text_token text ≡ Some (Quoted text) = short_text-made Quoted text (spells_utf8 (length text) body text (omega arith) spells inner) text_limit fits in
    ap (λ (l : List ℕ). tokens_from (l ++ rest) Between) e
    ∙ before-none (tokens_from ((body ++ 34 ∷ []) ++ rest) (InText []))
    ∙ ap (λ (l : List ℕ). tokens_from l (InText [])) (append_assoc body (34 ∷ []) rest)
    ∙ text_run text body [] rest (Quoted text) spells ends token

pub tokens_complete : (ts : List Token) (line : List ℕ) → IsUtf8 line → AreTokens line ts → tokens_of line ≡ Some ts
tokens_complete [] line u h = stays-only step finish IsBlank Between blank_stays line h
tokens_complete (t ∷ ts) line u (front, piece, rest, e, blanks, is, ends, more) =
    let behind : IsUtf8 (piece ++ rest) = utf8_blanks front (piece ++ rest) blanks (subst IsUtf8 e u) in
    let parts = utf8_parts piece rest ends behind in
    ap (λ (l : List ℕ). tokens_from l Between) e ∙ stays-run step finish IsBlank Between blank_stays front (piece ++ rest) blanks ∙ token_run t piece rest parts.0 is ends
    ∙ ap (before (t ∷ [])) (tokens_complete ts rest parts.1 more)
