-- The tokens that are read are those of the grammar.
use Rattle.std.proofs.Common.{◌≡◌, ◌≢◌, ℕ, List, [], ◌∷◌, ◌++◌, length, refl, sym, ap, ◌∙◌, subst, cond, true, inl, inr, Some, None, leb, append_assoc}
use Rattle.std.specs.Prelude.{◌==◌, IsTrue, Option, option_to_list}
use Rattle.std.specs.List.{AllByRecursion}
use Rattle.std.specs.Str.{is_utf8}
use Rattle.std.proofs.lemmas.Bool.{cases_Bool, eqb-true, leb-true}
use Rattle.std.proofs.lemmas.Option.{cond_some}
use Rattle.script_parse.specs.declared.token.Token.{Token}
use Rattle.script_parse.specs.declared.token.Token.TheVariants.{Word, Number, Quoted}
use Rattle.script_parse.specs.declared.scan.LexState.{LexState}
use Rattle.script_parse.specs.declared.scan.LexState.TheVariants.{Between, InWord, InText, Escaped, Closed}
use Rattle.ldv_value.specs.Options.{◌>>=◌}
use Rattle.script_parse.specs.Number.{number_of}
use Rattle.ldv_value.specs.Texts.{text_of}
use Rattle.ldv_value.specs.Scan.{before}
use Rattle.script_parse.specs.Tokens.{is_blank, escape_of, word_or_number, word_token, text_token, finish, tokens_from}
use Rattle.script_parse.specs.Grammar.{Escapes, Spells, IsBare, IsToken, EndsToken, AreTokens}
use Rattle.ldv_value.proofs.Cases.{cases-option}
use Rattle.ldv_value.proofs.Options.{bind-some}
use Rattle.script_parse.proofs.LinesLaw.{eqb_ne}
use Rattle.script_parse.proofs.NumberLaw.{number_sound, number_complete}
use Rattle.ldv_value.proofs.Booleans.{false-not}
use Rattle.ldv_value.proofs.Lists.{append-nil}
use Rattle.ldv_value.proofs.Scanning.{before-none}

abbrev pub NoBlanks : List ℕ → Type 0
NoBlanks = AllByRecursion (λ b. ¬ IsTrue (is_blank b))

before_some : (k : Token) (o : Option (List Token)) (ts : List Token) → before (k ∷ []) o ≡ Some ts → (more : List Token) × (o ≡ Some more) × (ts ≡ k ∷ more)
before_some k o ts h = let p = bind-some o (λ more. Some (k ∷ more)) ts h in let e : k ∷ p.0 ≡ ts = cc (p.2) in (p.0, p.1, sym e)

-- ESCAPES

escape_sound : (letter b : ℕ) → escape_of letter ≡ Some b → Escapes letter b
escape_sound letter b h = elim (cases_Bool (letter == 110)) [
  | inl n ↦ let e : 10 ≡ b = cc (sym (ap (λ t. cond t (Some 10) (cond (letter == 116) (Some 9) (cond (letter == 34) (Some 34) (cond (letter == 92) (Some 92) None)))) n) ∙ h) in inl (eqb-true letter 110 n, sym e)
  | inr not_n ↦
      let h1 : cond (letter == 116) (Some 9) (cond (letter == 34) (Some 34) (cond (letter == 92) (Some 92) None)) ≡ Some b = rw not_n at h in
      elim (cases_Bool (letter == 116)) [
        | inl t ↦ let h2 : Some 9 ≡ Some b = rw t at h1 in let e : 9 ≡ b = cc (h2) in inr (inl (eqb-true letter 116 t, sym e))
        | inr not_t ↦
            let h2 : cond (letter == 34) (Some 34) (cond (letter == 92) (Some 92) None) ≡ Some b = rw not_t at h1 in
            elim (cases_Bool (letter == 34)) [
              | inl q ↦ let h3 : Some 34 ≡ Some b = rw q at h2 in let e : 34 ≡ b = cc (h3) in inr (inr (inl (eqb-true letter 34 q, sym e)))
              | inr not_q ↦
                  let h3 : cond (letter == 92) (Some 92) None ≡ Some b = rw not_q at h2 in
                  let p = cond_some (letter == 92) 92 b h3 in
                  inr (inr (inr (eqb-true letter 92 p.0, sym p.1)))
            ]
      ]
]

pub escape_complete : (letter b : ℕ) → Escapes letter b → escape_of letter ≡ Some b
escape_complete letter b (inl (e, is)) = ap escape_of e ∙ ap Some (sym is)
escape_complete letter b (inr (inl (e, is))) = ap escape_of e ∙ ap Some (sym is)
escape_complete letter b (inr (inr (inl (e, is)))) = ap escape_of e ∙ ap Some (sym is)
escape_complete letter b (inr (inr (inr (e, is)))) = ap escape_of e ∙ ap Some (sym is)

-- ONE TOKEN

text_same : (bytes t : List ℕ) → text_of bytes ≡ Some t → (is_utf8 bytes ≡ true) × (bytes ≡ t)
text_same bytes t h = cond_some (is_utf8 bytes) bytes t h

word_sound : (w : List ℕ) (k : Token) → word_token w ≡ Some k → IsBare w → IsToken w k
word_sound w k h bare = elim (cases-option (number_of w)) [
  | inl none ↦
      let h2 : (text_of w >>= λ t. Some (Word t)) ≡ Some k = sym (ap (word_or_number w) none) ∙ h in
      let p = bind-some (text_of w) (λ t. Some (Word t)) k h2 in
      let e : Word p.0 ≡ k = cc (p.2) in
      let same : w ≡ p.0 = (text_same w p.0 p.1).1 in
      subst (IsToken w) e (same, bare, λ z is. let n : None ≡ Some z = sym none ∙ number_complete w z is in cc)
  | inr some ↦
      let h2 : Some (Number some.0) ≡ Some k = sym (ap (word_or_number w) some.1) ∙ h in
      let e : Number some.0 ≡ k = cc (h2) in
      subst (IsToken w) e (number_sound w some.0 some.1)
]

quoted_sound : (body t : List ℕ) (k : Token) → text_token t ≡ Some k → Spells body t → IsToken (34 ∷ body ++ 34 ∷ []) k
quoted_sound body t k h spells = elim (cases_Bool (leb (length t) 65536)) [
  | inl fits ↦
      let h2 : (text_of t >>= λ t. Some (Quoted t)) ≡ Some k = rw fits at h in
      let p = bind-some (text_of t) (λ t. Some (Quoted t)) k h2 in
      let e : Quoted p.0 ≡ k = cc (p.2) in
      let same : t ≡ p.0 = (text_same t p.0 p.1).1 in
      subst (IsToken (34 ∷ body ++ 34 ∷ [])) (ap Quoted same ∙ e) (body, refl, spells, leb-true _ _ fits)
  | inr long ↦ let h2 : None ≡ Some k = rw long at h in cc
]

-- FROM A PLACE ON

-- what the tokens are from a place on
abbrev pub WordMeans : List ℕ → List ℕ → List Token → Type 0
WordMeans w bs ts = (piece : List ℕ) × (rest : List ℕ) × (k : Token) × (more : List Token) × (bs ≡ piece ++ rest) × NoBlanks piece × EndsToken rest
    × (word_token (w ++ piece) ≡ Some k) × (ts ≡ k ∷ more) × AreTokens rest more

abbrev pub TextMeans : List ℕ → List ℕ → List Token → Type 0
TextMeans t bs ts = (text : List ℕ) × (body : List ℕ) × (rest : List ℕ) × (k : Token) × (more : List Token) × (bs ≡ body ++ 34 ∷ rest) × Spells body text × EndsToken rest
    × (text_token (t ++ text) ≡ Some k) × (ts ≡ k ∷ more) × AreTokens rest more

abbrev pub EscapedMeans : List ℕ → List ℕ → List Token → Type 0
EscapedMeans t bs ts = (letter : ℕ) × (c : ℕ) × (rest : List ℕ) × (bs ≡ letter ∷ rest) × (escape_of letter ≡ Some c) × TextMeans (t ++ c ∷ []) rest ts

abbrev pub ClosedMeans : Token → List ℕ → List Token → Type 0
ClosedMeans k bs ts = (more : List Token) × EndsToken bs × (ts ≡ k ∷ more) × AreTokens bs more

abbrev pub Means : LexState → List ℕ → List Token → Type 0
Means Between bs ts = AreTokens bs ts
Means (InWord w) bs ts = WordMeans w bs ts
Means (InText t) bs ts = TextMeans t bs ts
Means (Escaped t) bs ts = EscapedMeans t bs ts
Means (Closed k) bs ts = ClosedMeans k bs ts

blank_more : (b : ℕ) (bs : List ℕ) (ts : List Token) → IsTrue (is_blank b) → AreTokens bs ts → AreTokens (b ∷ bs) ts
blank_more b bs [] blank h = (blank, h)
blank_more b bs (t ∷ ts) blank (front, piece, rest, e, blanks, is, ends, more) = (b ∷ front, piece, rest, ap (λ (l : List ℕ). b ∷ l) e, (blank, blanks), is, ends, more)

word_start : (b : ℕ) (bs : List ℕ) (ts : List Token) → ¬ IsTrue (is_blank b) → b ≢ 34 → WordMeans (b ∷ []) bs ts → AreTokens (b ∷ bs) ts
word_start b bs ts visible other (piece, rest, k, more, e, none, ends, is, are, tokens) =
    let some : (b ∷ piece) ≢ [] = λ h. cc in
    let bare : IsBare (b ∷ piece) = (some, (visible, none), λ r h. other cc) in
    subst (AreTokens (b ∷ bs)) (sym are) ([], b ∷ piece, rest, ap (λ (l : List ℕ). b ∷ l) e, tt, word_sound (b ∷ piece) k is bare, ends, tokens)

text_start : (bs : List ℕ) (ts : List Token) → TextMeans [] bs ts → AreTokens (34 ∷ bs) ts
text_start bs ts (text, body, rest, k, more, e, spells, ends, is, are, tokens) =
    subst (AreTokens (34 ∷ bs)) (sym are)
    ([], 34 ∷ body ++ 34 ∷ [], rest, ap (λ (l : List ℕ). 34 ∷ l) (e ∙ sym (append_assoc body (34 ∷ []) rest)), tt, quoted_sound body text k is spells, ends, tokens)

word_more : (w : List ℕ) (b : ℕ) (bs : List ℕ) (ts : List Token) → ¬ IsTrue (is_blank b) → WordMeans (w ++ b ∷ []) bs ts → WordMeans w (b ∷ bs) ts
word_more w b bs ts visible (piece, rest, k, more, e, none, ends, is, are, tokens) =
    (b ∷ piece, rest, k, more, ap (λ (l : List ℕ). b ∷ l) e, (visible, none), ends, ap word_token (sym (append_assoc w (b ∷ []) piece)) ∙ is, are, tokens)

text_more : (t : List ℕ) (b : ℕ) (bs : List ℕ) (ts : List Token) → b ≢ 34 → b ≢ 92 → TextMeans (t ++ b ∷ []) bs ts → TextMeans t (b ∷ bs) ts
text_more t b bs ts quote slash (text, body, rest, k, more, e, spells, ends, is, are, tokens) =
    (b ∷ text, b ∷ body, rest, k, more, ap (λ (l : List ℕ). b ∷ l) e, (body, spells, inl (refl, quote, slash)), ends, ap text_token (sym (append_assoc t (b ∷ []) text)) ∙ is, are, tokens)

text_escape : (t bs : List ℕ) (ts : List Token) → EscapedMeans t bs ts → TextMeans t (92 ∷ bs) ts
text_escape t bs ts (letter, c, after, from, escape, (text, body, rest, k, more, e, spells, ends, is, are, tokens)) = (
  c ∷ text,
  92 ∷ letter ∷ body,
  rest,
  k,
  more,
  ap (λ (l : List ℕ). 92 ∷ l) (from ∙ ap (λ (l : List ℕ). letter ∷ l) e),
  (body, spells, inr (letter, refl, escape_sound letter c escape)),
  ends,
  ap text_token (sym (append_assoc t (c ∷ []) text)) ∙ is,
  are,
  tokens,
)

text_end : (t bs : List ℕ) (k : Token) (ts : List Token) → text_token t ≡ Some k → ClosedMeans k bs ts → TextMeans t (34 ∷ bs) ts
text_end t bs k ts is (more, ends, are, tokens) = ([], [], bs, k, more, refl, refl, ends, ap text_token (append-nil t) ∙ is, are, tokens)

end_sound : (place : LexState) (ts : List Token) → tokens_from [] place ≡ Some ts → Means place [] ts
end_sound Between ts h = let e : [] ≡ ts = cc (h) in subst (AreTokens []) e tt
end_sound (InWord w) ts h =
    let p = bind-some (finish (InWord w)) (λ t. Some (option_to_list t)) ts h in
    let q = bind-some (word_token w) (λ t. Some (Some t)) p.0 p.1 in
    let o : Some q.0 ≡ p.0 = cc (q.2) in
    let e : option_to_list p.0 ≡ ts = cc (p.2) in
    let are : ts ≡ q.0 ∷ [] = sym e ∙ sym (ap option_to_list o) in
    ([], [], q.0, [], refl, tt, tt, ap word_token (append-nil w) ∙ q.1, are, tt)
end_sound (InText t) ts h = cc
end_sound (Escaped t) ts h = cc
end_sound (Closed k) ts h = let e : k ∷ [] ≡ ts = cc (h) in ([], tt, sym e, tt)

pub tokens_sound : (bs : List ℕ) (place : LexState) (ts : List Token) → tokens_from bs place ≡ Some ts → Means place bs ts
tokens_sound [] place ts h = end_sound place ts h
tokens_sound (b ∷ bs) Between ts h = elim (cases_Bool (is_blank b)) [
  | inl blank ↦
      let h2 : before [] (tokens_from bs Between) ≡ Some ts = rw blank at h in
      blank_more b bs ts blank (tokens_sound bs Between ts (sym (before-none (tokens_from bs Between)) ∙ h2))
  | inr visible ↦ elim (cases_Bool (b == 34)) [
    | inl quote ↦
        let h2 : before [] (tokens_from bs (InText [])) ≡ Some ts = rw (visible, quote) at h in
        subst (λ (x : ℕ). AreTokens (x ∷ bs) ts) (sym (eqb-true b 34 quote)) (text_start bs ts (tokens_sound bs (InText []) ts (sym (before-none (tokens_from bs (InText []))) ∙ h2)))
    | inr other ↦
        let h2 : before [] (tokens_from bs (InWord (b ∷ []))) ≡ Some ts = rw (visible, other) at h in
        word_start b bs ts (false-not (is_blank b) visible) (eqb_ne b 34 other) (tokens_sound bs (InWord (b ∷ [])) ts (sym (before-none (tokens_from bs (InWord (b ∷ [])))) ∙ h2))
  ]
]
tokens_sound (b ∷ bs) (InWord w) ts h = elim (cases_Bool (is_blank b)) [
  | inl blank ↦
      let h2 : ((word_token w >>= λ t. Some (Between, Some t)) >>= λ s. before (option_to_list s.1) (tokens_from bs s.0)) ≡ Some ts = rw blank at h in
      let p = bind-some (word_token w >>= λ t. Some (Between, Some t)) (λ s. before (option_to_list s.1) (tokens_from bs s.0)) ts h2 in
      let q = bind-some (word_token w) (λ t. Some (Between, Some t)) p.0 p.1 in
      let h3 : before (q.0 ∷ []) (tokens_from bs Between) ≡ Some ts = ap (λ o. o >>= λ s. before (option_to_list s.1) (tokens_from bs s.0)) q.2 ∙ p.2 in
      let r = before_some q.0 (tokens_from bs Between) ts h3 in
      ([], b ∷ bs, q.0, r.0, refl, tt, blank, ap word_token (append-nil w) ∙ q.1, r.2, blank_more b bs r.0 blank (tokens_sound bs Between r.0 r.1))
  | inr visible ↦
      let h2 : before [] (tokens_from bs (InWord (w ++ b ∷ []))) ≡ Some ts = rw visible at h in
      word_more w b bs ts (false-not (is_blank b) visible) (tokens_sound bs (InWord (w ++ b ∷ [])) ts (sym (before-none (tokens_from bs (InWord (w ++ b ∷ [])))) ∙ h2))
]
tokens_sound (b ∷ bs) (InText t) ts h = elim (cases_Bool (b == 34)) [
  | inl quote ↦
      let h2 : ((text_token t >>= λ k. Some (Closed k, None)) >>= λ s. before (option_to_list s.1) (tokens_from bs s.0)) ≡ Some ts = rw quote at h in
      let p = bind-some (text_token t >>= λ k. Some (Closed k, None)) (λ s. before (option_to_list s.1) (tokens_from bs s.0)) ts h2 in
      let q = bind-some (text_token t) (λ k. Some (Closed k, None)) p.0 p.1 in
      let h3 : before [] (tokens_from bs (Closed q.0)) ≡ Some ts = ap (λ o. o >>= λ s. before (option_to_list s.1) (tokens_from bs s.0)) q.2 ∙ p.2 in
      subst (λ (x : ℕ). TextMeans t (x ∷ bs) ts) (sym (eqb-true b 34 quote)) (text_end t bs q.0 ts q.1 (tokens_sound bs (Closed q.0) ts (sym (before-none (tokens_from bs (Closed q.0))) ∙ h3)))
  | inr other ↦ elim (cases_Bool (b == 92)) [
    | inl slash ↦
        let h2 : before [] (tokens_from bs (Escaped t)) ≡ Some ts = rw (other, slash) at h in
        subst (λ (x : ℕ). TextMeans t (x ∷ bs) ts) (sym (eqb-true b 92 slash)) (text_escape t bs ts (tokens_sound bs (Escaped t) ts (sym (before-none (tokens_from bs (Escaped t))) ∙ h2)))
    | inr plain ↦
        let h2 : before [] (tokens_from bs (InText (t ++ b ∷ []))) ≡ Some ts = rw (other, plain) at h in
        text_more t b bs ts (eqb_ne b 34 other) (eqb_ne b 92 plain) (tokens_sound bs (InText (t ++ b ∷ [])) ts (sym (before-none (tokens_from bs (InText (t ++ b ∷ [])))) ∙ h2))
  ]
]
tokens_sound (b ∷ bs) (Escaped t) ts h =
    let p = bind-some (escape_of b >>= λ c. Some (InText (t ++ c ∷ []), None)) (λ s. before (option_to_list s.1) (tokens_from bs s.0)) ts h in
    let q = bind-some (escape_of b) (λ c. Some (InText (t ++ c ∷ []), None)) p.0 p.1 in
    let h3 : before [] (tokens_from bs (InText (t ++ q.0 ∷ []))) ≡ Some ts = ap (λ o. o >>= λ s. before (option_to_list s.1) (tokens_from bs s.0)) q.2 ∙ p.2 in
    (b, q.0, bs, refl, q.1, tokens_sound bs (InText (t ++ q.0 ∷ [])) ts (sym (before-none (tokens_from bs (InText (t ++ q.0 ∷ [])))) ∙ h3))
tokens_sound (b ∷ bs) (Closed k) ts h = elim (cases_Bool (is_blank b)) [
  | inl blank ↦
      let h2 : before (k ∷ []) (tokens_from bs Between) ≡ Some ts = rw blank at h in
      let r = before_some k (tokens_from bs Between) ts h2 in
      (r.0, blank, r.2, blank_more b bs r.0 blank (tokens_sound bs Between r.0 r.1))
  | inr visible ↦ let h2 : None ≡ Some ts = rw visible at h in cc
]
