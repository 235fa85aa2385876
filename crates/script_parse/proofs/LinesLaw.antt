-- The lines that are cut are the lines of the grammar.
use Rattle.std.proofs.Common.{◌≡◌, ◌≢◌, ℕ, List, [], ◌∷◌, ◌++◌, refl, sym, ap, ◌∙◌, subst, true, false, inl, inr, ◌⊎◌}
use Rattle.std.specs.Prelude.{◌==◌}
use Rattle.std.proofs.lemmas.Bool.{cases_Bool, eqb-true, eq-eqb, false≢true}
use Rattle.script_parse.specs.Lines.{lines_of, grow, starts_with_feed}
use Rattle.script_parse.specs.Grammar.{HasNoFeed, EndsInReturn, AreLines}
use Rattle.ldv_value.proofs.Booleans.{and-false}

-- the lines of a byte that is no LF, before bytes that don't begin with one
cut_more : (b : ℕ) (bs : List ℕ) → (b == 10) ≡ false → starts_with_feed bs ≡ false → lines_of (b ∷ bs) ≡ grow b (lines_of bs)
cut_more b bs miss other = rw (miss, other, and-false (b == 13)) refl

pub ne_eqb : (a b : ℕ) → a ≢ b → (a == b) ≡ false
ne_eqb a b h = elim (cases_Bool (a == b)) [
  | inl hit ↦ absurd (h (eqb-true a b hit))
  | inr miss ↦ miss
]

cons_nil : (b : ℕ) (bs : List ℕ) → (b ∷ bs) ≢ []
cons_nil b bs h = cc

nil_not : (front : List ℕ) → [] ≡ front ++ 13 ∷ [] → ⊥
nil_not [] e = cc
nil_not (x ∷ xs) e = cc

nil_no_return : ¬ EndsInReturn []
nil_no_return h = nil_not h.0 h.1

-- a byte before bytes that have lines
more_return : (b : ℕ) (bs line rest : List ℕ) → (b ≢ 13) ⊎ (starts_with_feed bs ≡ false) → bs ≡ line ++ 10 ∷ rest → ¬ EndsInReturn line → (front : List ℕ) → b ∷ line ≡ front ++ 13 ∷ [] → ⊥
more_return b bs line rest (inl not) e none [] h = not cc
more_return b bs [] rest (inr not) e none [] h = false≢true (sym not ∙ ap starts_with_feed e)
more_return b bs (c ∷ cs) rest (inr not) e none [] h = cc
more_return b bs line rest h e none (x ∷ xs) is = let same : line ≡ xs ++ 13 ∷ [] = cc in none (xs, same)

grow_lines : (b : ℕ) (bs : List ℕ) (lines : List (List ℕ)) → b ≢ 10 → (b ≢ 13) ⊎ (starts_with_feed bs ≡ false) → AreLines bs lines → AreLines (b ∷ bs) (grow b lines)
grow_lines b bs [] ne other h = ((ne, tt), inl (ap (λ (l : List ℕ). b ∷ l) h, cons_nil b [], refl))
grow_lines b bs (line ∷ lines) ne other (free, inl (e, some, none)) = ((ne, free), inl (ap (λ (l : List ℕ). b ∷ l) e, cons_nil b line, none))
grow_lines b bs (line ∷ lines) ne other (free, inr (rest, inl (e, plain), more)) =
    ((ne, free), inr (rest, inl (ap (λ (l : List ℕ). b ∷ l) e, λ h. more_return b bs line rest other e plain h.0 h.1), more))
grow_lines b bs (line ∷ lines) ne other (free, inr (rest, inr e, more)) = ((ne, free), inr (rest, inr (ap (λ (l : List ℕ). b ∷ l) e), more))

pub eqb_ne : (a b : ℕ) → (a == b) ≡ false → a ≢ b
eqb_ne a b miss e = false≢true (sym miss ∙ eq-eqb a b e)

-- a line that an LF ends at once
feed_lines : (b : ℕ) (bs : List ℕ) → (b == 10) ≡ true → AreLines bs (lines_of bs) → AreLines (b ∷ bs) (lines_of (b ∷ bs))
feed_lines b bs hit rest =
    let cut : lines_of (b ∷ bs) ≡ [] ∷ lines_of bs = rw hit refl in
    subst (AreLines (b ∷ bs)) (sym cut) (tt, inr (bs, inl (ap (λ (x : ℕ). x ∷ bs) (eqb-true b 10 hit), nil_no_return), rest))

plain_lines : (b : ℕ) (bs : List ℕ) → (b == 10) ≡ false → starts_with_feed bs ≡ false → AreLines bs (lines_of bs) → AreLines (b ∷ bs) (lines_of (b ∷ bs))
plain_lines b bs miss other rest = subst (AreLines (b ∷ bs)) (sym (cut_more b bs miss other)) (grow_lines b bs (lines_of bs) (eqb_ne b 10 miss) (inr other) rest)

before_feed : (b : ℕ) (bs : List ℕ) → (b == 10) ≡ false → starts_with_feed bs ≡ true → (b == 13) ≡ false → AreLines bs (lines_of bs) → AreLines (b ∷ bs) (lines_of (b ∷ bs))
before_feed b bs miss first not rest =
    let cut : lines_of (b ∷ bs) ≡ grow b (lines_of bs) = rw (miss, first, not) refl in
    subst (AreLines (b ∷ bs)) (sym cut) (grow_lines b bs (lines_of bs) (eqb_ne b 10 miss) (inl (eqb_ne b 13 not)) rest)

return_lines : (b c : ℕ) (cs : List ℕ) → (b == 10) ≡ false → (c == 10) ≡ true → (b == 13) ≡ true → AreLines cs (lines_of cs) → AreLines (b ∷ c ∷ cs) (lines_of (b ∷ c ∷ cs))
return_lines b c cs miss first is rest =
    let cut : lines_of (b ∷ c ∷ cs) ≡ [] ∷ lines_of cs = rw (miss, first, is) refl in
    let bytes : b ∷ c ∷ cs ≡ 13 ∷ 10 ∷ cs = ap (λ (x : ℕ). x ∷ c ∷ cs) (eqb-true b 13 is) ∙ ap (λ (x : ℕ). 13 ∷ x ∷ cs) (eqb-true c 10 first) in
    subst (AreLines (b ∷ c ∷ cs)) (sym cut) (tt, inr (cs, inr bytes, rest))

pub lines_sound : (bytes : List ℕ) → AreLines bytes (lines_of bytes)
lines_sound [] = refl
lines_sound (b ∷ []) = elim (cases_Bool (b == 10)) [
  | inl hit ↦ feed_lines b [] hit refl
  | inr miss ↦ plain_lines b [] miss refl refl
]
lines_sound (b ∷ c ∷ cs) = elim (cases_Bool (b == 10)) [
  | inl hit ↦ feed_lines b (c ∷ cs) hit (lines_sound (c ∷ cs))
  | inr miss ↦ elim (cases_Bool (starts_with_feed (c ∷ cs))) [
    | inl first ↦ elim (cases_Bool (b == 13)) [
      | inl is ↦ return_lines b c cs miss first is (lines_sound cs)
      | inr not ↦ before_feed b (c ∷ cs) miss first not (lines_sound (c ∷ cs))
    ]
    | inr other ↦ plain_lines b (c ∷ cs) miss other (lines_sound (c ∷ cs))
  ]
]

pub last_line : (line : List ℕ) → HasNoFeed line → line ≢ [] → lines_of line ≡ line ∷ []
last_line [] free some = absurd (some refl)
last_line (b ∷ []) free some = cut_more b [] (ne_eqb b 10 free.0) refl
last_line (b ∷ c ∷ cs) free some = cut_more b (c ∷ cs) (ne_eqb b 10 free.0) (ne_eqb c 10 free.1.0) ∙ ap (grow b) (last_line (c ∷ cs) free.1 (cons_nil c cs))

pub feed_line : (line rest : List ℕ) → HasNoFeed line → ¬ EndsInReturn line → lines_of (line ++ 10 ∷ rest) ≡ line ∷ lines_of rest
feed_line [] rest free plain = refl
feed_line (b ∷ []) rest free plain =
    let not : (b == 13) ≡ false = ne_eqb b 13 (λ e. plain ([], ap (λ (x : ℕ). x ∷ []) e)) in
    rw (ne_eqb b 10 free.0, not) refl
feed_line (b ∷ c ∷ cs) rest free plain =
    cut_more b (c ∷ cs ++ 10 ∷ rest) (ne_eqb b 10 free.0) (ne_eqb c 10 free.1.0)
    ∙ ap (grow b) (feed_line (c ∷ cs) rest free.1 (λ h. plain (b ∷ h.0, ap (λ (l : List ℕ). b ∷ l) h.1)))

pub return_line : (line rest : List ℕ) → HasNoFeed line → lines_of (line ++ 13 ∷ 10 ∷ rest) ≡ line ∷ lines_of rest
return_line [] rest free = refl
return_line (b ∷ []) rest free = cut_more b (13 ∷ 10 ∷ rest) (ne_eqb b 10 free.0) refl ∙ ap (grow b) (return_line [] rest tt)
return_line (b ∷ c ∷ cs) rest free =
    cut_more b (c ∷ cs ++ 13 ∷ 10 ∷ rest) (ne_eqb b 10 free.0) (ne_eqb c 10 free.1.0) ∙ ap (grow b) (return_line (c ∷ cs) rest free.1)

pub lines_complete : (lines : List (List ℕ)) (bytes : List ℕ) → AreLines bytes lines → lines_of bytes ≡ lines
lines_complete [] bytes h = ap lines_of h
lines_complete (line ∷ lines) bytes (free, inl (e, some, none)) = ap lines_of e ∙ last_line line free some ∙ ap (λ (ls : List (List ℕ)). line ∷ ls) (sym none)
lines_complete (line ∷ lines) bytes (free, inr (rest, inl (e, plain), more)) =
    ap lines_of e ∙ feed_line line rest free plain ∙ ap (λ (ls : List (List ℕ)). line ∷ ls) (lines_complete lines rest more)
lines_complete (line ∷ lines) bytes (free, inr (rest, inr e, more)) =
    ap lines_of e ∙ return_line line rest free ∙ ap (λ (ls : List (List ℕ)). line ∷ ls) (lines_complete lines rest more)
