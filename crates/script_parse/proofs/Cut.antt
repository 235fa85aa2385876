-- The first line of bytes.
use Rattle.std.proofs.Common.{◌≡◌, ◌≢◌, ◌⊎◌, ℕ, suc, ◌+◌, ◌-◌, ◌<◌, ◌≤◌, List, [], ◌∷◌, ◌++◌, length, take, drop, get_or, refl, ap, ◌∙◌, sym, subst, inl, inr, true, false, None, Some, arith, length-append, length-drop, take_all, take-append-drop, append_assoc, Bool}
use Rattle.std.specs.Prelude.{◌==◌, nat_lt, position, nat_eq}
use Rattle.std.specs.Cmp.Lexicographic.{pointwise}
use Rattle.std.specs.List.{position_or_len, before_first, AllByRecursion}
use Rattle.std.proofs.lemmas.Bool.{cases_Bool, eqb-true, false≢true, ltb-true, ltb-false}
use Rattle.std.proofs.lemmas.List.Quantifiers.{position-Some}
use Rattle.std.proofs.lemmas.List.Sums.{split_at_first}
use Rattle.std.proofs.lemmas.Option.{cond_some}
use Rattle.ldv_value.proofs.Lists.{drop-front}
use Rattle.ldv_value.proofs.SameBytes.{bytes_eq-true, bytes_eq-itself}
use Rattle.script_parse.specs.Lines.{lines_of}
use Rattle.script_parse.specs.Grammar.{HasNoFeed, EndsInReturn}
use Rattle.script_parse.proofs.LinesLaw.{eqb_ne, last_line, feed_line, return_line}

abbrev is_feed : ℕ → Bool
is_feed b = b == 10

-- before the first LF there is none
free_front : (bs : List ℕ) → HasNoFeed (take (position_or_len is_feed bs) bs)
free_front [] = tt
free_front (b ∷ bs) = elim (cases_Bool (b == 10)) [
  | inl hit ↦
      let place : position_or_len is_feed (b ∷ bs) ≡ 0 = rw hit refl in
      subst (λ (n : ℕ). HasNoFeed (take n (b ∷ bs))) (sym place) tt
  | inr miss ↦
      let one : position_or_len is_feed (b ∷ bs) ≡ 1 + position_or_len is_feed bs = rw miss refl in
      let place : position_or_len is_feed (b ∷ bs) ≡ suc (position_or_len is_feed bs) = omega (arith, one) in
      subst (λ (n : ℕ). HasNoFeed (take n (b ∷ bs))) (sym place) (eqb_ne b 10 miss, free_front bs)
]

abbrev SplitAt : List ℕ → ℕ → Type 0
SplitAt bs n = (n < length bs) × HasNoFeed (take n bs) × (bs ≡ take n bs ++ 10 ∷ drop (n + 1) bs)

feed_split : (bs : List ℕ) (n : ℕ) → position is_feed bs ≡ Some n → SplitAt bs n
feed_split bs n e =
    let p = position-Some is_feed bs n 0 e in
    let q = cond_some (nat_lt (position_or_len is_feed bs) (length bs)) (position_or_len is_feed bs) n e in
    let whole : bs ≡ take n bs ++ (get_or bs n 0 ∷ drop (n + 1) bs) =
    subst (λ (k : ℕ). bs ≡ take k bs ++ (get_or bs k 0 ∷ drop (k + 1) bs)) q.1 (split_at_first is_feed bs 0 (omega (arith, q.1, p.0))) in
    (p.0, subst (λ (k : ℕ). HasNoFeed (take k bs)) q.1 (free_front bs), whole ∙ ap (λ (c : ℕ). take n bs ++ (c ∷ drop (n + 1) bs)) (eqb-true (get_or bs n 0) 10 p.1))

none_some : (n : ℕ) → Some n ≡ None → ⊥
none_some n h = cc

free_all : (bs : List ℕ) → position is_feed bs ≡ None → HasNoFeed bs
free_all bs e = elim (cases_Bool (nat_lt (position_or_len is_feed bs) (length bs))) [
  | inl inside ↦
      let some : position is_feed bs ≡ Some (position_or_len is_feed bs) = rw inside refl in
      absurd (none_some _ (sym some ∙ e))
  | inr beyond ↦
      let all : take (position_or_len is_feed bs) bs ≡ bs = take_all _ _ (omega (arith, ltb-false (position_or_len is_feed bs) (length bs) beyond)) in
      subst HasNoFeed all (free_front bs)
]

free_start : (xs ys : List ℕ) → HasNoFeed (xs ++ ys) → HasNoFeed xs
free_start [] ys h = tt
free_start (x ∷ xs) ys h = (h.0, free_start xs ys h.1)

-- a line without the CR at its end
abbrev pub IsStripped : List ℕ → List ℕ → Type 0
IsStripped whole line = (whole ≡ line ++ 13 ∷ []) ⊎ ((line ≡ whole) × (¬ EndsInReturn whole))

line_is : (bs : List ℕ) (n : ℕ) (line : List ℕ) → SplitAt bs n → IsStripped (take n bs) line → lines_of bs ≡ line ∷ lines_of (drop (n + 1) bs)
line_is bs n line (inside, free, split) (inl ended) =
    let whole : bs ≡ line ++ 13 ∷ 10 ∷ drop (n + 1) bs = split ∙ ap (λ (l : List ℕ). l ++ 10 ∷ drop (n + 1) bs) ended ∙ append_assoc line (13 ∷ []) (10 ∷ drop (n + 1) bs) in
    ap lines_of whole ∙ return_line line (drop (n + 1) bs) (free_start line (13 ∷ []) (subst HasNoFeed ended free))
line_is bs n line (inside, free, split) (inr (same, plain)) =
    ap lines_of split ∙ feed_line (take n bs) (drop (n + 1) bs) free plain ∙ ap (λ (l : List ℕ). l ∷ lines_of (drop (n + 1) bs)) (sym same)

-- the same with the rest as a slice to the end
pub cut_line : (bs : List ℕ) (n : ℕ) (line : List ℕ) → position is_feed bs ≡ Some n → IsStripped (take n bs) line
    → lines_of bs ≡ line ∷ lines_of (take (length bs - (n + 1)) (drop (n + 1) bs))
cut_line bs n line e stripped =
    let rest : take (length bs - (n + 1)) (drop (n + 1) bs) ≡ drop (n + 1) bs = take_all _ _ (omega (arith, length-drop (n + 1) bs)) in
    line_is bs n line (feed_split bs n e) stripped ∙ ap (λ (l : List ℕ). line ∷ lines_of l) (sym rest)

pub cut_inside : (bs : List ℕ) (n : ℕ) → position is_feed bs ≡ Some n → n < length bs
cut_inside bs n e = (position-Some is_feed bs n 0 e).0

some_bytes : (bs : List ℕ) → 0 < length bs → bs ≢ []
some_bytes [] h e = absurd (omega arith)
some_bytes (b ∷ bs) h e = cc

pub cut_last : (bs : List ℕ) → position is_feed bs ≡ None → 0 < length bs → lines_of bs ≡ bs ∷ lines_of (take (length bs - length bs) (drop (length bs) bs))
cut_last bs e some =
    let nothing : length bs - length bs ≡ 0 = omega arith in
    last_line bs (free_all bs e) (some_bytes bs some) ∙ ap (λ (k : ℕ). bs ∷ lines_of (take k (drop (length bs) bs))) (sym nothing)

-- RETURNS

pub stripped : (line rest : List ℕ) → pointwise nat_eq (drop (length line - 1) line) (13 ∷ []) ≡ true → rest ≡ take (length line - 1) line → IsStripped line rest
stripped line rest h is =
    let last : drop (length line - 1) line ≡ 13 ∷ [] = bytes_eq-true (drop (length line - 1) line) (13 ∷ []) h in
    inl (sym (take-append-drop (length line - 1) line) ∙ ap (λ (l : List ℕ). l ++ drop (length line - 1) line) (sym is) ∙ ap (λ (l : List ℕ). rest ++ l) last)

pub ruleset cut_rules = (cut_line, cut_inside, cut_last)
