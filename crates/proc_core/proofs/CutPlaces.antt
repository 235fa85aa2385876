-- Where a text may be cut around another.
use Rattle.std.proofs.Common.{◌≡◌, ℕ, zero, suc, ◌+◌, ◌<◌, ◌≤◌, List, [], ◌∷◌, ◌++◌, length, get_or, take, drop, refl, sym, ap, ◌∙◌, subst, true, false, inl, inr, arith, get_or-drop, length-append, length-drop}
use Rattle.std.specs.Prelude.{Option, Some, None, IfSome, ◌==◌}
use Rattle.std.specs.Str.{IsUtf8, IsCharBoundary}
use Rattle.std.proofs.lemmas.Bool.{eq-eqb}
use Rattle.std.proofs.lemmas.List.{get_or_append_left}
use Rattle.std.proofs.lemmas.Str.{IsUtf8-drop, IsCharBoundary-start, IsCharBoundary-from_take, IsCharBoundary-from_rest}
use Rattle.ldv_value.proofs.Cases.{cases-bool}
use Rattle.ldv_value.proofs.SameBytes.{nat_eq-true}
use Rattle.ldv_value.proofs.Lists.{take-front}
use Rattle.memchr.specs.Find.{OccursAt, FindsNeedle}
use Rattle.run_model.specs.StepVariables.{begins_with, first_place}

-- ---- what begins with a text

begun : (by text : List ℕ) → begins_with by text ≡ true → text ≡ by ++ drop (length by) text
begun [] text is = refl
begun (b ∷ bs) [] is = absurd cc
begun (b ∷ bs) (c ∷ cs) is = elim (cases-bool (b == c)) [
  | inl same ↦
      let more : begins_with bs cs ≡ true = rw same at is in
      let at : b ≡ c = nat_eq-true b c same in
      λ i. sym at i ∷ begun bs cs more i
  | inr other ↦ let no : false ≡ true = rw other at is in absurd cc
]

-- the place that is found
record Placed (passed : ℕ) (by text : List ℕ) (n : ℕ) : Type 0 where
  count : ℕ
  same : n ≡ passed + count
  within : count < length text
  begins : begins_with by (drop count text) ≡ true

placed : (passed : ℕ) (by text : List ℕ) (n : ℕ) → first_place passed by text ≡ Some n → Placed passed by text n
placed passed by [] n is = absurd cc
placed passed by (b ∷ bs) n is = elim (cases-bool (begins_with by (b ∷ bs))) [
  | inl here ↦
      let found : Some passed ≡ Some n = rw here at is in
      let same : passed ≡ n = cc in
      record { count = 0; same = omega (arith, same); within = omega arith; begins = here }
  | inr elsewhere ↦
      let found : first_place (passed + 1) by bs ≡ Some n = rw elsewhere at is in
      let more = placed (passed + 1) by bs n found in
      record { count = suc more.count; same = omega (arith, more.same); within = omega (arith, more.within); begins = more.begins }
]

-- ---- where a search finds a text

-- what begins with a text has it there
occurs : (by text : List ℕ) (k : ℕ) → k ≤ length text → begins_with by (drop k text) ≡ true → OccursAt text by k
occurs by text k within begins =
    let is : drop k text ≡ by ++ drop (length by) (drop k text) = begun by (drop k text) begins in
    let size : length (drop k text) ≡ length by + length (drop (length by) (drop k text)) = ap length is ∙ length-append by (drop (length by) (drop k text)) in
    record {
      fits = omega (arith, within, size, length-drop k text);
      reads = λ j less.
          sym (get_or-drop k text j 0) ∙ ap (λ (l : List ℕ). get_or l j 0) is ∙ get_or_append_left by (drop (length by) (drop k text)) 0 j less;
    }

begins_by : (by rest : List ℕ) → length by ≤ length rest → ((j : ℕ) → j < length by → get_or rest j 0 ≡ get_or by j 0) → begins_with by rest ≡ true
begins_by [] rest fits reads = refl
begins_by (b ∷ bs) [] fits reads = absurd (omega (arith, fits))
begins_by (b ∷ bs) (c ∷ cs) fits reads =
    let first : (b == c) ≡ true = eq-eqb b c (sym (reads 0 (omega arith))) in
    let more : begins_with bs cs ≡ true = begins_by bs cs (omega (arith, fits)) (λ j less. reads (suc j) (omega (arith, less))) in
    rw first more

begins_at : (by text : List ℕ) (k : ℕ) → OccursAt text by k → begins_with by (drop k text) ≡ true
begins_at by text k there =
    begins_by by (drop k text) (omega (arith, there.fits, length-drop k text)) (λ j less. get_or-drop k text j 0 ∙ there.reads j less)

-- a text begins at no place below a number
abbrev Nowhere_below : ℕ → List ℕ → List ℕ → Type 0
Nowhere_below n by text = (i : ℕ) → i < n → begins_with by (drop i text) ≡ true → ⊥

none_from : (passed : ℕ) (by text : List ℕ) → Nowhere_below (length text) by text → first_place passed by text ≡ None
none_from passed by [] none = refl
none_from passed by (b ∷ bs) none = elim (cases-bool (begins_with by (b ∷ bs))) [
  | inl here ↦ absurd (none 0 (omega arith) here)
  | inr elsewhere ↦ rw elsewhere (none_from (passed + 1) by bs (λ i less. none (suc i) (omega (arith, less))))
]

first_from : (passed : ℕ) (by text : List ℕ) (k : ℕ) → k < length text → begins_with by (drop k text) ≡ true → Nowhere_below k by text
    → first_place passed by text ≡ Some (passed + k)
first_from passed by [] k within begins none = absurd (omega (arith, within))
first_from passed by (b ∷ bs) zero within begins none =
    let same : passed ≡ passed + 0 = omega arith in
    rw begins (ap {B = Option ℕ} Some same)
first_from passed by (b ∷ bs) (suc k) within begins none = elim (cases-bool (begins_with by (b ∷ bs))) [
  | inl here ↦ absurd (none 0 (omega arith) here)
  | inr elsewhere ↦
      let same : passed + 1 + k ≡ passed + suc k = omega arith in
      rw elsewhere (first_from (passed + 1) by bs k (omega (arith, within)) begins (λ i less. none (suc i) (omega (arith, less))) ∙ ap {B = Option ℕ} Some same)
]

pub found_first : (by text : List ℕ) (r : Option ℕ) → 0 < length by → FindsNeedle text by 0 r → r ≡ first_place 0 by text
found_first by text None some found =
    sym (none_from 0 by text (λ i less begins. found i (omega arith) (omega (arith, less)) (occurs by text i (omega (arith, less)) begins)))
found_first by text (Some k) some found =
    let within : k < length text = omega (arith, some, found.1.fits) in
    let same : k ≡ 0 + k = omega arith in
    ap {B = Option ℕ} Some same
    ∙ sym (first_from 0 by text k within (begins_at by text k found.1)
    (λ i less begins. found.0.before i (omega arith) less (occurs by text i (omega (arith, less, within)) begins)))

pub found_within : (by text : List ℕ) (r : Option ℕ) → FindsNeedle text by 0 r → IfSome r (λ n. n ≤ length text)
found_within by text None found = tt
found_within by text (Some k) found = omega (arith, found.1.fits)

pub ruleset found_rules = (found_first, found_within)

-- ---- cuts

-- before what begins with a text
before : (b : ℕ) (bs text : List ℕ) (n : ℕ) → IsUtf8 (b ∷ bs) → n < length text → begins_with (b ∷ bs) (drop n text) ≡ true → IsCharBoundary text n
before b bs text n valid within begins =
    let first : get_or (drop n text) 0 0 ≡ b = ap (λ (l : List ℕ). get_or l 0 0) (begun (b ∷ bs) (drop n text) begins) in
    let place : n + 0 ≡ n = omega arith in
    let here : get_or text n 0 ≡ b = sym (get_or-drop n text 0 0 ∙ ap (λ (k : ℕ). get_or text k 0) place) ∙ first in (
      omega (arith, within),
      λ inside high.
          let low : 128 ≤ b = omega (arith, here, high) in
          let lead : 192 ≤ b = (IsCharBoundary-start (b ∷ bs) valid).1 (omega arith) low in
          omega (arith, here, lead),
    )

-- after it
after : (by text : List ℕ) (n : ℕ) → IsUtf8 by → IsUtf8 text → IsCharBoundary text n → begins_with by (drop n text) ≡ true → IsCharBoundary text (n + length by)
after by text n valid whole cut begins =
    let rest : List ℕ = drop n text in
    let is : rest ≡ by ++ drop (length by) rest = begun by rest begins in
    let front : take (length by) rest ≡ by = ap (take (length by)) is ∙ take-front by (drop (length by) rest) in
    let size : length rest ≡ length by + length (drop (length by) rest) = ap length is ∙ length-append by (drop (length by) rest) in
    let inside : length by ≤ length rest = omega (arith, size) in
    IsCharBoundary-from_rest text n (length by) cut.0
    (IsCharBoundary-from_take rest (length by) (IsUtf8-drop text n whole cut) inside (subst IsUtf8 (sym front) valid))

cuts_at : (by text : List ℕ) (n : ℕ) → 0 < length by → IsUtf8 by → IsUtf8 text → first_place 0 by text ≡ Some n
    → IsCharBoundary text n × IsCharBoundary text (n + length by)
cuts_at [] text n some valid whole is = absurd (omega (arith, some))
cuts_at (b ∷ bs) text n some valid whole is =
    let p = placed 0 (b ∷ bs) text n is in
    let same : p.count ≡ n = omega (arith, p.same) in
    let begins : begins_with (b ∷ bs) (drop n text) ≡ true = subst (λ (k : ℕ). begins_with (b ∷ bs) (drop k text) ≡ true) same p.begins in
    let first : IsCharBoundary text n = before b bs text n valid (omega (arith, same, p.within)) begins in
    (first, after (b ∷ bs) text n valid whole first begins)

module _ (by text : List ℕ) (some : 0 < length by) (valid : IsUtf8 by) (whole : IsUtf8 text) where
  pub cuts_before : (place : Option ℕ) → place ≡ first_place 0 by text → IfSome place (IsCharBoundary text)
  cuts_before None is = tt
  cuts_before (Some n) is = (cuts_at by text n some valid whole (sym is)).0

  pub cuts_after : (place : Option ℕ) → place ≡ first_place 0 by text → IfSome place (λ n. IsCharBoundary text (n + length by))
  cuts_after None is = tt
  cuts_after (Some n) is = (cuts_at by text n some valid whole (sym is)).1
