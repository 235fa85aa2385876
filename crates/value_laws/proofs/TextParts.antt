-- The parts of a text before and after a text in it: both are texts, and neither is longer.
use Rattle.std.proofs.Common.{◌≡◌, ℕ, suc, ◌+◌, ◌≤◌, List, [], ◌∷◌, ◌++◌, length, take, drop, refl, sym, ap, ◌∙◌, subst, true, false, arith, inl, inr, length-append}
use Rattle.std.specs.Prelude.{Option, Some, None, ◌==◌, slice_index}
use Rattle.std.specs.Str.{IsUtf8, IsCharBoundary}
use Rattle.std.proofs.lemmas.Bool.{cases_Bool, eqb-true, leb-true, false≢true}
use Rattle.std.proofs.lemmas.Str.{IsUtf8-nil, IsUtf8-take, IsUtf8-drop, IsCharBoundary-start, IsCharBoundary-from_take}
use Rattle.ldv_value.specs.Limits.{text_limit}
use Rattle.ldv_value.proofs.Lists.{take-front, drop-front}
use Rattle.run_model.specs.Types.{Text}
use Rattle.run_model.specs.StepVariables.{begins_with, first_place, before_place, after_place}
use Rattle.value_laws.specs.Values.{GoodValue}
use Rattle.value_laws.proofs.StepValues.{text_good}

-- ---- where a text stands

begins_rest : (by text : List ℕ) → begins_with by text ≡ true → (rest : List ℕ) × (text ≡ by ++ rest)
begins_rest [] text is = (text, refl)
begins_rest (b ∷ bs) [] is = absurd (false≢true is)
begins_rest (b ∷ bs) (c ∷ cs) is = elim (cases_Bool (b == c)) [
  | inl same ↦
      let more : begins_with bs cs ≡ true = rw same at is in
      let rest = begins_rest bs cs more in
      (rest.0, λ j. sym (eqb-true b c same) j ∷ rest.1 j)
  | inr other ↦ let never : false ≡ true = rw other at is in absurd (false≢true never)
]

record Found (by text : List ℕ) (passed place : ℕ) : Type 0 where
  front : List ℕ
  rest : List ℕ
  whole : text ≡ front ++ (by ++ rest)
  counted : place ≡ passed + length front

found_first : (passed : ℕ) (by text : List ℕ) (place : ℕ) → first_place passed by text ≡ Some place
    → Found by text passed place
found_first passed by [] place is = absurd cc
found_first passed by (b ∷ bs) place is = elim (cases_Bool (begins_with by (b ∷ bs))) [
  | inl here ↦
      let found : Some passed ≡ Some place = rw here at is in
      let same : passed ≡ place = cc in
      let rest = begins_rest by (b ∷ bs) here in
      record { front = []; rest = rest.0; whole = rest.1; counted = omega (arith, same) }
  | inr later ↦
      let next : first_place (passed + 1) by bs ≡ Some place = rw later at is in
      let found : Found by bs (passed + 1) place = found_first (passed + 1) by bs place next in
      record {
        front = b ∷ found.front;
        rest = found.rest;
        whole = ap (λ (l : List ℕ). b ∷ l) found.whole;
        counted = omega (arith, found.counted);
      }
]

-- ---- both parts

index_front : (xs : List ℕ) (y : ℕ) (ys : List ℕ) → slice_index (xs ++ y ∷ ys) (length xs) ≡ y
index_front [] y ys = refl
index_front (x ∷ xs) y ys = index_front xs y ys

-- a text may be cut where another begins
text_begins : (front : List ℕ) (b : ℕ) (bs rest : List ℕ) → IsUtf8 (b ∷ bs)
    → IsCharBoundary (front ++ (b ∷ bs ++ rest)) (length front)
text_begins front b bs rest utf8 =
    let first = IsCharBoundary-start (b ∷ bs) utf8 in
    let same : slice_index (front ++ (b ∷ bs ++ rest)) (length front) ≡ b = index_front front b (bs ++ rest) in (
      omega (arith, length-append front (b ∷ bs ++ rest)),
      λ inside high.
          subst (λ (x : ℕ). 192 ≤ x) (sym same)
          (first.1 (omega arith) (subst (λ (x : ℕ). 128 ≤ x) same high)),
    )

drop_both : (front by rest : List ℕ) → drop (length front + length by) (front ++ (by ++ rest)) ≡ rest
drop_both [] by rest =
    let same : 0 + length by ≡ length by = omega arith in
    ap (λ (k : ℕ). drop k (by ++ rest)) same ∙ drop-front by rest
drop_both (x ∷ front) by rest =
    let same : suc (length front) + length by ≡ suc (length front + length by) = omega arith in
    ap (λ (k : ℕ). drop k (x ∷ (front ++ (by ++ rest)))) same ∙ drop_both front by rest

-- what stands after a text at the front
after_text : (by rest : List ℕ) → IsUtf8 by → IsUtf8 (by ++ rest) → IsUtf8 rest
after_text by rest utf8 whole =
    let front : IsUtf8 (take (length by) (by ++ rest)) = subst IsUtf8 (sym (take-front by rest)) utf8 in
    let cut =
    IsCharBoundary-from_take (by ++ rest) (length by) whole (omega (arith, length-append by rest)) front in
    subst IsUtf8 (drop-front by rest) (IsUtf8-drop (by ++ rest) (length by) whole cut)

record Parts (front by rest : List ℕ) : Type 0 where
  before : GoodValue (Text front)
  after : GoodValue (Text rest)

parts_good : (front : List ℕ) (b : ℕ) (bs rest : List ℕ) → IsUtf8 (b ∷ bs)
    → IsUtf8 (front ++ (b ∷ bs ++ rest)) → length (front ++ (b ∷ bs ++ rest)) ≤ text_limit
    → Parts front (b ∷ bs) rest
parts_good front b bs rest utf8 whole short =
    let cut = text_begins front b bs rest utf8 in
    let count : length (front ++ (b ∷ bs ++ rest)) ≡ length front + length (b ∷ bs ++ rest) =
    length-append front (b ∷ bs ++ rest) in
    let more : length (b ∷ bs ++ rest) ≡ length (b ∷ bs) + length rest = length-append (b ∷ bs) rest in
    let before : IsUtf8 front =
    subst IsUtf8 (take-front front (b ∷ bs ++ rest))
    (IsUtf8-take (front ++ (b ∷ bs ++ rest)) (length front) whole cut) in
    let behind : IsUtf8 (b ∷ bs ++ rest) =
    subst IsUtf8 (drop-front front (b ∷ bs ++ rest))
    (IsUtf8-drop (front ++ (b ∷ bs ++ rest)) (length front) whole cut) in
    let short_front : length front ≤ text_limit = omega (arith, count, short) in
    let short_rest : length rest ≤ text_limit = omega (arith, count, more, short) in
    record {
      before = text_good front before short_front;
      after = text_good rest (after_text (b ∷ bs) rest utf8 behind) short_rest;
    }

-- ---- by a place

pub record GoodCut (by text : List ℕ) (place : Option ℕ) : Type 0 where
  pub before : GoodValue (Text (before_place place text))
  pub after : GoodValue (Text (after_place place by text))

cut_by : (b : ℕ) (bs text : List ℕ) (o : Option ℕ) → GoodValue (Text (b ∷ bs)) → GoodValue (Text text)
    → first_place 0 (b ∷ bs) text ≡ o → GoodCut (b ∷ bs) text o
cut_by b bs text None by whole is = record { before = whole; after = (IsUtf8-nil, refl) }
cut_by b bs text (Some place) by whole is =
    let found : Found (b ∷ bs) text 0 place = found_first 0 (b ∷ bs) text place is in
    let all : List ℕ = found.front ++ (b ∷ bs ++ found.rest) in
    let short : length text ≤ text_limit = leb-true (length text) text_limit whole.1 in
    let parts : Parts found.front (b ∷ bs) found.rest =
    parts_good found.front b bs found.rest by.0 (subst IsUtf8 found.whole whole.0)
    (subst (λ (l : List ℕ). length l ≤ text_limit) found.whole short) in
    let at : place ≡ length found.front = omega (arith, found.counted) in
    let front : take place text ≡ found.front =
    (λ j. take (at j) (found.whole j)) ∙ take-front found.front (b ∷ bs ++ found.rest) in
    let rest : drop (place + length (b ∷ bs)) text ≡ found.rest =
    (λ j. drop (at j + length (b ∷ bs)) (found.whole j)) ∙ drop_both found.front (b ∷ bs) found.rest in
    record {
      before = subst (λ (l : List ℕ). GoodValue (Text l)) (sym front) parts.before;
      after = subst (λ (l : List ℕ). GoodValue (Text l)) (sym rest) parts.after;
    }

pub cut_good : (b : ℕ) (bs text : List ℕ) → GoodValue (Text (b ∷ bs)) → GoodValue (Text text)
    → GoodCut (b ∷ bs) text (first_place 0 (b ∷ bs) text)
cut_good b bs text by whole = cut_by b bs text (first_place 0 (b ∷ bs) text) by whole refl
