-- The numbers that are read are those of the grammar.
use Rattle.std.proofs.Common.{◌≡◌, ◌≢◌, ℕ, ◌^◌, ◌<◌, ◌≤◌, List, [], ◌∷◌, refl, sym, ap, ◌∙◌, subst, cond, ◌&&◌, true, false, inl, inr, Some, None, ltb, leb, arith, pos, neg_ℤ, ℤ}
use Rattle.std.specs.Prelude.{◌==◌, IsTrue}
use Rattle.std.specs.List.{AllByRecursion, list_all}
use Rattle.std.proofs.lemmas.Bool.{cases_Bool, eqb-true, false≢true, leb-true, le-leb, ltb-true, lt-ltb}
use Rattle.std.proofs.lemmas.Option.{cond_some}
use Rattle.ldv_value.specs.Options.{◌>>=◌}
use Rattle.ldv_value.specs.Digits.{is_digit, AreDigits}
use Rattle.script_parse.specs.Number.{digits_from, magnitude_of, natural_of, negative_of, number_of}
use Rattle.script_parse.specs.Grammar.{IsNumber}
use Rattle.ldv_value.proofs.Options.{bind-some}
use Rattle.ldv_value.proofs.Booleans.{and-parts}

all_sound : (ds : List ℕ) → list_all is_digit ds ≡ true → AllByRecursion (λ b. IsTrue (is_digit b)) ds
all_sound [] h = tt
all_sound (d ∷ ds) h = let p = and-parts (is_digit d) (list_all is_digit ds) h in (p.0, all_sound ds p.1)

all_complete : (ds : List ℕ) → AllByRecursion (λ b. IsTrue (is_digit b)) ds → list_all is_digit ds ≡ true
all_complete [] h = refl
all_complete (d ∷ ds) h = let e : is_digit d ≡ true = h.0 in rw e (all_complete ds h.1)

magnitude_sound : (ds : List ℕ) (n : ℕ) → magnitude_of ds ≡ Some n → AreDigits ds × (n ≡ digits_from 0 ds) × (n ≤ 2 ^ 63)
magnitude_sound [] n h = cc
magnitude_sound (d ∷ ds) n h =
    let p = cond_some (list_all is_digit (d ∷ ds) && leb (digits_from 0 (d ∷ ds)) (2 ^ 63)) (digits_from 0 (d ∷ ds)) n h in
    let q = and-parts (list_all is_digit (d ∷ ds)) (leb (digits_from 0 (d ∷ ds)) (2 ^ 63)) p.0 in
    let within : digits_from 0 (d ∷ ds) ≤ 2 ^ 63 = leb-true _ _ q.1 in
    let some : (d ∷ ds) ≢ [] = λ e. cc in
    ((some, all_sound (d ∷ ds) q.0), sym p.1, subst (λ (m : ℕ). m ≤ 2 ^ 63) p.1 within)

magnitude_complete : (ds : List ℕ) → AreDigits ds → digits_from 0 ds ≤ 2 ^ 63 → magnitude_of ds ≡ Some (digits_from 0 ds)
magnitude_complete [] h within = absurd (h.0 refl)
magnitude_complete (d ∷ ds) h within =
    let all : list_all is_digit (d ∷ ds) ≡ true = all_complete (d ∷ ds) h.1 in
    let test : leb (digits_from 0 (d ∷ ds)) (2 ^ 63) ≡ true = le-leb _ _ within in
    ap (λ b. cond (b && leb (digits_from 0 (d ∷ ds)) (2 ^ 63)) (Some (digits_from 0 (d ∷ ds))) None) all
    ∙ ap (λ b. cond b (Some (digits_from 0 (d ∷ ds))) None) test

natural_sound : (piece : List ℕ) (z : ℤ) → natural_of piece ≡ Some z → IsNumber piece z
natural_sound piece z h =
    let p = bind-some (magnitude_of piece) (λ n. cond (ltb n (2 ^ 63)) (Some (pos n)) None) z h in
    let m = magnitude_sound piece p.0 p.1 in
    let q = cond_some (ltb p.0 (2 ^ 63)) (pos p.0) z p.2 in
    let below : p.0 < 2 ^ 63 = ltb-true _ _ q.0 in
    (piece, m.0, inl (refl, sym q.1 ∙ ap pos m.1, subst (λ (n : ℕ). n < 2 ^ 63) m.1 below))

pub number_sound : (piece : List ℕ) (z : ℤ) → number_of piece ≡ Some z → IsNumber piece z
number_sound [] z h = cc
number_sound (b ∷ bs) z h = elim (cases_Bool (b == 45)) [
  | inl is ↦
      let h2 : negative_of bs ≡ Some z = sym (ap (λ t. cond t (negative_of bs) (natural_of (b ∷ bs))) is) ∙ h in
      let p = bind-some (magnitude_of bs) (λ n. Some (neg_ℤ (pos n))) z h2 in
      let m = magnitude_sound bs p.0 p.1 in
      let same : neg_ℤ (pos p.0) ≡ z = cc (p.2) in
      (bs, m.0, inr (ap (λ (x : ℕ). x ∷ bs) (eqb-true b 45 is), sym same ∙ ap (λ n. neg_ℤ (pos n)) m.1, subst (λ (n : ℕ). n ≤ 2 ^ 63) m.1 m.2))
  | inr not ↦ natural_sound (b ∷ bs) z (sym (ap (λ t. cond t (negative_of bs) (natural_of (b ∷ bs))) not) ∙ h)
]

no_minus : (b : ℕ) → IsTrue (is_digit b) → (b == 45) ≡ false
no_minus b h = elim (cases_Bool (b == 45)) [
  | inl is ↦ absurd (false≢true (ap is_digit (sym (eqb-true b 45 is)) ∙ h))
  | inr not ↦ not
]

natural_complete : (ds : List ℕ) → AreDigits ds → digits_from 0 ds < 2 ^ 63 → number_of ds ≡ Some (pos (digits_from 0 ds))
natural_complete [] h below = absurd (h.0 refl)
natural_complete (d ∷ ds) h below =
    let n : ℕ = digits_from 0 (d ∷ ds) in
    let test : ltb n (2 ^ 63) ≡ true = lt-ltb _ _ below in
    ap (λ t. cond t (negative_of ds) (natural_of (d ∷ ds))) (no_minus d h.1.0)
    ∙ ap (λ o. o >>= λ n. cond (ltb n (2 ^ 63)) (Some (pos n)) None) (magnitude_complete (d ∷ ds) h (omega arith))
    ∙ ap (λ t. cond t (Some (pos n)) None) test

pub number_complete : (piece : List ℕ) (z : ℤ) → IsNumber piece z → number_of piece ≡ Some z
number_complete piece z (ds, digits, inl (e, is, below)) = ap number_of e ∙ natural_complete ds digits below ∙ ap Some (sym is)
number_complete piece z (ds, digits, inr (e, is, within)) =
    ap number_of e ∙ ap (λ o. o >>= λ n. Some (neg_ℤ (pos n))) (magnitude_complete ds digits within) ∙ ap Some (sym is)
