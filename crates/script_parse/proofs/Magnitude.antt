-- A number digit by digit.
use Rattle.std.proofs.Common.{◌≡◌, ℕ, suc, ◌+◌, ◌-◌, ◌*◌, ◌^◌, ◌<◌, ◌≤◌, List, [], ◌∷◌, refl, false, leb, length, get_or, drop, drop-cons, arith, ap, ◌∙◌, None, inl, inr}
use Rattle.std.specs.List.{list_all}
use Rattle.std.proofs.lemmas.Bool.{cases_Bool, leb-false, lt-leb}
use Rattle.ldv_value.specs.Options.{◌>>=◌}
use Rattle.ldv_value.specs.Digits.{is_digit}
use Rattle.script_parse.specs.Number.{digits_from, magnitude_from}

digits_grow : (n : ℕ) (bs : List ℕ) → n ≤ digits_from n bs
digits_grow n [] = omega arith
digits_grow n (b ∷ bs) = omega (arith, digits_grow (10 * n + (b - 48)) bs)

too_long : (n : ℕ) (bs : List ℕ) → leb n (2 ^ 63) ≡ false → magnitude_from n bs ≡ None
too_long n bs h =
    let above : leb (digits_from n bs) (2 ^ 63) ≡ false = lt-leb _ _ (omega (arith, leb-false n (2 ^ 63) h, digits_grow n bs)) in
    elim (cases_Bool (list_all is_digit bs)) [
      | inl all ↦ rw (all, above) refl
      | inr not_all ↦ rw not_all refl
    ]

pub magnitude_more : (n b : ℕ) (bs : List ℕ) → magnitude_from n (b ∷ bs) ≡ (magnitude_from n (b ∷ []) >>= λ m. magnitude_from m bs)
magnitude_more n b bs = elim (cases_Bool (is_digit b)) [
  | inl digit ↦ elim (cases_Bool (leb (10 * n + (b - 48)) (2 ^ 63))) [
    | inl fits ↦ rw (digit, fits) refl
    | inr above ↦ rw (digit, above) (too_long (10 * n + (b - 48)) bs above)
  ]
  | inr other ↦ rw other refl
]

pub ruleset loop_steps = magnitude_more

pub magnitude_fails : (n : ℕ) (ds : List ℕ) (i : ℕ) → i < length ds → magnitude_from n (get_or ds i 0 ∷ []) ≡ None → magnitude_from n (drop i ds) ≡ None
magnitude_fails n ds i h e =
    ap (magnitude_from n) (drop-cons ds i 0 h) ∙ magnitude_more n (get_or ds i 0) (drop (suc i) ds) ∙ ap (λ o. o >>= λ m. magnitude_from m (drop (suc i) ds)) e
