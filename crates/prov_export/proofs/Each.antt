-- A value for each number of a range.
use Rattle.std.proofs.Common.{◌≡◌, ◌∙◌, ap, refl, arith, ℕ, zero, suc, ◌+◌, ◌<◌, List, [], ◌∷◌, ◌++◌}
use Rattle.std.specs.Prelude.{Option, Some, None, option_and_then}
use Rattle.prov_export.specs.Reading.{each_from}
use Rattle.prov_export.specs.Stopping.{Stops}
use Rattle.prov_export.specs.declared.error.ProvStop.{ProvStop}
use Rattle.prov_export.specs.declared.error.ProvStop.TheVariants.{NotProv, NoMemory}

module _ {X : Type 0} (f : ℕ → Option X) where
  abbrev then_rest : Option (List X) → X → Option (List X)
  then_rest rest y = option_and_then (λ ys. Some (y ∷ ys)) rest

  -- one number more
  more_from : (p n : ℕ) (xs : List X) (x : X) → each_from f p n ≡ Some xs → f (p + n) ≡ Some x → each_from f p (suc n) ≡ Some (xs ++ x ∷ [])
  more_from p zero xs x is here =
      let none : [] ≡ xs = cc in
      let sum : p ≡ p + 0 = omega arith in
      ap (option_and_then (then_rest (Some []))) (ap f sum ∙ here) ∙ ap (λ (l : List X). Some (l ++ x ∷ [])) none
  more_from p (suc n) xs x is here =
      let sum : p + 1 + n ≡ p + suc n = omega arith in
      by (f p) (each_from f (p + 1) n) is (λ ys rest. more_from (p + 1) n ys x rest (ap f sum ∙ here))
    where
      by : (o : Option X) (rest : Option (List X)) → option_and_then (then_rest rest) o ≡ Some xs
          → ((ys : List X) → rest ≡ Some ys → each_from f (p + 1) (suc n) ≡ Some (ys ++ x ∷ []))
          → option_and_then (then_rest (each_from f (p + 1) (suc n))) o ≡ Some (xs ++ x ∷ [])
      by None rest none more = cc
      by (Some y) None none more = cc
      by (Some y) (Some ys) some more =
          let same : y ∷ ys ≡ xs = cc in
          ap (λ (o : Option (List X)). then_rest o y) (more ys refl) ∙ ap (λ (l : List X). Some (l ++ x ∷ [])) same

  none_from : (p n count : ℕ) → f (p + n) ≡ None → n < count → each_from f p count ≡ None
  none_from p n zero none below = absurd (omega arith)
  none_from p zero (suc count) none below =
      let sum : p ≡ p + 0 = omega arith in
      ap (option_and_then (then_rest (each_from f (p + 1) count))) (ap f sum ∙ none)
  none_from p (suc n) (suc count) none below =
      let sum : p + 1 + n ≡ p + suc n = omega arith in
      by (f p) (none_from (p + 1) n count (ap f sum ∙ none) (omega arith))
    where
      by : (o : Option X) → each_from f (p + 1) count ≡ None → option_and_then (then_rest (each_from f (p + 1) count)) o ≡ None
      by None rest = refl
      by (Some y) rest = ap (λ (o : Option (List X)). then_rest o y) rest

  pub each_more : (n : ℕ) (xs : List X) (x : X) → each_from f 0 n ≡ Some xs → f n ≡ Some x → each_from f 0 (n + 1) ≡ Some (xs ++ x ∷ [])
  each_more n xs x is here =
      let one : n + 1 ≡ suc n = omega arith in
      let sum : 0 + n ≡ n = omega arith in
      ap (λ (m : ℕ). each_from f 0 m) one ∙ more_from 0 n xs x is (ap f sum ∙ here)

  pub each_stops : (stop : ProvStop) (n count : ℕ) → Stops stop (f n) → n < count → Stops stop (each_from f 0 count)
  each_stops NotProv n count none below =
      let sum : 0 + n ≡ n = omega arith in
      none_from 0 n count (ap f sum ∙ none) below
  each_stops NoMemory n count none below = tt

pub ruleset each_rules = (each_more, each_stops)
