-- The items of a list of processes once one of them is replaced, or another is appended.
use Rattle.std.proofs.Common.{◌≡◌, ◌≢◌, ℕ, zero, suc, List, [], ◌∷◌, ◌++◌, length, refl, sym, ap, subst, arith}
use Rattle.std.specs.Prelude.{Option, Some, None, slice_get, slice_set}
use Rattle.std.specs.List.{AllByRecursion}
use Rattle.run_model.specs.Core.{Process}

-- where a relation holds of each with itself, it holds place by place
module _ (R : Option Process → Option Process → Type 0) (itself : (o : Option Process) → R o o) where
  pub set_related : (ps : List Process) (number : ℕ) (p q : Process) → slice_get ps number ≡ Some p
      → R (Some p) (Some q) → (k : ℕ) → R (slice_get ps k) (slice_get (slice_set ps number q) k)
  set_related [] zero p q is here k = absurd cc
  set_related [] (suc number) p q is here k = absurd cc
  set_related (r ∷ ps) zero p q is here zero =
      let same : r ≡ p = cc in subst (λ (x : Process). R (Some x) (Some q)) (sym same) here
  set_related (r ∷ ps) zero p q is here (suc k) = itself (slice_get ps k)
  set_related (r ∷ ps) (suc number) p q is here zero = itself (Some r)
  set_related (r ∷ ps) (suc number) p q is here (suc k) = set_related ps number p q is here k

  pub one_related : (ps : List Process) (q : Process) → R None (Some q)
      → (k : ℕ) → R (slice_get ps k) (slice_get (ps ++ q ∷ []) k)
  one_related [] q here zero = here
  one_related [] q here (suc zero) = itself None
  one_related [] q here (suc (suc k)) = itself None
  one_related (p ∷ ps) q here zero = itself (Some p)
  one_related (p ∷ ps) q here (suc k) = one_related ps q here k

-- the place itself
pub set_there : (ps : List Process) (number : ℕ) (p q : Process) → slice_get ps number ≡ Some p
    → slice_get (slice_set ps number q) number ≡ Some q
set_there [] zero p q is = absurd cc
set_there [] (suc number) p q is = absurd cc
set_there (r ∷ ps) zero p q is = refl
set_there (r ∷ ps) (suc number) p q is = set_there ps number p q is

pub one_there : (ps : List Process) (k : ℕ) (p q : Process) → slice_get ps k ≡ Some p
    → slice_get (ps ++ q ∷ []) k ≡ Some p
one_there [] zero p q is = absurd cc
one_there [] (suc k) p q is = absurd cc
one_there (r ∷ ps) zero p q is = is
one_there (r ∷ ps) (suc k) p q is = one_there ps k p q is

-- another place
pub set_other : (ps : List Process) (number k : ℕ) (q : Process) → k ≢ number
    → slice_get (slice_set ps number q) k ≡ slice_get ps k
set_other [] zero k q apart = refl
set_other [] (suc number) k q apart = refl
set_other (r ∷ ps) zero zero q apart = absurd (apart refl)
set_other (r ∷ ps) zero (suc k) q apart = refl
set_other (r ∷ ps) (suc number) zero q apart = refl
set_other (r ∷ ps) (suc number) (suc k) q apart = set_other ps number k q (λ same. apart (ap suc same))

-- how many there are
pub set_length : (ps : List Process) (k : ℕ) (q : Process) → length (slice_set ps k q) ≡ length ps
set_length [] zero q = refl
set_length [] (suc k) q = refl
set_length (r ∷ ps) zero q = refl
set_length (r ∷ ps) (suc k) q = omega (arith, set_length ps k q)

-- what holds of each
module _ (P : Process → Type 0) where
  pub found_all : (ps : List Process) (k : ℕ) (p : Process) → AllByRecursion P ps → slice_get ps k ≡ Some p → P p
  found_all [] zero p all is = absurd cc
  found_all [] (suc k) p all is = absurd cc
  found_all (q ∷ ps) zero p all is = let same : q ≡ p = cc in subst P same all.0
  found_all (q ∷ ps) (suc k) p all is = found_all ps k p all.1 is

  pub set_all : (ps : List Process) (k : ℕ) (q : Process) → P q → AllByRecursion P ps
      → AllByRecursion P (slice_set ps k q)
  set_all [] zero q here all = tt
  set_all [] (suc k) q here all = tt
  set_all (r ∷ ps) zero q here all = (here, all.1)
  set_all (r ∷ ps) (suc k) q here all = (all.0, set_all ps k q here all.1)
