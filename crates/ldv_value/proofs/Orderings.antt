-- Orderings that are known to be `Less` or `Equal`.
use Rattle.std.proofs.Common.{◌≡◌, ◌&&◌, refl, true, T}
use Rattle.std.specs.declared.cmp.Ordering.{Ordering}
use Rattle.std.specs.declared.cmp.Ordering.TheVariants.{Less, Equal, Greater}
use Rattle.std.specs.Ordering.{is_lt, is_eq, ordering_then}
use Rattle.ldv_value.proofs.Booleans.{t-to}

pub is_lt-true : (r : Ordering) → is_lt r ≡ true → r ≡ Less
is_lt-true Less h = refl
is_lt-true Equal h = cc
is_lt-true Greater h = cc

pub is_eq-true : (r : Ordering) → is_eq r ≡ true → r ≡ Equal
is_eq-true Less h = cc
is_eq-true Equal h = refl
is_eq-true Greater h = cc

-- two orders, the second where the first is Equal
pub then-tied : (a b : Ordering) → is_eq (ordering_then a b) ≡ (is_eq a && is_eq b)
then-tied Less b = refl
then-tied Equal b = refl
then-tied Greater b = refl

-- the same over `T`
pub t-less : (r : Ordering) → T (is_lt r) → r ≡ Less
t-less r h = is_lt-true r (t-to (is_lt r) h)
