-- The first item of a list and the rest, as a loop splits them.
use Rattle.std.proofs.Common.{◌≡◌, ℕ, ◌≤◌, ◌-◌, List, [], ◌∷◌, length, get_or, take, drop, sym, ap, ◌∙◌, arith}
use Rattle.std.proofs.Math.Seq.{take-length}

-- a list whose first item is x; same is the list, as a slice of it names it
pub split_first : {X : Type 0} (rest same : List X) (x : X) → 1 ≤ length rest → x ≡ get_or rest 0 x → same ≡ rest
    → rest ≡ x ∷ take (length same - 1) (drop 1 rest)
split_first [] same x some first is = absurd (omega (arith, some))
split_first (y ∷ ys) same x some first is =
    let size : length same - 1 ≡ length ys = omega (arith, ap length is) in
    let all : take (length ys) ys ≡ ys = take-length ys in
    λ j. sym first j ∷ (sym all ∙ ap (λ (n : ℕ). take n ys) (sym size)) j
