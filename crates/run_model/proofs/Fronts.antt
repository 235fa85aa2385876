-- What a buffer held stays at its front as bytes are put at its end.
use Rattle.std.proofs.Common.{◌≡◌, ℕ, List, ◌++◌, ◌∙◌, ◌≤◌, length, take, refl, arith, ap}
use Rattle.std.proofs.Math.Seq.{take-append_seam, take-length}
use Rattle.std.proofs.lemmas.List.{take-append-le, length-append}

-- nothing was put
pub front_same : (new old : List ℕ) → new ≡ old → take (length old) new ≡ old
front_same new old is = ap (take (length old)) is ∙ take-length old

pub front_more : (new old more : List ℕ) → new ≡ old ++ more → take (length old) new ≡ old
front_more new old more is = ap (take (length old)) is ∙ take-append_seam old more

-- a part, and then another
pub front_then : (new old more last : List ℕ) → new ≡ (old ++ more) ++ last → take (length old) new ≡ old
front_then new old more last is =
    let within : length old ≤ length (old ++ more) = omega (arith, length-append old more) in
    ap (take (length old)) is ∙ take-append-le (length old) (old ++ more) last within ∙ take-append_seam old more

pub ruleset front_rules = (front_same, front_more, front_then)
