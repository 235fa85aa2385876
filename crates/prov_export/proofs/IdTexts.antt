-- The rest of a text after its head.
use Rattle.std.proofs.Common.{◌≡◌, ◌∙◌, ℕ, ◌<◌, List, [], ◌∷◌, length, drop, refl, sym, arith, length-drop}
use Rattle.std.specs.Prelude.{None}
use Rattle.prov_export.specs.Ids.{after}

-- no text is left for what is left of the head
none_after : (ps : List ℕ) → 0 < length ps → after ps [] ≡ None
none_after [] below = absurd (omega arith)
none_after (p ∷ ps) below = refl

pub after_ended : (head text rest : List ℕ) (i : ℕ) → i < length head → length rest ≡ 0 → after (drop i head) rest ≡ after head text
    → None ≡ after head text
after_ended head text [] i below empty so_far = sym (none_after (drop i head) (omega (arith, length-drop i head))) ∙ so_far
after_ended head text (t ∷ ts) i below empty so_far = absurd (omega arith)
