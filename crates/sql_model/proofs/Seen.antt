-- Repeated items in a list, found by a set of the items that were seen.
use Rattle.std.proofs.Common.{◌≡◌, List, [], ◌∷◌, Bool, true, false, ◌&&◌, ◌||◌, not, cond, map, refl, sym, ap, ◌∙◌}
use Rattle.std.specs.List.{list_any}
use Rattle.sql_model.specs.Keys.{repeats}
use Rattle.ldv_value.proofs.Lists.{list_any-map, list_any-false}

-- the same over what f gives
pub repeats_map : {X Y : Type 0} (same : Y → Y → Bool) (f : X → Y) (xs : List X) → repeats same (map f xs) ≡ repeats (λ a b. same (f a) (f b)) xs
repeats_map same f [] = refl
repeats_map same f (x ∷ xs) = λ i. list_any-map (same (f x)) f xs i || repeats_map same f xs i

either_first : (p q a b : Bool) → (cond p true q || (a || b)) ≡ ((p || a) || (q || b))
either_first true q a b = refl
either_first false true true b = refl
either_first false true false b = refl
either_first false false a b = refl

any_either : {X : Type 0} (p q : X → Bool) (xs : List X) → list_any (λ x. cond (p x) true (q x)) xs ≡ (list_any p xs || list_any q xs)
any_either p q [] = refl
any_either p q (x ∷ xs) = ap (λ b. cond (p x) true (q x) || b) (any_either p q xs) ∙ either_first (p x) (q x) (list_any p xs) (list_any q xs)

regroup : (o a b r : Bool) → o ≡ false → ((o || a) || (b || r)) ≡ ((b || a) || r)
regroup true a b r fresh = cc
regroup false true true r fresh = refl
regroup false true false r fresh = refl
regroup false false true r fresh = refl
regroup false false false r fresh = refl

-- what is left has an item that was seen, or repeats itself
abbrev pub IsRest : {X : Type 0} → (X → X → Bool) → Bool → (X → Bool) → List X → Type 0
IsRest same all seen rest = all ≡ (list_any seen rest || repeats same rest)

-- nothing was seen yet
pub none_seen : {X : Type 0} (same : X → X → Bool) (xs : List X) → IsRest same (repeats same xs) (λ x. false) xs
none_seen same xs = ap (λ b. b || repeats same xs) (sym (list_any-false xs))

-- the next one wasn't seen, and is now
pub one_more : {X : Type 0} (same : X → X → Bool) (all : Bool) (seen now : X → Bool) (x : X) (rest : List X) → IsRest same all seen (x ∷ rest) → seen x ≡ false
    → ((q : X) → now q ≡ cond (same x q) true (seen q)) → IsRest same all now rest
one_more same all seen now x rest is fresh after =
    is ∙ regroup (seen x) (list_any seen rest) (list_any (same x) rest) (repeats same rest) fresh
    ∙ ap (λ b. b || repeats same rest) (sym (any_either (same x) seen rest) ∙ ap (λ (p : _ → Bool). list_any p rest) (λ i q. sym (after q) i))

pub seen_false : (added seen : Bool) → added ≡ true → added ≡ not seen → seen ≡ false
seen_false added true yes_added is = let e : true ≡ false = sym yes_added ∙ is in cc
seen_false added false yes_added is = refl

pub some_twice : (none twice repeating : Bool) → none ≡ false → twice ≡ repeating → twice ≡ (not none && repeating)
some_twice true twice repeating miss same = cc
some_twice false twice repeating miss same = same
