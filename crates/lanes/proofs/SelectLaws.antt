-- Comparisons by lanes.
use Rattle.std.proofs.Common.{◌≡◌, ℕ, suc, ◌+◌, ◌-◌, ◌*◌, ◌%◌, ◌^◌, ◌<◌, ◌≤◌, Bool, true, false, not, cond, List, [], ◌∷◌, map, length, get_or, refl, ap, sym, ◌∙◌, arith, w64, eqb, rules, drop-cons, add-one}
use Rattle.std.specs.Prelude.{ℤ, pos, int_lt, int_le}
use Rattle.std.specs.Ordering.{int_eq}
use mir.Syntax.{mask, eq, ne, lt, le, signed}
use mir.Val.{of_z, to_z, SFits}
use Rattle.std.proofs.lemmas.Int.{to_z-of_z}
use Rattle.std.proofs.lemmas.Bool.Decides.{same_from_decides, Decides-like, Decides-eqb, Decides-int_eq}
use borrow.Rule.Simd.Lanes.{act2}
use borrow.Table.Row.{s_int}
use lib.Lanes.{mask_l, top, Each1, chunk}
use Rattle.std.proofs.lemmas.Simd.{mask_l-mod}
use Rattle.ldv_value.specs.declared.value.Cmp.{Cmp}
use Rattle.ldv_value.specs.declared.value.Cmp.TheVariants.{Eq, Ne, Lt, Le, Gt, Ge}
use Rattle.lanes.specs.Selection.{passes}

abbrev pub lanes_lt : ℕ → ℕ → ℕ
lanes_lt = act2 (mask (lt signed)) (s_int w64) (s_int w64) (s_int w64)

abbrev pub lanes_le : ℕ → ℕ → ℕ
lanes_le = act2 (mask (le signed)) (s_int w64) (s_int w64) (s_int w64)

abbrev pub lanes_eq : ℕ → ℕ → ℕ
lanes_eq = act2 (mask eq) (s_int w64) (s_int w64) (s_int w64)

abbrev pub lanes_ne : ℕ → ℕ → ℕ
lanes_ne = act2 (mask ne) (s_int w64) (s_int w64) (s_int w64)

top_of : (b : Bool) → top 63 (cond b (2 ^ 64 - 1) 0) ≡ b
top_of true = refl
top_of false = refl

lt_top : (a b : ℕ) → top 63 (lanes_lt a b) ≡ int_lt (to_z w64 a) (to_z w64 b)
lt_top a b = top_of (int_lt (to_z w64 a) (to_z w64 b))

le_top : (a b : ℕ) → top 63 (lanes_le a b) ≡ int_le (to_z w64 a) (to_z w64 b)
le_top a b = top_of (int_le (to_z w64 a) (to_z w64 b))

eq_top : (a b : ℕ) → top 63 (lanes_eq a b) ≡ eqb a b
eq_top a b = top_of (eqb a b)

ne_top : (a b : ℕ) → top 63 (lanes_ne a b) ≡ not (eqb a b)
ne_top a b = top_of (not (eqb a b))

lt_passes : (x c : ℤ) → int_lt x c ≡ passes Lt c x
lt_passes x c = search rules

gt_passes : (x c : ℤ) → int_lt c x ≡ passes Gt c x
gt_passes x c = search rules

le_passes : (x c : ℤ) → int_le x c ≡ passes Le c x
le_passes x c = search rules

ge_passes : (x c : ℤ) → int_le c x ≡ passes Ge c x
ge_passes x c = search rules

pub lt_lane : (x c : ℤ) → SFits w64 x → SFits w64 c → top 63 (lanes_lt (of_z w64 x) (of_z w64 c)) ≡ passes Lt c x
lt_lane x c fit known = lt_top (of_z w64 x) (of_z w64 c) ∙ simp to_z-of_z (lt_passes x c)

pub gt_lane : (x c : ℤ) → SFits w64 x → SFits w64 c → top 63 (lanes_lt (of_z w64 c) (of_z w64 x)) ≡ passes Gt c x
gt_lane x c fit known = lt_top (of_z w64 c) (of_z w64 x) ∙ simp to_z-of_z (gt_passes x c)

pub le_lane : (x c : ℤ) → SFits w64 x → SFits w64 c → top 63 (lanes_le (of_z w64 x) (of_z w64 c)) ≡ passes Le c x
le_lane x c fit known = le_top (of_z w64 x) (of_z w64 c) ∙ simp to_z-of_z (le_passes x c)

pub ge_lane : (x c : ℤ) → SFits w64 x → SFits w64 c → top 63 (lanes_le (of_z w64 c) (of_z w64 x)) ≡ passes Ge c x
ge_lane x c fit known = le_top (of_z w64 c) (of_z w64 x) ∙ simp to_z-of_z (ge_passes x c)

-- the bits of two numbers are equal where the numbers are
same_bits : (x c : ℤ) → SFits w64 x → SFits w64 c → eqb (of_z w64 x) (of_z w64 c) ≡ int_eq x c
same_bits x c fit known =
    same_from_decides (eqb (of_z w64 x) (of_z w64 c)) (int_eq x c)
    (Decides-like (eqb (of_z w64 x) (of_z w64 c)) (λ same. sym (to_z-of_z w64 x fit) ∙ ap (to_z w64) same ∙ to_z-of_z w64 c known) (ap (of_z w64)) (Decides-eqb (of_z w64 x) (of_z w64 c)))
    (Decides-int_eq x c)

pub eq_lane : (x c : ℤ) → SFits w64 x → SFits w64 c → top 63 (lanes_eq (of_z w64 x) (of_z w64 c)) ≡ passes Eq c x
eq_lane x c fit known = eq_top (of_z w64 x) (of_z w64 c) ∙ same_bits x c fit known

pub ne_lane : (x c : ℤ) → SFits w64 x → SFits w64 c → top 63 (lanes_ne (of_z w64 x) (of_z w64 c)) ≡ passes Ne c x
ne_lane x c fit known = ne_top (of_z w64 x) (of_z w64 c) ∙ ap not (same_bits x c fit known)

lane_mask : (f : ℤ → ℕ) (p : ℤ → Bool) (xs : List ℤ) → ((x : ℤ) → SFits w64 x → top 63 (f x) ≡ p x) → Each1 (SFits w64) xs → mask_l (map (top 63) (map f xs)) ≡ mask_l (map p xs)
lane_mask f p [] each fit = refl
lane_mask f p (x ∷ xs) each fit =
    ap (λ (b : Bool). cond b 1 0 + 2 * mask_l (map (top 63) (map f xs))) (each x fit.0) ∙ ap (λ (n : ℕ). cond (p x) 1 0 + 2 * n) (lane_mask f p xs each fit.1)

-- the eight numbers from a place on
abbrev pub eight : List ℤ → ℕ → List ℤ
eight part at =
    get_or part at (pos 0) ∷ get_or part (at + 1) (pos 0) ∷ get_or part (at + 2) (pos 0) ∷ get_or part (at + 3) (pos 0)
    ∷ get_or part (at + 4) (pos 0) ∷ get_or part (at + 5) (pos 0) ∷ get_or part (at + 6) (pos 0) ∷ get_or part (at + 7) (pos 0) ∷ []

chunk_more : (part : List ℤ) (at n next : ℕ) → at < length part → next ≡ at + 1 → chunk at (suc n) part ≡ get_or part at (pos 0) ∷ chunk next n part
chunk_more part at n next within is = rw (is, add-one, drop-cons part at (pos 0)) refl

chunk_is : (part : List ℤ) (at : ℕ) → at + 8 ≤ length part → chunk at 8 part ≡ eight part at
chunk_is part at room =
    chunk_more part at 7 (at + 1) (omega arith) (omega arith) ∙ ap (λ (l : List ℤ). get_or part at (pos 0) ∷ l) (chunk_more part (at + 1) 6 (at + 2) (omega arith) (omega arith) ∙ ap (λ (l : List ℤ). get_or part (at + 1) (pos 0) ∷ l) (chunk_more part (at + 2) 5 (at + 3) (omega arith) (omega arith) ∙ ap (λ (l : List ℤ). get_or part (at + 2) (pos 0) ∷ l) (chunk_more part (at + 3) 4 (at + 4) (omega arith) (omega arith) ∙ ap (λ (l : List ℤ). get_or part (at + 3) (pos 0) ∷ l) (chunk_more part (at + 4) 3 (at + 5) (omega arith) (omega arith) ∙ ap (λ (l : List ℤ). get_or part (at + 4) (pos 0) ∷ l) (chunk_more part (at + 5) 2 (at + 6) (omega arith) (omega arith) ∙ ap (λ (l : List ℤ). get_or part (at + 5) (pos 0) ∷ l) (chunk_more part (at + 6) 1 (at + 7) (omega arith) (omega arith) ∙ ap (λ (l : List ℤ). get_or part (at + 6) (pos 0) ∷ l) (chunk_more part (at + 7) 0 (at + 8) (omega arith) (omega arith))))))))

-- what the lanes of eight numbers make, where each gives its answer
pub lanes_are : (op : Cmp) (c : ℤ) (f : ℤ → ℕ) (part : List ℤ) (at : ℕ) → at + 8 ≤ length part → ((x : ℤ) → SFits w64 x → top 63 (f x) ≡ passes op c x)
    → Each1 (SFits w64) (eight part at) → mask_l (map (top 63) (map f (eight part at))) % 2 ^ 64 ≡ mask_l (map (passes op c) (chunk at 8 part))
lanes_are op c f part at room each fit =
    ap (λ (n : ℕ). n % 2 ^ 64) (lane_mask f (passes op c) (eight part at) each fit) ∙ mask_l-mod (map (passes op c) (eight part at)) 64 (omega arith)
    ∙ ap (λ (l : List ℤ). mask_l (map (passes op c) l)) (sym (chunk_is part at room))
