-- Rows that are laid one after the other.
use Rattle.std.proofs.Common.{◌≡◌, ℕ, zero, suc, ◌+◌, ◌*◌, ◌-◌, ◌<◌, ◌≤◌, List, [], ◌∷◌, ◌++◌, length, take, drop, refl, sym, ap, subst, ◌∙◌, arith}
use Rattle.std.specs.List.{AllByRecursion}
use Rattle.std.proofs.lemmas.List.{take-append-le, drop-append-le, length-append, length-drop, length-take-le, take_all}
use Rattle.lineage.specs.Flat.{rows_in, HasLength}

pub rows_long : (count width : ℕ) (slots : List ℕ) → length (rows_in count width slots) ≡ count
rows_long zero width slots = refl
rows_long (suc count) width slots = ap (λ n. suc n) (rows_long count width (drop width slots))

pub rows_wide : (count width : ℕ) (slots : List ℕ) → length slots ≡ count * width → AllByRecursion (HasLength width) (rows_in count width slots)
rows_wide zero width slots long = tt
rows_wide (suc count) width slots long =
    let more : width ≤ length slots = grind (arith, long) in
    let rest : length (drop width slots) ≡ count * width = grind (arith, long, length-drop width slots) in
    (length-take-le width slots more, rows_wide count width (drop width slots) rest)

nil_of : (xs : List ℕ) → length xs ≡ 0 → xs ≡ []
nil_of [] is = refl
nil_of (x ∷ xs) is = let no : suc (length xs) ≡ 0 = is in absurd (omega (arith, no))

-- one row more at the end
row_pushed : (count width : ℕ) (slots row : List ℕ) → length slots ≡ count * width → length row ≡ width
    → rows_in (suc count) width (slots ++ row) ≡ rows_in count width slots ++ row ∷ []
row_pushed zero width slots row none wide =
    let empty : slots ≡ [] = nil_of slots (omega (arith, none)) in
    let fits : length row ≤ width = omega (arith, wide) in
    subst (λ (xs : List ℕ). rows_in 1 width (xs ++ row) ≡ row ∷ []) (sym empty) (ap (λ (r : List ℕ). r ∷ []) (take_all width row fits))
row_pushed (suc count) width slots row long wide =
    let more : width ≤ length slots = grind (arith, long) in
    let rest : length (drop width slots) ≡ count * width = grind (arith, long, length-drop width slots) in
    ap (λ (r : List ℕ). r ∷ rows_in (suc count) width (drop width (slots ++ row))) (take-append-le width slots row more)
    ∙ ap (λ (xs : List ℕ). take width slots ∷ rows_in (suc count) width xs) (drop-append-le width slots row more)
    ∙ ap (λ (rs : List (List ℕ)). take width slots ∷ rs) (row_pushed count width (drop width slots) row rest wide)

pub row_added : (count width : ℕ) (slots row : List ℕ) → length slots ≡ count * width → length row ≡ width
    → rows_in (count + 1) width (slots ++ row) ≡ rows_in count width slots ++ row ∷ []
row_added count width slots row long wide =
    let e : suc count ≡ count + 1 = omega arith in
    subst (λ (n : ℕ). rows_in n width (slots ++ row) ≡ rows_in count width slots ++ row ∷ []) e (row_pushed count width slots row long wide)

pub pushed_long : (count width : ℕ) (slots row : List ℕ) → length slots ≡ count * width → length row ≡ width → length (slots ++ row) ≡ (count + 1) * width
pushed_long count width slots row long wide = grind (arith, long, wide, length-append slots row)

-- the first row fits, and what is left is one row less
pub first_fits : (count width : ℕ) (slots : List ℕ) → 0 < count → length slots ≡ count * width → width ≤ length slots
first_fits zero width slots more long = absurd (omega (arith, more))
first_fits (suc count) width slots more long = grind (arith, long)

pub rest_long : (count width : ℕ) (slots : List ℕ) → 0 < count → length slots ≡ count * width → length (drop width slots) ≡ (count - 1) * width
rest_long zero width slots more long = absurd (omega (arith, more))
rest_long (suc count) width slots more long =
    let e : suc count - 1 ≡ count = omega arith in
    let rest : length (drop width slots) ≡ count * width = grind (arith, long, length-drop width slots) in
    rest ∙ ap (λ (n : ℕ). n * width) (sym e)

-- the first row, where there is one
pub row_taken : (count width : ℕ) (slots : List ℕ) → 0 < count
    → rows_in count width slots ≡ take width slots ∷ rows_in (count - 1) width (drop width slots)
row_taken zero width slots more = absurd (omega (arith, more))
row_taken (suc count) width slots more = let e : suc count - 1 ≡ count = omega arith in
    ap (λ n. take width slots ∷ rows_in n width (drop width slots)) (sym e)

pub ruleset count_rules = (rows_long)

pub ruleset level_rules = (row_taken, rows_long, first_fits, rest_long)

-- the rows that are left, with the first one before the others
pub rows_joined : (count width : ℕ) (slots front back : List ℕ) → 0 < count → front ≡ take width slots → back ≡ drop width slots
    → front ∷ rows_in (count - 1) width back ≡ rows_in count width slots
rows_joined count width slots front back more first others =
    ap (λ (r : List ℕ). r ∷ rows_in (count - 1) width back) first
    ∙ ap (λ (xs : List ℕ). take width slots ∷ rows_in (count - 1) width xs) others ∙ sym (row_taken count width slots more)
