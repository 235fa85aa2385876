-- Items are judged one after another, and a count of differences never falls.
use Rattle.std.proofs.Common.{◌≡◌, ℕ, ◌+◌, ◌-◌, ◌<◌, ◌≤◌, ◌^◌, List, [], ◌∷◌, ◌∙◌, arith, sym, subst, refl, ap, min, Bool, true, false, length, filter, cond, Ok, Result}
use Rattle.std.specs.Prelude.{Option}
use Rattle.std.specs.List.{AllByRecursion}
use Rattle.conformance.specs.Files.{IsOkWith}
use Rattle.conformance.specs.declared.case.Case.{Case}
use Rattle.conformance.specs.Wanted.{is_wanted, wanted_count}

-- a further item, with which the rest began
pub one_more : {X : Type 0} (P : X → Type 0) (all left rest : List X) (x : X) (old new : ℕ) → left ≡ x ∷ rest → old ≤ new
    → (new ≡ 0 → P x)
    → (old ≡ 0 → AllByRecursion P left → AllByRecursion P all)
    → new ≡ 0
    → AllByRecursion P rest
    → AllByRecursion P all
one_more P all left rest x old new begins later this before none others =
    before (omega (arith, later, none)) (subst (AllByRecursion P) (sym begins) (this none, others))

-- all of them, if nothing is left
pub none_left : {X : Type 0} (P : X → Type 0) (all left : List X) (count : ℕ) → left ≡ []
    → (count ≡ 0 → AllByRecursion P left → AllByRecursion P all)
    → count ≡ 0
    → AllByRecursion P all
none_left P all left count ends before none = before none (subst (AllByRecursion P) (sym ends) tt)

by_first : (b : Bool) (case : Case) (kept : List Case) → length (cond b (case ∷ kept) kept) ≡ length (cond b (case ∷ []) []) + length kept
by_first true case kept = omega (arith)
by_first false case kept = omega (arith)

pub counted_first : (only : Option (List ℕ)) (case : Case) (cases : List Case)
    → wanted_count only (case ∷ cases) ≡ wanted_count only (case ∷ []) + wanted_count only cases
counted_first only case cases = by_first (is_wanted only case) case (filter (is_wanted only) cases)

pub counts_more : (initial before named after one left rest all : ℕ) → left ≡ one + rest → named ≡ before
    → (named + one < 2 ^ 64 → after ≡ named + one)
    → (initial + all < 2 ^ 64 → before + left ≡ initial + all)
    → initial + all < 2 ^ 64
    → after + rest ≡ initial + all
counts_more initial before named after one left rest all begins same counts so_far fits =
    let was = so_far fits in
    let now = counts (omega (arith, fits, was, begins, same)) in
    omega (arith, was, begins, now, same)

-- a difference that was counted
pub no_difference : {A : Type 0} (old new : ℕ) → new ≡ min (old + 1) (2 ^ 64 - 1) → new ≡ 0 → A
no_difference old new counts none = absurd (omega (arith, counts, none))

pub found_with : {X E : Type 0} (found : Result X E) (x : X) (P : X → Type 0) (count : ℕ) → found ≡ Ok x → (count ≡ 0 → P x)
    → count ≡ 0
    → IsOkWith found P
found_with {X = X} {E = E} found x P count is this none = subst (λ (r : Result X E). IsOkWith r P) (sym is) (this none)
