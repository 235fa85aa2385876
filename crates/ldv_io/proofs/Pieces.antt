-- Parts of lists, as reads and writes of pieces produce them.
use Rattle.std.proofs.Common.{◌≡◌, ℕ, ◌+◌, ◌-◌, ◌≤◌, List, [], ◌++◌, length, take, drop, ap, sym, subst, ◌∙◌, arith, take_all, length-drop, take-append-drop, drop-drop}
use Rattle.std.proofs.lemmas.List.{drop_all, take-take, length-take-le, take_at}
use Rattle.std.proofs.Math.Seq.{take-add}

-- the first `at` items of xs, and then the first n after them
pub more_taken : (xs : List ℕ) (at n : ℕ) → take at xs ++ take n (take (length xs - at) (drop at xs)) ≡ take (at + n) xs
more_taken xs at n = ap (λ (l : List ℕ). take at xs ++ take n l) (take_all (length xs - at) (drop at xs) (omega (arith, length-drop at xs))) ∙ sym (take-add at n xs)

front_at : (ys tail part : List ℕ) (at n : ℕ) → part ≡ take n (take (length ys - at) (drop at ys)) → n ≤ length ys - at → drop at ys ≡ take n (part ++ tail) ++ drop (at + n) ys
front_at ys tail part at n is fits =
    let same : part ≡ take n (drop at ys) = is ∙ take-take n (length ys - at) (drop at ys) fits in
    let len : length part ≡ n = ap length same ∙ length-take-le n (drop at ys) (omega (arith, length-drop at ys)) in
    sym (ap (λ (l : List ℕ). l ++ drop (at + n) ys) (take_at part tail n len ∙ same) ∙ ap (λ (l : List ℕ). take n (drop at ys) ++ l) (sym (drop-drop n at ys)) ∙ take-append-drop n (drop at ys))

-- a buffer begins with the n bytes from a place on, and the rest follows
pub front_copied : (xs ys tail part : List ℕ) (at n : ℕ) → ys ≡ xs → part ≡ take n (take (length ys - at) (drop at ys)) → n ≤ length ys - at
    → drop at xs ≡ take n (part ++ tail) ++ drop (at + n) xs
front_copied xs ys tail part at n whole is fits = subst (λ (l : List ℕ). drop at l ≡ take n (part ++ tail) ++ drop (at + n) l) whole (front_at ys tail part at n is fits)

-- nothing is left from a place on that is the list's length
pub drop_past : (xs : List ℕ) (at : ℕ) → length xs ≤ at → drop at xs ≡ []
drop_past xs at past = drop_all at xs past
