-- The sorted list of the numbers whose flags are set: its items, its length, and what is found in it.
use Rattle.std.proofs.Common.{◌≡◌, ℕ, zero, suc, ◌+◌, ◌-◌, ◌<◌, ◌≤◌, List, [], ◌∷◌, length, get_or, refl, sym, ap, ◌∙◌, arith, Bool, true, false, cond}
use Rattle.std.specs.Prelude.{Option, Some, None, find, nat_lt, slice_get}
use Rattle.std.proofs.lemmas.Bool.{lt-ltb, le-ltb}
use Rattle.std.proofs.lemmas.List.{get_or_past}
use Rattle.std.proofs.lemmas.Option.{slice_get_past, get_or_from_slice_get}
use Rattle.ready_set.specs.Ready.{numbers_from, numbers, count_below, or_least, next_round}

-- the first flag counts first
count_first : (flag : Bool) (flags : List Bool) (n : ℕ) → count_below (flag ∷ flags) (suc n) ≡ cond flag 1 0 + count_below flags n
count_first flag flags zero = omega arith
count_first flag flags (suc n) = omega (arith, count_first flag flags n)

count_true : (flags : List Bool) (n : ℕ) → count_below (true ∷ flags) (suc n) ≡ suc (count_below flags n)
count_true flags n = count_first true flags n ∙ omega arith

count_false : (flags : List Bool) (n : ℕ) → count_below (false ∷ flags) (suc n) ≡ count_below flags n
count_false flags n = count_first false flags n ∙ omega arith

-- a number that is in has as its index how many are below it
pub number_there : (a : ℕ) (flags : List Bool) (n : ℕ) → get_or flags n false ≡ true
    → slice_get (numbers_from a flags) (count_below flags n) ≡ Some (a + n)
number_there a [] n is = let no : false ≡ true = sym (get_or_past [] n false (omega arith)) ∙ is in absurd cc
number_there a (true ∷ flags) zero is = let same : a ≡ a + 0 = omega arith in ap {B = Option ℕ} Some same
number_there a (false ∷ flags) zero is = absurd cc
number_there a (true ∷ flags) (suc n) is =
    let moved : a + 1 + n ≡ a + suc n = omega arith in
    ap (slice_get (a ∷ numbers_from (a + 1) flags)) (count_true flags n) ∙ number_there (a + 1) flags n is ∙ ap {B = Option ℕ} Some moved
number_there a (false ∷ flags) (suc n) is =
    let moved : a + 1 + n ≡ a + suc n = omega arith in
    ap (slice_get (numbers_from (a + 1) flags)) (count_false flags n) ∙ number_there (a + 1) flags n is ∙ ap {B = Option ℕ} Some moved

pub length-numbers_from : (a : ℕ) (flags : List Bool) → length (numbers_from a flags) ≡ count_below flags (length flags)
length-numbers_from a [] = refl
length-numbers_from a (true ∷ flags) = omega (arith, length-numbers_from (a + 1) flags, count_true flags (length flags))
length-numbers_from a (false ∷ flags) = omega (arith, length-numbers_from (a + 1) flags, count_false flags (length flags))

-- past the last flag none is counted
pub count_past : (flags : List Bool) (d : ℕ) → count_below flags (length flags + d) ≡ count_below flags (length flags)
count_past flags zero = let none : length flags + 0 ≡ length flags = omega arith in ap (count_below flags) none
count_past flags (suc d) =
    let next : length flags + suc d ≡ suc (length flags + d) = omega arith in
    let out : get_or flags (length flags + d) false ≡ false = get_or_past flags (length flags + d) false (omega arith) in
    ap (count_below flags) next ∙ ap (λ (b : Bool). count_below flags (length flags + d) + cond b 1 0) out
    ∙ omega (arith, count_past flags d)

pub count_past_at : (flags : List Bool) (n : ℕ) → length flags ≤ n → count_below flags n ≡ count_below flags (length flags)
count_past_at flags n past =
    let split : n ≡ length flags + (n - length flags) = omega arith in
    ap (count_below flags) split ∙ count_past flags (n - length flags)

find_first : (last a : ℕ) (flags : List Bool) → last < a → find (nat_lt last) (numbers_from a flags) ≡ slice_get (numbers_from a flags) 0
find_first last a [] above = refl
find_first last a (true ∷ flags) above = let hit : nat_lt last a ≡ true = lt-ltb last a above in rw hit refl
find_first last a (false ∷ flags) above = find_first last (a + 1) flags (omega arith)

find_from : (last a n : ℕ) (flags : List Bool) → a + n ≡ suc last
    → find (nat_lt last) (numbers_from a flags) ≡ slice_get (numbers_from a flags) (count_below flags n)
find_from last a zero flags is = find_first last a flags (omega arith)
find_from last a (suc n) [] is = sym (slice_get_past [] (count_below [] (suc n)) (omega arith))
find_from last a (suc n) (true ∷ flags) is =
    let miss : nat_lt last a ≡ false = le-ltb last a (omega arith) in
    let rest : find (nat_lt last) (numbers_from (a + 1) flags) ≡ slice_get (a ∷ numbers_from (a + 1) flags) (count_below (true ∷ flags) (suc n)) =
    find_from last (a + 1) n flags (omega arith) ∙ sym (ap (slice_get (a ∷ numbers_from (a + 1) flags)) (count_true flags n)) in
    rw miss rest
find_from last a (suc n) (false ∷ flags) is =
    find_from last (a + 1) n flags (omega arith) ∙ sym (ap (slice_get (numbers_from (a + 1) flags)) (count_false flags n))

-- the least number above another
pub find_next : (last : ℕ) (flags : List Bool)
    → find (nat_lt last) (numbers flags) ≡ slice_get (numbers flags) (count_below flags (last + 1))
find_next last flags =
    let one : suc last ≡ last + 1 = omega arith in
    find_from last 0 (suc last) flags (omega arith) ∙ ap (λ (n : ℕ). slice_get (numbers flags) (count_below flags n)) one

pub find_none : (last : ℕ) (flags : List Bool) → length flags ≤ last + 1 → find (nat_lt last) (numbers flags) ≡ None
find_none last flags past =
    find_next last flags ∙ slice_get_past (numbers flags) (count_below flags (last + 1))
    (omega (arith, length-numbers_from 0 flags, count_past_at flags (last + 1) past))

-- ---- the next one round

pub next_is : (last n : ℕ) (ns : List ℕ) → find (nat_lt last) ns ≡ Some n → n ≡ next_round last ns
next_is last n ns found = sym (ap (λ (o : Option ℕ). or_least o ns) found)

pub least_is : (last n : ℕ) (ns : List ℕ) → find (nat_lt last) ns ≡ None → slice_get ns 0 ≡ Some n → n ≡ next_round last ns
least_is last n ns none first = sym (get_or_from_slice_get ns 0 n 0 first) ∙ sym (ap (λ (o : Option ℕ). or_least o ns) none)
