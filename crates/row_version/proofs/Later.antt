-- The effect of a later change on the values as of a time, on the current ones and on the version.
use Rattle.std.proofs.Common.{◌≡◌, ℕ, ◌+◌, ◌<◌, ◌≤◌, List, [], ◌∷◌, ◌++◌, Option, Some, None, Bool, true, cond, length, refl, ap, ◌∙◌, inl, inr, arith, length-append, le-leb, append-nil}
use Rattle.std.specs.Prelude.{filter, if◌then◌else◌, nat_le}
use Rattle.std.specs.List.{last_or}
use Rattle.std.specs.Option.{option_and_then, option_map_or}
use Rattle.std.proofs.lemmas.Bool.{cases_Bool, lt-leb}
use Rattle.std.proofs.lemmas.List.Elements.{filter-append}
use Rattle.row_version.specs.History.{Change, current_values, as_of, last_time, version, IsSorted, IsSortedFrom}

last-append : (o : Option Change) (changes : List Change) (change : Change) → last_or o (changes ++ change ∷ []) ≡ Some change
last-append o [] change = refl
last-append o (first ∷ rest) change = last-append (Some first) rest change

-- the current values are those of the last change
pub current_after : (changes : List Change) (change : Change) → current_values (changes ++ change ∷ []) ≡ change.values
current_after changes change = ap (option_and_then (λ (c : Change). c.values)) (last-append None changes change)

pub last_time_after : (changes : List Change) (change : Change) → last_time (changes ++ change ∷ []) ≡ change.time
last_time_after changes change = ap (λ (o : Option Change). option_map_or (λ (c : Change). c.time) o 0) (last-append None changes change)

pub version_after : (changes : List Change) (change : Change) → 0 < length changes → version (changes ++ change ∷ []) ≡ version changes + 1
version_after changes change begun = omega (arith, length-append changes (change ∷ []))

last_kept : (test : Change → Bool) (changes : List Change) (change : Change) → current_values (filter test changes ++ cond (test change) (change ∷ []) []) ≡ cond (test change) change.values (current_values (filter test changes))
last_kept test changes change = elim (cases_Bool (test change)) [
  | inl hit ↦ rw hit (current_after (filter test changes) change)
  | inr miss ↦ rw miss (ap current_values (append-nil (filter test changes)))
]

-- from a change on the values are its own, and before it those without it
pub as_of_after : (changes : List Change) (change : Change) (time : ℕ) → as_of (changes ++ change ∷ []) time ≡ (if nat_le change.time time then change.values else as_of changes time)
as_of_after changes change time =
    ap current_values (filter-append (λ (c : Change). nat_le c.time time) changes (change ∷ [])) ∙ last_kept (λ (c : Change). nat_le c.time time) changes change

pub as_of_later : (changes : List Change) (change : Change) (time : ℕ) → change.time ≤ time → as_of (changes ++ change ∷ []) time ≡ change.values
as_of_later changes change time late = as_of_after changes change time ∙ ap (λ (b : Bool). cond b change.values (as_of changes time)) (le-leb change.time time late)

pub as_of_earlier : (changes : List Change) (change : Change) (time : ℕ) → time < change.time → as_of (changes ++ change ∷ []) time ≡ as_of changes time
as_of_earlier changes change time early = as_of_after changes change time ∙ ap (λ (b : Bool). cond b change.values (as_of changes time)) (lt-leb change.time time early)

sorted_from_after : (first : Change) (rest : List Change) (change : Change) → IsSortedFrom first.time rest → last_time (first ∷ rest) < change.time → IsSortedFrom first.time (rest ++ change ∷ [])
sorted_from_after first [] change sorted later = (later, tt)
sorted_from_after first (next ∷ rest) change sorted later = (sorted.0, sorted_from_after next rest change sorted.1 later)

-- a chain stays sorted with a change that is later than its last
pub sorted_after : (changes : List Change) (change : Change) → IsSorted changes → last_time changes < change.time → IsSorted (changes ++ change ∷ [])
sorted_after [] change sorted later = tt
sorted_after (first ∷ rest) change sorted later = sorted_from_after first rest change sorted later

first_by_last : (first : Change) (rest : List Change) → IsSortedFrom first.time rest → first.time ≤ last_time (first ∷ rest)
first_by_last first [] sorted = omega arith
first_by_last first (next ∷ rest) sorted = omega (arith, sorted.0, first_by_last next rest sorted.1)

all_by : (first : Change) (rest : List Change) (time : ℕ) → IsSortedFrom first.time rest → last_time (first ∷ rest) ≤ time → filter (λ (c : Change). nat_le c.time time) (first ∷ rest) ≡ first ∷ rest
all_by first [] time sorted past = let hit : nat_le first.time time ≡ true = le-leb first.time time past in rw hit refl
all_by first (next ∷ rest) time sorted past =
    let hit : nat_le first.time time ≡ true = le-leb first.time time (omega (arith, sorted.0, first_by_last next rest sorted.1)) in
    rw hit (ap (λ (l : List Change). first ∷ l) (all_by next rest time sorted.1 past))

-- from the last change on the values are the current ones
pub as_of_now : (changes : List Change) (time : ℕ) → IsSorted changes → last_time changes ≤ time → as_of changes time ≡ current_values changes
as_of_now [] time sorted past = refl
as_of_now (first ∷ rest) time sorted past = ap current_values (all_by first rest time sorted past)
