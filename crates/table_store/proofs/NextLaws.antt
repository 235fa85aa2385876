-- The number of the next row after a time.
use Rattle.std.proofs.Common.{◌≡◌, ℕ, zero, suc, ◌-◌, ◌<◌, ◌≤◌, List, [], ◌∷◌, ◌++◌, length, get_or, refl, ap, ◌∙◌, arith, Option, Some, None, add-one}
use Rattle.std.specs.Prelude.{slice_get}
use Rattle.std.specs.List.{last_or}
use Rattle.std.specs.List.Sorted.{IsNonDecreasingBy}
use Rattle.std.specs.Option.{option_map_or}
use Rattle.std.proofs.lemmas.List.Sorted.{IsNonDecreasingBy-short, IsNonDecreasingBy-from_all_adjacent}
use Rattle.table_store.specs.Histories.{NextSince as Since, last_next_number, last_since, nexts_with}
use Rattle.table_store.specs.inner.Nexts.{nexts_of, AreInTimeFrom, AreInTime}
use Rattle.table_store.specs.declared.nexts.NextSince.{NextSince}

-- ---- the last number

last_from : (first : NextSince) (rest : List NextSince) → option_map_or (λ (s : NextSince). s.next) (slice_get (first ∷ rest) (length rest)) 0 ≡ last_next_number (nexts_of (first ∷ rest))
last_from first [] = refl
last_from first (next ∷ rest) = last_from next rest

pub last_is : (held : List NextSince) → option_map_or (λ (s : NextSince). s.next) (slice_get held (length held - 1)) 0 ≡ last_next_number (nexts_of held)
last_is [] = refl
last_is (first ∷ rest) =
    let last : length (first ∷ rest) - 1 ≡ length rest = omega arith in
    ap (λ (k : ℕ). option_map_or (λ (s : NextSince). s.next) (slice_get (first ∷ rest) k) 0) last ∙ last_from first rest

time_from : (first : NextSince) (rest : List NextSince) → option_map_or (λ (s : NextSince). s.time) (slice_get (first ∷ rest) (length rest)) 0 ≡ last_since (nexts_of (first ∷ rest))
time_from first [] = refl
time_from first (next ∷ rest) = time_from next rest

pub last_time_is : (held : List NextSince) → option_map_or (λ (s : NextSince). s.time) (slice_get held (length held - 1)) 0 ≡ last_since (nexts_of held)
last_time_is [] = refl
last_time_is (first ∷ rest) =
    let last : length (first ∷ rest) - 1 ≡ length rest = omega arith in
    ap (λ (k : ℕ). option_map_or (λ (s : NextSince). s.time) (slice_get (first ∷ rest) k) 0) last ∙ time_from first rest

-- ---- in the order of time

later_by : (first : NextSince) (rest : List NextSince) → AreInTimeFrom first.time (nexts_of rest) → (k : ℕ) (d : NextSince) → k < length rest → (get_or (first ∷ rest) k d).time ≤ (get_or rest k d).time
later_by first [] ordered k d within = absurd (omega (arith, within))
later_by first (next ∷ rest) ordered zero d within = omega (arith, ordered.0)
later_by first (next ∷ rest) ordered (suc k) d within = later_by next rest ordered.1 k d (omega (arith, within))

pub times_sorted : (held : List NextSince) → AreInTime (nexts_of held) → IsNonDecreasingBy (λ (n : NextSince). n.time) held
times_sorted [] ordered = IsNonDecreasingBy-short (λ (n : NextSince). n.time) [] (omega arith)
times_sorted (first ∷ rest) ordered =
    IsNonDecreasingBy-from_all_adjacent (λ (n : NextSince). n.time) (first ∷ rest) (λ k d within. rw add-one (later_by first rest ordered.1 k d (omega arith)))

noted_from : (last : Option Since) (low time next : ℕ) (nexts : List Since) → low ≤ option_map_or (λ (s : Since). s.time) last 0 → option_map_or (λ (s : Since). s.time) (last_or last nexts) 0 < time → AreInTimeFrom low nexts
    → AreInTimeFrom low (nexts ++ record { time = time; next = next } ∷ [])
noted_from last low time next [] from later ordered = (omega (arith, from, later), tt)
noted_from last low time next (since ∷ rest) from later ordered = (ordered.0, noted_from (Some since) since.time time next rest (omega arith) later ordered.1)

-- and so it stays with a later change
pub noted_in_time : (time next : ℕ) (nexts : List Since) → last_since nexts < time → AreInTime nexts → AreInTime (nexts_with time next nexts)
noted_in_time time next nexts later ordered = noted_from None 0 time next nexts (omega arith) later ordered
