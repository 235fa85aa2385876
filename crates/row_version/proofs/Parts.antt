-- The values that the parts of a chain hold.
use Rattle.std.proofs.Common.{◌≡◌, ℕ, zero, suc, ◌+◌, ◌-◌, ◌^◌, ◌<◌, ◌≤◌, List, [], ◌∷◌, ◌++◌, Option, Some, None, length, get_or, refl, ap, sym, ◌∙◌, arith, append-nil, add-one, subst, length-append}
use Rattle.std.specs.Prelude.{if◌then◌else◌, slice_get, is_some, IsSome, vec_len}
use Rattle.std.specs.Option.{option_map}
use Rattle.std.proofs.lemmas.List.{map-append}
use Rattle.std.specs.List.Sorted.{IsNonDecreasingBy}
use Rattle.std.proofs.lemmas.List.Sorted.{IsNonDecreasingBy-short, IsNonDecreasingBy-from_all_adjacent}
use Rattle.ldv_value.specs.declared.value.Value.{Value}
use Rattle.row_version.specs.History.{Change, History, delete_at, current_values, as_of, last_time, version as version_of, IsSorted, IsSortedFrom}
use Rattle.row_version.specs.inner.Versions.{change_of, changes_of, end_of, ended_by, history_of, IsChain}
use Rattle.row_version.specs.declared.chain.Chain.TheInside.{Inside}
use Rattle.row_version.specs.declared.versions.Version.{Version}
use Rattle.row_version.proofs.Later.{current_after, as_of_after, sorted_after}

-- the last place of a list holds its last item
last_from : (first : Version) (rest : List Version) → current_values (changes_of (first ∷ rest)) ≡ option_map (λ (v : Version). v.values) (slice_get (first ∷ rest) (length rest))
last_from first [] = refl
last_from first (next ∷ rest) = last_from next rest

pub latest_is : (versions : List Version) → option_map (λ (v : Version). v.values) (slice_get versions (length versions - 1)) ≡ current_values (changes_of versions)
latest_is [] = refl
latest_is (first ∷ rest) = let last : length (first ∷ rest) - 1 ≡ length rest = omega arith in ap (λ (k : ℕ). option_map (λ (v : Version). v.values) (slice_get (first ∷ rest) k)) last ∙ sym (last_from first rest)

pub current_ended : (changes : List Change) (ended : Option ℕ) → current_values (changes ++ end_of ended) ≡ (if is_some ended then None else current_values changes)
current_ended changes None = ap current_values (append-nil changes)
current_ended changes (Some end) = current_after changes (delete_at end)

pub as_of_ended : (changes : List Change) (ended : Option ℕ) (time : ℕ) → as_of (changes ++ end_of ended) time ≡ (if ended_by ended time then None else as_of changes time)
as_of_ended changes None time = ap (λ (l : List Change). as_of l time) (append-nil changes)
as_of_ended changes (Some end) time = as_of_after changes (delete_at end) time

later_by : (first : Version) (rest : List Version) → IsSortedFrom first.time (changes_of rest) → (k : ℕ) (d : Version) → k < length rest → (get_or (first ∷ rest) k d).time ≤ (get_or rest k d).time
later_by first [] sorted k d within = absurd (omega arith)
later_by first (next ∷ rest) sorted zero d within = omega (arith, sorted.0)
later_by first (next ∷ rest) sorted (suc k) d within = later_by next rest sorted.1 k d (omega arith)

-- the times of the versions are sorted
pub times_sorted : (versions : List Version) → IsSorted (changes_of versions) → IsNonDecreasingBy (λ (v : Version). v.time) versions
times_sorted [] sorted = IsNonDecreasingBy-short (λ (v : Version). v.time) [] (omega arith)
times_sorted (first ∷ rest) sorted =
    IsNonDecreasingBy-from_all_adjacent (λ (v : Version). v.time) (first ∷ rest) (λ k d within. rw add-one (later_by first rest sorted k d (omega arith)))

front_from : (first : Change) (rest back : List Change) → IsSortedFrom first.time (rest ++ back) → IsSortedFrom first.time rest
front_from first [] back sorted = tt
front_from first (next ∷ rest) back sorted = (sorted.0, front_from next rest back sorted.1)

pub sorted_front : (front back : List Change) → IsSorted (front ++ back) → IsSorted front
sorted_front [] back sorted = tt
sorted_front (first ∷ rest) back sorted = front_from first rest back sorted

no_end : (changes : List Change) (ended : Option ℕ) → IsSome (current_values (changes ++ end_of ended)) → ended ≡ None
no_end changes None live = refl
no_end changes (Some end) live = let none : IsSome {T = List Value} None = subst (λ (o : Option (List Value)). IsSome o) (current_after changes (delete_at end)) live in cc

-- one more version makes one more change
grown : (old new : Inside) (version : Version) → IsChain old → IsSome (current_values (history_of old).changes)
    → version_of (history_of old).changes < 2 ^ 32 - 1 → last_time (history_of old).changes < version.time
    → new.held.items ≡ old.held.items ++ version ∷ [] → vec_len new.held ≡ vec_len old.held + 1 → new.ended ≡ old.ended
    → ((history_of new).changes ≡ (history_of old).changes ++ change_of version ∷ []) × IsChain new
grown old new version chain live few later items long same =
    let none : old.ended ≡ None = no_end (changes_of old.held.items) old.ended live in
    let is : (history_of new).changes ≡ (history_of old).changes ++ change_of version ∷ [] = rw (same, none, items) (append-nil (changes_of (old.held.items ++ version ∷ [])) ∙ map-append change_of old.held.items (version ∷ []) ∙ ap (λ (l : List Change). l ++ change_of version ∷ []) (sym (append-nil (changes_of old.held.items)))) in (
      is,
      record {
        begun = omega arith;
        counted = rw is (omega (arith, length-append (history_of old).changes (change_of version ∷ []), chain.counted));
        sorted = rw is (sorted_after (history_of old).changes (change_of version) chain.sorted later);
      },
    )

-- an end makes one more change
shut : (old : Inside) (time : ℕ) → IsChain old → IsSome (current_values (history_of old).changes)
    → version_of (history_of old).changes < 2 ^ 32 - 1 → last_time (history_of old).changes < time
    → ((history_of (record old { ended = Some time })).changes ≡ (history_of old).changes ++ delete_at time ∷ []) × IsChain (record old { ended = Some time })
shut old time chain live few later =
    let none : old.ended ≡ None = no_end (changes_of old.held.items) old.ended live in
    let is : (history_of (record old { ended = Some time })).changes ≡ (history_of old).changes ++ delete_at time ∷ [] = rw none (ap (λ (l : List Change). l ++ delete_at time ∷ []) (sym (append-nil (changes_of old.held.items)))) in (
      is,
      record {
        begun = chain.begun;
        counted = rw is (omega (arith, length-append (history_of old).changes (delete_at time ∷ []), chain.counted));
        sorted = rw is (sorted_after (history_of old).changes (delete_at time) chain.sorted later);
      },
    )

-- one more version of a chain that has no end
pub added : (old new : Inside) (seen : History) (version : Version) → history_of old ≡ seen → IsChain old → IsSome (current_values seen.changes)
    → version_of seen.changes < 2 ^ 32 - 1 → last_time seen.changes < version.time
    → new.held.items ≡ old.held.items ++ version ∷ [] → vec_len new.held ≡ vec_len old.held + 1 → new.ended ≡ old.ended
    → ((history_of new).changes ≡ seen.changes ++ change_of version ∷ []) × IsChain new
added old new seen version is chain =
    subst (λ (h : History). IsSome (current_values h.changes) → version_of h.changes < 2 ^ 32 - 1 → last_time h.changes < version.time
    → new.held.items ≡ old.held.items ++ version ∷ [] → vec_len new.held ≡ vec_len old.held + 1 → new.ended ≡ old.ended
    → ((history_of new).changes ≡ h.changes ++ change_of version ∷ []) × IsChain new) is (grown old new version chain)

-- an end of a chain that has none
pub closed : (old : Inside) (seen : History) (time : ℕ) → history_of old ≡ seen → IsChain old → IsSome (current_values seen.changes)
    → version_of seen.changes < 2 ^ 32 - 1 → last_time seen.changes < time
    → ((history_of (record old { ended = Some time })).changes ≡ seen.changes ++ delete_at time ∷ []) × IsChain (record old { ended = Some time })
closed old seen time is chain =
    subst (λ (h : History). IsSome (current_values h.changes) → version_of h.changes < 2 ^ 32 - 1 → last_time h.changes < time
    → ((history_of (record old { ended = Some time })).changes ≡ h.changes ++ delete_at time ∷ []) × IsChain (record old { ended = Some time })) is (shut old time chain)
