-- The processes in memory give the names of the definitions.
use Rattle.std.proofs.Common.{◌≡◌, ◌∙◌, sym, ap, subst, refl, inl, inr, arith, ℕ, zero, suc, ◌+◌, ◌<◌, ◌≤◌}
use Rattle.std.proofs.Common.{◌⊎◌, List, [], ◌∷◌, ◌++◌, length, get_or, set, reverse, append_assoc, Option, Some, None}
use Rattle.std.specs.Prelude.{slice_get}
use Rattle.std.proofs.lemmas.List.{length-set, length_push, get_or_push, get_or_append_left, reverse-append}
use Rattle.std.proofs.lemmas.Option.{none-some, same_Some, slice_get_cases, slice_get_read, slice_get_within, slice_get-get_or, slice_get_past}
use Rattle.run_model.specs.OutcomeText.{name_text}
use Rattle.inspect.specs.declared.process_names.Made.{Made}
use Rattle.inspect.specs.inner.Named.{NamedProcess}
use Rattle.inspect.specs.inner.ChildRoom.{HaveRoom}
use Rattle.inspect.specs.ProcessNames.{first_process, parent_of, child_of, with_child, text_of, name_in}
use Rattle.inspect.specs.inner.ProcessPlaces.{name_after, names_after, names_of, name_at, named_by, named_by_all, named_of}
use Rattle.inspect.specs.inner.ProcessPlaces.{ComeAfter, MayAllGrow, made_of_first, next_child, made_with_child, made_with}
use Rattle.inspect.proofs.ChildLaws.{room_at}

-- ---- names

names_length : (names : List (List ℕ)) (ms : List Made) → length (names_after names ms) ≡ length names + length ms
names_length names [] = omega arith
names_length names (m ∷ ms) =
    let rest : length (names_after (names ++ name_after names m ∷ []) ms) ≡ length (names ++ name_after names m ∷ []) + length ms =
    names_length (names ++ name_after names m ∷ []) ms in
    let one : length (names ++ name_after names m ∷ []) ≡ length names + 1 = length_push names (name_after names m) in
    omega (arith, rest, one)

as_long : (ms : List Made) → length (names_of ms) ≡ length ms
as_long ms = let long : length (names_of ms) ≡ 0 + length ms = names_length [] ms in omega (arith, long)

-- a name stays when more are made
stays : (names : List (List ℕ)) (ms : List Made) (j : ℕ) → j < length names → get_or (names_after names ms) j [] ≡ get_or names j []
stays names [] j below = refl
stays names (m ∷ ms) j below =
    let one : length (names ++ name_after names m ∷ []) ≡ length names + 1 = length_push names (name_after names m) in
    stays (names ++ name_after names m ∷ []) ms j (omega (arith, below, one))
    ∙ get_or_append_left names (name_after names m ∷ []) [] j below

-- the name at a place is that of the parent and a number
name_made : (names : List (List ℕ)) (ms : List Made) (k i : ℕ) (m : Made) → slice_get ms k ≡ Some m → length names + k ≡ i
    → m.parent < i → get_or (names_after names ms) i [] ≡ get_or (names_after names ms) m.parent [] ++ m.number ∷ []
name_made names [] k i m is long less = absurd (none-some m is)
name_made names (x ∷ ms) zero i m is long less =
    let same : x ≡ m = same_Some x m is in
    let here : length names ≡ i = omega (arith, long) in
    let one : length (names ++ name_after names x ∷ []) ≡ length names + 1 = length_push names (name_after names x) in
    let below : i < length (names ++ name_after names x ∷ []) = omega (arith, here, one) in
    let above : m.parent < length names = omega (arith, here, less) in
    stays (names ++ name_after names x ∷ []) ms i below
    ∙ get_or_push names (name_after names x) [] i here
    ∙ ap (name_after names) same
    ∙ ap (λ (l : List ℕ). l ++ m.number ∷ []) (sym (stays names (x ∷ ms) m.parent above))
name_made names (x ∷ ms) (suc k) i m is long less =
    let one : length (names ++ name_after names x ∷ []) ≡ length names + 1 = length_push names (name_after names x) in
    name_made (names ++ name_after names x ∷ []) ms k i m is (omega (arith, long, one)) less

-- the same of a process that was read
name_above : (ms : List Made) (place : ℕ) (m : Made) → ComeAfter ms → 0 < place → place < length ms → m ≡ get_or ms place m
    → name_at ms place ≡ name_at ms m.parent ++ m.number ∷ []
name_above ms place m after positive within is =
    name_made [] ms place place m (slice_get_read ms (length ms) place m refl within is) (omega arith)
    (subst (λ (x : Made). x.parent < place) (sym is) (after place m within positive))

name_first : (ms : List Made) (m : Made) → 0 < length ms → m ≡ get_or ms 0 m → name_at ms 0 ≡ m.number ∷ []
name_first [] m within is = absurd (omega (arith, within))
name_first (x ∷ ms) m within is = stays (name_after [] x ∷ []) ms 0 (omega arith) ∙ ap (λ (y : Made). y.number ∷ []) (sym is)

-- ---- from a process up to the first

pub goes_up : (ms : List Made) (place : ℕ) (m : Made) → ComeAfter ms → 0 < place → place < length ms → m ≡ get_or ms place m
    → m.parent < place
goes_up ms place m after positive within is = subst (λ (x : Made). x.parent < place) (sym is) (after place m within positive)

pub step_up : (ms : List Made) (place : ℕ) (m : Made) (numbers more : List ℕ) → ComeAfter ms → 0 < place → place < length ms
    → m ≡ get_or ms place m → more ≡ numbers ++ m.number ∷ []
    → name_at ms m.parent ++ reverse more ≡ name_at ms place ++ reverse numbers
step_up ms place m numbers more after positive within is put =
    ap (λ (l : List ℕ). name_at ms m.parent ++ reverse l) put
    ∙ ap (λ (l : List ℕ). name_at ms m.parent ++ l) (reverse-append numbers (m.number ∷ []))
    ∙ sym (append_assoc (name_at ms m.parent) (m.number ∷ []) (reverse numbers))
    ∙ ap (λ (l : List ℕ). l ++ reverse numbers) (sym (name_above ms place m after positive within is))

pub whole_name : (ms : List Made) (place : ℕ) (m : Made) (above put turned : List ℕ) → 0 < length ms → m ≡ get_or ms 0 m
    → name_at ms 0 ++ reverse above ≡ name_at ms place → put ≡ above ++ m.number ∷ [] → turned ≡ reverse put
    → turned ≡ name_at ms place
whole_name ms place m above put turned within is up put_is turned_is =
    turned_is ∙ ap reverse put_is ∙ reverse-append above (m.number ∷ [])
    ∙ ap (λ (l : List ℕ). l ++ reverse above) (sym (name_first ms m within is)) ∙ up

-- ---- as the definitions have them

named_at : (names : List (List ℕ)) (ms : List Made) (k : ℕ) (m : Made) → slice_get ms k ≡ Some m → length names ≡ length ms
    → slice_get (named_by_all names ms) k ≡ Some (named_by (get_or names k []) m)
named_at names [] k m is long = absurd (none-some m is)
named_at [] (x ∷ ms) k m is long = absurd (omega (arith, long))
named_at (name ∷ names) (x ∷ ms) zero m is long = ap (λ (y : Made). Some (named_by name y)) (same_Some x m is)
named_at (name ∷ names) (x ∷ ms) (suc k) m is long = named_at names ms k m is (omega (arith, long))

named_none : (names : List (List ℕ)) (ms : List Made) (k : ℕ) → slice_get ms k ≡ None → slice_get (named_by_all names ms) k ≡ None
named_none [] ms k is = refl
named_none (name ∷ names) [] k is = refl
named_none (name ∷ names) (m ∷ ms) zero is = absurd (none-some m (sym is))
named_none (name ∷ names) (m ∷ ms) (suc k) is = named_none names ms k is

pub no_name : (ms : List Made) (place : ℕ) → length ms ≤ place → name_in (named_of ms) place ≡ []
no_name ms place past = ap text_of (named_none (names_of ms) ms place (slice_get_past ms place past))

pub name_there : (ms : List Made) (place : ℕ) → place < length ms → name_in (named_of ms) place ≡ name_text (name_at ms place)
name_there ms place within = by ((slice_get_cases ms place).1)
  where
    by : ((x : Made) × (place < length ms) × (slice_get ms place ≡ Some x) × (get_or ms place x ≡ x)) ⊎ ((length ms ≤ place) × (slice_get ms place ≡ None))
        → name_in (named_of ms) place ≡ name_text (name_at ms place)
    by (inl there) = ap text_of (named_at (names_of ms) ms place there.0 there.2 (as_long ms))
    by (inr past) = absurd (omega (arith, within, past.0))

-- ---- one child more

names_push : (names : List (List ℕ)) (ms : List Made) (m : Made)
    → names_after names (ms ++ m ∷ []) ≡ names_after names ms ++ name_after (names_after names ms) m ∷ []
names_push names [] m = refl
names_push names (x ∷ ms) m = names_push (names ++ name_after names x ∷ []) ms m

names_grown : (names : List (List ℕ)) (ms : List Made) (k : ℕ) (m : Made) → slice_get ms k ≡ Some m
    → names_after names (set ms k (made_with_child m)) ≡ names_after names ms
names_grown names [] k m is = absurd (none-some m is)
names_grown names (x ∷ ms) zero m is = ap (λ (y : Made). names_after (names ++ name_after names y ∷ []) ms) (sym (same_Some x m is))
names_grown names (x ∷ ms) (suc k) m is = names_grown (names ++ name_after names x ∷ []) ms k m is

named_push : (names : List (List ℕ)) (ms : List Made) (name : List ℕ) (m : Made) → length names ≡ length ms
    → named_by_all (names ++ name ∷ []) (ms ++ m ∷ []) ≡ named_by_all names ms ++ named_by name m ∷ []
named_push [] [] name m long = refl
named_push [] (x ∷ ms) name m long = absurd (omega (arith, long))
named_push (n ∷ names) [] name m long = absurd (omega (arith, long))
named_push (n ∷ names) (x ∷ ms) name m long = ap (λ (l : List NamedProcess). named_by n x ∷ l) (named_push names ms name m (omega (arith, long)))

named_grown : (names : List (List ℕ)) (ms : List Made) (k : ℕ) (m : Made) → slice_get ms k ≡ Some m → length names ≡ length ms
    → named_by_all names (set ms k (made_with_child m)) ≡ set (named_by_all names ms) k (parent_of (named_by (get_or names k []) m))
named_grown names [] k m is long = absurd (none-some m is)
named_grown [] (x ∷ ms) k m is long = absurd (omega (arith, long))
named_grown (n ∷ names) (x ∷ ms) zero m is long = refl
named_grown (n ∷ names) (x ∷ ms) (suc k) m is long = ap (λ (l : List NamedProcess). named_by n x ∷ l) (named_grown names ms k m is (omega (arith, long)))

pub named_with : (ms : List Made) (place : ℕ) (found : Option Made) → slice_get ms place ≡ found
    → named_of (made_with place found ms) ≡ with_child place (slice_get (named_of ms) place) (named_of ms)
named_with ms place None is =
    ap (λ (o : Option NamedProcess). with_child place o (named_of ms)) (sym (named_none (names_of ms) ms place is))
named_with ms place (Some m) is =
    let names : List (List ℕ) = names_of ms in
    let after : List Made = set ms place (made_with_child m) in
    let child : Made = next_child place m in
    let parent : NamedProcess = named_by (get_or names place []) m in
    let same : names_of after ≡ names = names_grown [] ms place m is in
    let long : length names ≡ length after = as_long ms ∙ sym (length-set ms place (made_with_child m)) in
    ap (λ (ns : List (List ℕ)). named_by_all ns (after ++ child ∷ []))
    (names_push [] after child ∙ ap (λ (ns : List (List ℕ)). ns ++ name_after ns child ∷ []) same)
    ∙ named_push names after (name_after names child) child long
    ∙ ap (λ (l : List NamedProcess). l ++ child_of parent ∷ []) (named_grown names ms place m is (as_long ms))
    ∙ ap (λ (o : Option NamedProcess). with_child place o (named_of ms)) (sym (named_at names ms place m is (as_long ms)))

pub first_named : (ms : List Made) → ms ≡ made_of_first ∷ [] → named_of ms ≡ first_process ∷ []
first_named ms is = ap named_of is

-- ---- parents come first

pub first_after : (ms : List Made) → ms ≡ made_of_first ∷ [] → ComeAfter ms
first_after ms is place d within positive =
    let one : length ms ≡ 1 = ap (λ (l : List Made). length l) is in absurd (omega (arith, one, within, positive))

parent_stays : (ms : List Made) (k j : ℕ) (m d : Made) → slice_get ms k ≡ Some m
    → (get_or (set ms k (made_with_child m)) j d).parent ≡ (get_or ms j d).parent
parent_stays [] k j m d is = absurd (none-some m is)
parent_stays (x ∷ ms) zero zero m d is = ap (λ (y : Made). y.parent) (sym (same_Some x m is))
parent_stays (x ∷ ms) zero (suc j) m d is = refl
parent_stays (x ∷ ms) (suc k) zero m d is = refl
parent_stays (x ∷ ms) (suc k) (suc j) m d is = parent_stays ms k j m d is

child_after : (ms : List Made) (k : ℕ) (m : Made) → slice_get ms k ≡ Some m → ComeAfter ms
    → ComeAfter (set ms k (made_with_child m) ++ next_child k m ∷ [])
child_after ms k m is after place d within positive = by ((slice_get_cases ms place).1)
  where
    by : ((x : Made) × (place < length ms) × (slice_get ms place ≡ Some x) × (get_or ms place x ≡ x)) ⊎ ((length ms ≤ place) × (slice_get ms place ≡ None))
        → (get_or (set ms k (made_with_child m) ++ next_child k m ∷ []) place d).parent < place
    by (inl there) =
        let long : length (set ms k (made_with_child m)) ≡ length ms = length-set ms k (made_with_child m) in
        let below : place < length (set ms k (made_with_child m)) = omega (arith, there.1, long) in
        let same : (get_or (set ms k (made_with_child m) ++ next_child k m ∷ []) place d).parent ≡ (get_or ms place d).parent =
        ap (λ (y : Made). y.parent) (get_or_append_left (set ms k (made_with_child m)) (next_child k m ∷ []) d place below)
        ∙ parent_stays ms k place m d is in
        subst (λ (p : ℕ). p < place) (sym same) (after place d there.1 positive)
    by (inr past) =
        let long : length (set ms k (made_with_child m)) ≡ length ms = length-set ms k (made_with_child m) in
        let all : length (set ms k (made_with_child m) ++ next_child k m ∷ []) ≡ length (set ms k (made_with_child m)) + 1 =
        length_push (set ms k (made_with_child m)) (next_child k m) in
        let last : length (set ms k (made_with_child m)) ≡ place = omega (arith, past.0, within, long, all) in
        let here : k < length ms = slice_get_within ms k m is in
        let less : k < place = omega (arith, here, last, long) in
        subst (λ (y : Made). y.parent < place) (sym (get_or_push (set ms k (made_with_child m)) (next_child k m) d place last)) less

pub with_after : (ms : List Made) (place : ℕ) (found : Option Made) → slice_get ms place ≡ found → ComeAfter ms
    → ComeAfter (made_with place found ms)
with_after ms place None is after = after
with_after ms place (Some m) is after = child_after ms place m is after

-- ---- room

pub may_grow : (ms : List Made) → HaveRoom 1 (named_of ms) → MayAllGrow ms
may_grow ms room place d within =
    let m : Made = get_or ms place d in
    room_at 1 (named_of ms) place (named_by (name_at ms place) m)
    (named_at (names_of ms) ms place m (slice_get-get_or ms place d within) (as_long ms)) room
