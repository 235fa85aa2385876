-- Runs as a field of a package: their events fit their types and their fields if and only if the runs do.
use Rattle.std.proofs.Common.{◌≡◌, ℕ, zero, suc, ◌+◌, ◌-◌, ◌*◌, ◌^◌, ◌<◌, ◌≤◌, Bool, true, false, cond, not, List, [], ◌∷◌, ◌++◌, length, map, Some, None, refl, sym, ap, subst, ◌∙◌, append_assoc, arith, inl, inr, ◌&&◌, suc-mul}
use Rattle.std.specs.Prelude.{◌==◌, nat_le}
use Rattle.std.specs.List.{flat_map, list_all, AllByRecursion}
use Rattle.std.proofs.lemmas.Bool.{not-true, leb-true, le-leb, eqb-true, ne_eqb}
use Rattle.std.proofs.lemmas.List.{length-append}
use Rattle.ldv_value.proofs.Booleans.{and-parts, and-from}
use Rattle.ldv_value.proofs.ItemLists.{all_append, all_front, all_back}
use Rattle.ldv_value.proofs.Options.{same-some}
use Rattle.run_model.specs.declared.event.Act.TheVariants as acts
use Rattle.run_model.specs.declared.event.Event.{Event}
use Rattle.run_model.specs.ValidTrace.{is_asked}
use Rattle.std.specs.Int.{w32, to_be_bytes}
use Rattle.std.proofs.lemmas.List.Folds.{list_all-append}
use Rattle.package_codec.specs.Counts.{CountedList}
use Rattle.package_codec.specs.Events.{event_spelling, event_room, event_at}
use Rattle.package_codec.specs.Fields.{both_at, number_at, list_at, list_spelling}
use Rattle.package_codec.specs.Typed.{IsU32, TypedEvent}
use Rattle.package_codec.proofs.Events.{event_law, event_filled}
use Rattle.package_codec.proofs.Laws.{IsField, just, always, restate, recount, made_law, then_law, struct_law}
use Rattle.package_codec.proofs.Numbers.{long_law}
use Rattle.package_codec.proofs.Tables.{u32_law}
use Rattle.package_codec.specs.Runs.{EventRun, TypedEventRun, CountedEventRun, event_run_room, event_run_spelling, event_run_at, runs_spelling, runs_at, trace_room, events_of_runs}
use Rattle.package_codec.specs.Runs.{Begun, run_of_one, joins, run_with_event, runs_from, runs_of, steps_from, at_step, run_events, events_in, total, last_step, is_run, stops_before, are_longest, are_runs, max_events}
use Rattle.package_codec.proofs.Runs.{grown_begun, grown_events, unasked, last_from, last-is, last_step-is, joined, IsBegun, single_begun, events_again, formed_run, run_shape, heads_by, runs_again, HasShape, IsSmall, run_is, all_formed, runs_good, events-length}

-- ---- numbers of their types, and room

small_steps : (step stride n limit : ℕ) → last_from step stride n < limit → AllByRecursion (λ s. s < limit) (steps_from step stride (suc n))
small_steps step stride zero limit less = (less, tt)
small_steps step stride (suc n) limit less =
    let reach : last_from (step + stride) stride n ≡ step + stride + n * stride = last-is (step + stride) stride n in
    (omega (arith, reach, less), small_steps (step + stride) stride n limit less)

pub all_mapped : {X Y : Type 0} (P : X → Type 0) (Q : Y → Type 0) (f : X → Y) → ((x : X) → P x → Q (f x)) → (xs : List X) → AllByRecursion P xs → AllByRecursion Q (map f xs)
all_mapped P Q f h [] all = tt
all_mapped P Q f h (x ∷ xs) all = (h x all.0, all_mapped P Q f h xs all.1)

-- the events of a run are typed where it is
run_typed : (r : EventRun) → is_run r ≡ true → TypedEventRun r → AllByRecursion TypedEvent (run_events r)
run_typed r h typed = by r.count refl
  where
    by : (n : ℕ) → r.count ≡ n → AllByRecursion TypedEvent (map (at_step r.first) (steps_from r.first.step r.stride n))
    by zero is = tt
    by (suc n) is =
        let less : last_from r.first.step r.stride n < 2 ^ 32 = subst (λ (k : ℕ). k < 2 ^ 32) (last_step-is r n is) (run_shape r h).2 in
        all_mapped (λ (s : ℕ). s < 2 ^ 32) TypedEvent (at_step r.first) (λ s small. (small, typed.0.1))
        (steps_from r.first.step r.stride (suc n)) (small_steps r.first.step r.stride n (2 ^ 32) less)

events_typed : (rs : List EventRun) → list_all is_run rs ≡ true → AllByRecursion TypedEventRun rs → AllByRecursion TypedEvent (events_in rs)
events_typed [] good typed = tt
events_typed (r ∷ rs) good typed =
    let goods = and-parts (is_run r) (list_all is_run rs) good in
    all_append TypedEvent (run_events r) (events_in rs) (run_typed r goods.0 typed.0) (events_typed rs goods.1 typed.1)

-- its stride is un more than its last step
small_stride : (r : EventRun) → is_run r ≡ true → r.stride < 2 ^ 32
small_stride r h = by r.count refl
  where
    shape : (1 ≤ r.count) × (cond (r.count == 1) (r.stride == 0) (not (is_asked r.first.act)) ≡ true) × (last_step r < 2 ^ 32)
    shape = run_shape r h

    by : (n : ℕ) → r.count ≡ n → r.stride < 2 ^ 32
    by zero is = absurd (omega (arith, shape.0, is))
    by (suc zero) is =
        let one : cond (1 == 1) (r.stride == 0) (not (is_asked r.first.act)) ≡ true = subst (λ (k : ℕ). cond (k == 1) (r.stride == 0) (not (is_asked r.first.act)) ≡ true) is shape.1 in
        let none : r.stride ≡ 0 = eqb-true r.stride 0 one in
        omega (arith, none)
    by (suc (suc n)) is =
        let reach : last_step r ≡ r.first.step + suc n * r.stride = last_step-is r (suc n) is ∙ last-is r.first.step r.stride (suc n) in
        omega (arith, reach, suc-mul n r.stride, shape.2)

-- a run is typed where its events are and they are few enough
typed_run : (r : EventRun) → is_run r ≡ true → r.count < 2 ^ 32 → AllByRecursion TypedEvent (run_events r) → TypedEventRun r
typed_run r h few typed =
    let head = heads_by r.first r.count r.stride (formed_run r h) in
    let all : AllByRecursion TypedEvent (r.first ∷ head.0) = subst (AllByRecursion TypedEvent) head.1 typed in
    (all.0, (few, small_stride r h))

typed_runs : (rs : List EventRun) → list_all is_run rs ≡ true → total rs < 2 ^ 32 → AllByRecursion TypedEvent (events_in rs) → AllByRecursion TypedEventRun rs
typed_runs [] good few typed = tt
typed_runs (r ∷ rs) good few typed =
    let goods = and-parts (is_run r) (list_all is_run rs) good in
    let first : AllByRecursion TypedEvent (run_events r) = all_front TypedEvent (run_events r) (events_in rs) typed in
    let rest : AllByRecursion TypedEvent (events_in rs) = all_back TypedEvent (run_events r) (events_in rs) typed in
    (typed_run r goods.0 (omega (arith, few)) first, typed_runs rs goods.1 (omega (arith, few)) rest)

-- the format has room for the events of a run where it has for its first
same_room : (first : Event) (steps : List ℕ) → event_room first ≡ true → list_all event_room (map (at_step first) steps) ≡ true
same_room e [] room = refl
same_room e (s ∷ steps) room = and-from (event_room e) (list_all event_room (map (at_step e) steps)) room (same_room e steps room)

events_room : (rs : List EventRun) → list_all event_run_room rs ≡ true → list_all event_room (events_in rs) ≡ true
events_room [] room = refl
events_room (r ∷ rs) room =
    let both = and-parts (event_run_room r) (list_all event_run_room rs) room in
    list_all-append event_room (run_events r) (events_in rs)
    ∙ and-from (list_all event_room (run_events r)) (list_all event_room (events_in rs))
    (same_room r.first (steps_from r.first.step r.stride r.count) both.0) (events_room rs both.1)

rooms_of : (rs : List EventRun) → list_all is_run rs ≡ true → list_all event_room (events_in rs) ≡ true → list_all event_run_room rs ≡ true
rooms_of [] good room = refl
rooms_of (r ∷ rs) good room =
    let goods = and-parts (is_run r) (list_all is_run rs) good in
    let both = and-parts (list_all event_room (run_events r)) (list_all event_room (events_in rs)) (sym (list_all-append event_room (run_events r) (events_in rs)) ∙ room) in
    let head = heads_by r.first r.count r.stride (formed_run r goods.0) in
    let first = and-parts (event_room r.first) (list_all event_room head.0) (sym (ap (list_all event_room) head.1) ∙ both.0) in
    and-from (event_run_room r) (list_all event_run_room rs) first.0 (rooms_of rs goods.1 both.1)

-- ---- the trace in runs

pub small_events : (es : List Event) → AllByRecursion TypedEvent es → AllByRecursion IsSmall es
small_events [] typed = tt
small_events (e ∷ es) typed = (typed.0.0, small_events es typed.1)

abbrev RunParts : Type 0
RunParts = Event × (ℕ × ℕ)

abbrev parts_of : EventRun → RunParts
parts_of r = (r.first, (r.count, r.stride))

run_law : IsField event_run_spelling TypedEventRun event_run_room CountedEventRun event_run_at
run_law = recount CountedEventRun (struct_law (λ (p : RunParts). event_spelling p.0 ++ (to_be_bytes w32 p.1.0 ++ to_be_bytes w32 p.1.1)) (λ (p : RunParts). TypedEvent p.0 × (IsU32 p.1.0 × IsU32 p.1.1)) (λ (p : RunParts). event_room p.0) (both_at event_at (both_at (number_at w32) (number_at w32)))
    (λ (p : RunParts). record { first = p.0; count = p.1.0; stride = p.1.1 }) parts_of
    (restate (λ (p : RunParts). event_spelling p.0 ++ (to_be_bytes w32 p.1.0 ++ to_be_bytes w32 p.1.1)) (λ (p : RunParts). TypedEvent p.0 × (IsU32 p.1.0 × IsU32 p.1.1)) (λ (p : RunParts). TypedEvent p.0 × (IsU32 p.1.0 × IsU32 p.1.1)) (λ (p : RunParts). event_room p.0 && true) (λ (p : RunParts). event_room p.0) (both_at event_at (both_at (number_at w32) (number_at w32)))
    (then_law event_spelling TypedEvent event_room event_at (λ (q : ℕ × ℕ). to_be_bytes w32 q.0 ++ to_be_bytes w32 q.1) (λ (q : ℕ × ℕ). IsU32 q.0 × IsU32 q.1) (λ a. always) (λ a. both_at (number_at w32) (number_at w32)) event_law
    (λ a. then_law (to_be_bytes w32) IsU32 always (number_at w32) (to_be_bytes w32) IsU32 (λ a. always) (λ a. number_at w32) u32_law (λ a. u32_law)))
    (λ p t h. (t, and-from (event_room p.0) true h refl)) (λ p t h. (t, (and-parts (event_room p.0) true h).0)))
    (λ r. refl) (λ p. refl))
    (λ r n. (n, (tt, tt))) (λ r n. n.0)

run_filled : (r : EventRun) → 0 < length (event_run_spelling r)
run_filled r = omega (arith, length-append (event_spelling r.first) (to_be_bytes w32 r.count ++ to_be_bytes w32 r.stride), event_filled r.first)

runs_list_law : IsField (list_spelling w32 event_run_spelling) (AllByRecursion TypedEventRun) (list_all event_run_room) (CountedList CountedEventRun) (list_at w32 event_run_at)
runs_list_law = long_law event_run_spelling TypedEventRun event_run_room event_run_at run_law run_filled

forth : (es : List Event) → AllByRecursion TypedEvent es → trace_room es ≡ true
    → AllByRecursion TypedEventRun (runs_of es) × (list_all event_run_room (runs_of es) ≡ true) × (events_of_runs (runs_of es) ≡ Some es)
forth es typed room =
    let rs : List EventRun = runs_of es in
    let both = and-parts (nat_le (length es) max_events) (list_all event_room es) room in
    let good = runs_good es (small_events es typed) in
    let again : events_in rs ≡ es = events_again es in
    let many : total rs ≡ length es = sym (events-length rs) ∙ ap length again in
    let few : length es ≤ max_events = leb-true (length es) max_events both.0 in
    let within : nat_le (total rs) max_events ≡ true = le-leb (total rs) max_events (omega (arith, many, few)) in
    let are : are_runs rs ≡ true = and-from (nat_le (total rs) max_events && list_all is_run rs) (are_longest rs) (and-from (nat_le (total rs) max_events) (list_all is_run rs) within good.0) good.1 in (
      typed_runs rs good.0 (omega (arith, many, few)) (subst (AllByRecursion TypedEvent) (sym again) typed),
      rooms_of rs good.0 (ap (list_all event_room) again ∙ both.1),
      rw are (ap just again),
    )

from_runs : (rs : List EventRun) (es : List Event) (b : Bool) → are_runs rs ≡ b → AllByRecursion TypedEventRun rs → list_all event_run_room rs ≡ true → cond b (Some (events_in rs)) None ≡ Some es
    → (rs ≡ runs_of es) × AllByRecursion TypedEvent es × (trace_room es ≡ true)
from_runs rs es true are typed room h =
    let one = and-parts (nat_le (total rs) max_events && list_all is_run rs) (are_longest rs) are in
    let two = and-parts (nat_le (total rs) max_events) (list_all is_run rs) one.0 in
    let within : nat_le (length (events_in rs)) max_events ≡ true = ap (λ (n : ℕ). nat_le n max_events) (events-length rs) ∙ two.0 in
    subst (λ (l : List Event). (rs ≡ runs_of l) × AllByRecursion TypedEvent l × (trace_room l ≡ true)) (same-some (events_in rs) es h) (
      sym (runs_again rs (all_formed rs two.1) one.1),
      events_typed rs two.1 typed,
      and-from (nat_le (length (events_in rs)) max_events) (list_all event_room (events_in rs)) within (events_room rs room),
    )
from_runs rs es false are typed room h = absurd cc

pub runs_law : IsField runs_spelling (AllByRecursion TypedEvent) trace_room (λ es. CountedList CountedEventRun (runs_of es)) runs_at
runs_law = made_law (list_spelling w32 event_run_spelling) (AllByRecursion TypedEventRun) (list_all event_run_room) (list_at w32 event_run_at) (AllByRecursion TypedEvent) trace_room events_of_runs runs_of runs_list_law
    forth (λ rs es t h k. from_runs rs es (are_runs rs) refl t h k)

-- ---- a trace that is written in runs is typed, though of a run only the first event is written

first_typed : (r : EventRun) → is_run r ≡ true → TypedEvent r.first → AllByRecursion TypedEvent (run_events r)
first_typed r h typed = by r.count refl
  where
    by : (n : ℕ) → r.count ≡ n → AllByRecursion TypedEvent (map (at_step r.first) (steps_from r.first.step r.stride n))
    by zero is = tt
    by (suc n) is =
        let less : last_from r.first.step r.stride n < 2 ^ 32 = subst (λ (k : ℕ). k < 2 ^ 32) (last_step-is r n is) (run_shape r h).2 in
        all_mapped (λ (s : ℕ). s < 2 ^ 32) TypedEvent (at_step r.first) (λ s small. (small, typed.1))
        (steps_from r.first.step r.stride (suc n)) (small_steps r.first.step r.stride n (2 ^ 32) less)

-- all events are typed where those are of the run that has begun and those that are left
abbrev pub TypedFrom : List Event → Begun → List Event → Type 0
TypedFrom all b left = AllByRecursion TypedEvent (run_events b.run ++ left) → AllByRecursion TypedEvent all

pub record IsCutSoFar (all : List Event) (b : Begun) (left : List Event) : Type 0 where
  pub begun : IsBegun b
  pub shape : HasShape b
  pub typed : TypedFrom all b left

begun_typed : (all : List Event) (b : Begun) (left : List Event) → IsCutSoFar all b left → b.last < 2 ^ 32 → TypedEvent b.run.first
    → AllByRecursion TypedEvent (run_events b.run)
begun_typed all b left s small first = first_typed b.run (run_is b s.begun s.shape small) first

pub stands_first : (e : Event) (es : List Event) → IsCutSoFar (e ∷ es) (run_of_one e) es
stands_first e es = record { begun = single_begun e; shape = inl (refl, refl); typed = λ h. h }

pub stands_grown : (all : List Event) (b : Begun) (left : List Event) (e : Event) (es : List Event) → IsCutSoFar all b left → left ≡ e ∷ es
    → joins b e ≡ true → IsCutSoFar all (run_with_event b e) es
stands_grown all b left e es s is on = record {
  begun = grown_begun b e s.begun on;
  shape = inr (omega (arith, s.begun.count), (joined b e on).unasked);
  typed = λ h.
      s.typed (subst (AllByRecursion TypedEvent)
      (ap (λ (l : List Event). l ++ es) (grown_events b e s.begun on) ∙ append_assoc (run_events b.run) (e ∷ []) es
      ∙ ap (λ (l : List Event). run_events b.run ++ l) (sym is)) h);
}

pub stands_next : (all : List Event) (b : Begun) (left : List Event) (e : Event) (es : List Event) → IsCutSoFar all b left → left ≡ e ∷ es
    → b.last < 2 ^ 32 → TypedEvent b.run.first → IsCutSoFar all (run_of_one e) es
stands_next all b left e es s is small first = record {
  begun = single_begun e;
  shape = inl (refl, refl);
  typed = λ h.
      s.typed (all_append TypedEvent (run_events b.run) left (begun_typed all b left s small first) (subst (AllByRecursion TypedEvent) (sym is) h));
}

pub stands_last : (all : List Event) (b : Begun) (left : List Event) → IsCutSoFar all b left → left ≡ []
    → b.last < 2 ^ 32 → TypedEvent b.run.first → AllByRecursion TypedEvent all
stands_last all b left s is small first =
    s.typed (all_append TypedEvent (run_events b.run) left (begun_typed all b left s small first) (subst (AllByRecursion TypedEvent) (sym is) tt))

-- what is due stays due, where the run that has begun grows, and where it is written
abbrev pub Due : List ℕ → Begun → List Event → List ℕ → Type 0
Due to b left all = to ++ flat_map event_run_spelling (runs_from b left) ≡ all

pub due_grown : (to all : List ℕ) (b : Begun) (left : List Event) (e : Event) (es : List Event) → left ≡ e ∷ es → joins b e ≡ true
    → Due to b left all → Due to (run_with_event b e) es all
due_grown to all b left e es is on due =
    let step : runs_from b (e ∷ es) ≡ runs_from (run_with_event b e) es = rw on refl in
    subst (λ (rs : List EventRun). to ++ flat_map event_run_spelling rs ≡ all) (ap (runs_from b) is ∙ step) due

pub due_next : (to new all : List ℕ) (b : Begun) (left : List Event) (e : Event) (es : List Event) → left ≡ e ∷ es → joins b e ≡ false
    → new ≡ to ++ event_run_spelling b.run → Due to b left all → Due new (run_of_one e) es all
due_next to new all b left e es is off wrote due =
    let step : runs_from b (e ∷ es) ≡ b.run ∷ runs_from (run_of_one e) es = rw off refl in
    let was : to ++ (event_run_spelling b.run ++ flat_map event_run_spelling (runs_from (run_of_one e) es)) ≡ all =
    subst (λ (rs : List EventRun). to ++ flat_map event_run_spelling rs ≡ all) (ap (runs_from b) is ∙ step) due in
    ap (λ (l : List ℕ). l ++ flat_map event_run_spelling (runs_from (run_of_one e) es)) wrote
    ∙ append_assoc to (event_run_spelling b.run) (flat_map event_run_spelling (runs_from (run_of_one e) es)) ∙ was

-- those that are left are good exactly where all are, if the first one is
pub good_next : (left : List EventRun) (r : EventRun) (rs : List EventRun) (all : Bool) → left ≡ r ∷ rs → is_run r ≡ true → stops_before r rs ≡ true
    → (list_all is_run left && are_longest left) ≡ all → (list_all is_run rs && are_longest rs) ≡ all
good_next left r rs all is run stops same =
    let step : (list_all is_run rs && are_longest rs) ≡ (list_all is_run (r ∷ rs) && are_longest (r ∷ rs)) = rw run (rw stops refl) in
    step ∙ ap (λ (l : List EventRun). list_all is_run l && are_longest l) (sym is) ∙ same

-- ---- a run's events, one after another

abbrev pub SmallFrom : ℕ → ℕ → ℕ → Type 0
SmallFrom at stride left = AllByRecursion (λ (s : ℕ). s < 2 ^ 32) (steps_from at stride left)

pub small_first : (r : EventRun) → is_run r ≡ true → SmallFrom r.first.step r.stride r.count
small_first r h = by r.count refl
  where
    by : (n : ℕ) → r.count ≡ n → SmallFrom r.first.step r.stride n
    by zero is = tt
    by (suc n) is =
        let less : last_from r.first.step r.stride n < 2 ^ 32 = subst (λ (k : ℕ). k < 2 ^ 32) (last_step-is r n is) (run_shape r h).2 in
        small_steps r.first.step r.stride n (2 ^ 32) less

-- an act that is there twice is no question
pub unasked_run : (r : EventRun) → is_run r ≡ true → 1 < r.count → is_asked r.first.act ≡ false
unasked_run r h more =
    let two : (r.count == 1) ≡ false = ne_eqb r.count 1 (λ is. omega (arith, is, more)) in
    not-true (is_asked r.first.act) (subst (λ (b : Bool). cond b (r.stride == 0) (not (is_asked r.first.act)) ≡ true) two (run_shape r h).1)

less_one : (n : ℕ) → n ≡ suc n - 1
less_one n = omega (arith)

pub small_next : (at stride left : ℕ) → 1 < left → SmallFrom at stride left → SmallFrom (at + stride) stride (left - 1)
small_next at stride zero more h = absurd (omega (arith, more))
small_next at stride (suc n) more h = subst (SmallFrom (at + stride) stride) (less_one n) h.1

pub step_next : (at stride left : ℕ) → 1 < left → SmallFrom at stride left → at + stride < 2 ^ 32
step_next at stride zero more h = absurd (omega (arith, more))
step_next at stride (suc zero) more h = absurd (omega (arith, more))
step_next at stride (suc (suc n)) more h = h.1.0

pub expand_next : (e : Event) (to all : List Event) (at stride left : ℕ) → 1 < left
    → to ++ map (at_step e) (steps_from at stride left) ≡ all
    → (to ++ at_step e at ∷ []) ++ map (at_step e) (steps_from (at + stride) stride (left - 1)) ≡ all
expand_next e to all at stride zero more due = absurd (omega (arith, more))
expand_next e to all at stride (suc n) more due =
    subst (λ (k : ℕ). (to ++ at_step e at ∷ []) ++ map (at_step e) (steps_from (at + stride) stride k) ≡ all) (less_one n)
    (append_assoc to (at_step e at ∷ []) (map (at_step e) (steps_from (at + stride) stride n)) ∙ due)

pub expand_last : (e : Event) (to all : List Event) (at stride left : ℕ) → 1 ≤ left → left ≤ 1
    → to ++ map (at_step e) (steps_from at stride left) ≡ all → to ++ at_step e at ∷ [] ≡ all
expand_last e to all at stride zero some last due = absurd (omega (arith, some))
expand_last e to all at stride (suc zero) some last due = due
expand_last e to all at stride (suc (suc n)) some last due = absurd (omega (arith, last))
