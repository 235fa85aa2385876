-- Events are cut into runs in one way: the runs of events represent these events, and no other runs do if
-- none of them could be longer.
use Rattle.std.proofs.Common.{◌≡◌, ℕ, zero, suc, ◌+◌, ◌-◌, ◌*◌, ◌^◌, ◌<◌, ◌≤◌, Bool, true, false, cond, not, List, [], ◌∷◌, ◌++◌, length, map, refl, sym, ap, ◌∙◌, append_assoc, arith, inl, inr, ◌⊎◌, ◌&&◌, ◌||◌, suc-mul, zero-mul}
use Rattle.std.specs.Prelude.{◌==◌, nat_le, nat_lt, bytes_eq}
use Rattle.std.specs.List.{list_all, AllByRecursion}
use Rattle.std.proofs.lemmas.Bool.{not-true, not_from_false, leb-true, le-leb, ltb-true, lt-ltb, eqb-true, eq-eqb, or_cases, or_right, ne_eqb, cases_Bool}
use Rattle.std.proofs.lemmas.List.{map-append, length-append, length-map}
use Rattle.ldv_value.proofs.Booleans.{and-parts, and-from}
use Rattle.ldv_value.proofs.SameBytes.{bytes_eq-true, bytes_eq-itself}
use Rattle.run_model.specs.declared.event.Act.{Act}
use Rattle.run_model.specs.declared.event.Act.TheVariants as acts
use Rattle.run_model.specs.declared.event.Event.{Event}
use Rattle.run_model.specs.ValidTrace.{is_asked}
use Rattle.package_codec.specs.Runs.{EventRun, IsCut, IsCutOf, is_formed}
use Rattle.package_codec.specs.Runs.{act_kind, act_path, act_number, same_act, is_alike, Begun, run_of_one, joins, run_with_event, runs_from, runs_of, steps_from, at_step, run_events, events_in, total, last_step, begun_by, is_run, stops_before, are_longest, are_runs, max_events}

-- ---- the same act

abbrev is_one : ℕ → Bool
is_one n = n == 1

-- the act of a kind, a path and a number
abbrev act_made : ℕ → List ℕ → ℕ → Act
act_made zero path n = acts.Started path
act_made (suc zero) path n = acts.Spawned path
act_made (suc (suc zero)) path n = acts.Unspawned path (is_one n)
act_made (suc (suc (suc zero))) path n = acts.OpenedRead path
act_made (suc (suc (suc (suc zero)))) path n = acts.OpenedWrite path
act_made (suc (suc (suc (suc (suc zero))))) path n = acts.OpenedAppend path (is_one n)
act_made (suc (suc (suc (suc (suc (suc zero)))))) path n = acts.OpenedNew path
act_made (suc (suc (suc (suc (suc (suc (suc zero))))))) path n = acts.Unopened path (is_one n)
act_made (suc (suc (suc (suc (suc (suc (suc (suc zero)))))))) path n = acts.Read path
act_made (suc (suc (suc (suc (suc (suc (suc (suc (suc zero))))))))) path n = acts.Wrote path
act_made (suc (suc (suc (suc (suc (suc (suc (suc (suc (suc zero)))))))))) path n = acts.Removed path
act_made (suc (suc (suc (suc (suc (suc (suc (suc (suc (suc (suc zero))))))))))) path n = acts.Tested path (is_one n)
act_made (suc (suc (suc (suc (suc (suc (suc (suc (suc (suc (suc (suc zero)))))))))))) path n = acts.Waited n
act_made (suc (suc (suc (suc (suc (suc (suc (suc (suc (suc (suc (suc (suc k))))))))))))) path n = acts.Ended n

act_again : (a : Act) → is_asked a ≡ false → act_made (act_kind a) (act_path a) (act_number a) ≡ a
act_again (acts.Started path) un = refl
act_again (acts.Spawned path) un = refl
act_again (acts.Unspawned path true) un = refl
act_again (acts.Unspawned path false) un = refl
act_again (acts.OpenedRead path) un = refl
act_again (acts.OpenedWrite path) un = refl
act_again (acts.OpenedAppend path true) un = refl
act_again (acts.OpenedAppend path false) un = refl
act_again (acts.OpenedNew path) un = refl
act_again (acts.Unopened path true) un = refl
act_again (acts.Unopened path false) un = refl
act_again (acts.Read path) un = refl
act_again (acts.Wrote path) un = refl
act_again (acts.Removed path) un = refl
act_again (acts.Tested path true) un = refl
act_again (acts.Tested path false) un = refl
act_again (acts.Waited child) un = refl
act_again (acts.Ended status) un = refl
act_again (acts.Asked statement tables reads made) un = absurd cc

-- an act of the kind of one that is un question is none
pub unasked : (b : Act) (k : ℕ) → act_kind b ≡ k → k < 14 → is_asked b ≡ false
unasked (acts.Started path) k is less = refl
unasked (acts.Spawned path) k is less = refl
unasked (acts.Unspawned path found) k is less = refl
unasked (acts.OpenedRead path) k is less = refl
unasked (acts.OpenedWrite path) k is less = refl
unasked (acts.OpenedAppend path found) k is less = refl
unasked (acts.OpenedNew path) k is less = refl
unasked (acts.Unopened path found) k is less = refl
unasked (acts.Read path) k is less = refl
unasked (acts.Wrote path) k is less = refl
unasked (acts.Removed path) k is less = refl
unasked (acts.Tested path found) k is less = refl
unasked (acts.Waited child) k is less = refl
unasked (acts.Ended status) k is less = refl
unasked (acts.Asked statement tables reads made) k is less = absurd (omega (arith, is, less))

small_kind : (a : Act) → is_asked a ≡ false → act_kind a < 14
small_kind (acts.Started path) un = omega arith
small_kind (acts.Spawned path) un = omega arith
small_kind (acts.Unspawned path found) un = omega arith
small_kind (acts.OpenedRead path) un = omega arith
small_kind (acts.OpenedWrite path) un = omega arith
small_kind (acts.OpenedAppend path found) un = omega arith
small_kind (acts.OpenedNew path) un = omega arith
small_kind (acts.Unopened path found) un = omega arith
small_kind (acts.Read path) un = omega arith
small_kind (acts.Wrote path) un = omega arith
small_kind (acts.Removed path) un = omega arith
small_kind (acts.Tested path found) un = omega arith
small_kind (acts.Waited child) un = omega arith
small_kind (acts.Ended status) un = omega arith
small_kind (acts.Asked statement tables reads made) un = absurd cc

same_is : (a b : Act) → same_act a b ≡ true → (is_asked a ≡ false) × (a ≡ b)
same_is a b h =
    let one = and-parts (not (is_asked a) && (act_kind a == act_kind b) && bytes_eq (act_path a) (act_path b)) (act_number a == act_number b) h in
    let two = and-parts (not (is_asked a) && (act_kind a == act_kind b)) (bytes_eq (act_path a) (act_path b)) one.0 in
    let three = and-parts (not (is_asked a)) (act_kind a == act_kind b) two.0 in
    let un : is_asked a ≡ false = not-true (is_asked a) three.0 in
    let kind : act_kind a ≡ act_kind b = eqb-true (act_kind a) (act_kind b) three.1 in
    let path : act_path a ≡ act_path b = bytes_eq-true (act_path a) (act_path b) two.1 in
    let number : act_number a ≡ act_number b = eqb-true (act_number a) (act_number b) one.1 in
    let none : is_asked b ≡ false = unasked b (act_kind a) (sym kind) (small_kind a un) in
    (un, sym (act_again a un) ∙ (λ j. act_made (kind j) (path j) (number j)) ∙ act_again b none)

same_itself : (a : Act) → is_asked a ≡ false → same_act a a ≡ true
same_itself a un =
    and-from (not (is_asked a) && (act_kind a == act_kind a) && bytes_eq (act_path a) (act_path a)) (act_number a == act_number a)
    (and-from (not (is_asked a) && (act_kind a == act_kind a)) (bytes_eq (act_path a) (act_path a))
    (and-from (not (is_asked a)) (act_kind a == act_kind a) (not_from_false (is_asked a) un) (eq-eqb (act_kind a) (act_kind a) refl))
    (bytes_eq-itself (act_path a)))
    (eq-eqb (act_number a) (act_number a) refl)

-- ---- steps

abbrev pub last_from : ℕ → ℕ → ℕ → ℕ
last_from step stride zero = step
last_from step stride (suc n) = last_from (step + stride) stride n

steps-more : (step stride n : ℕ) → steps_from step stride (suc n) ≡ steps_from step stride n ++ last_from step stride n ∷ []
steps-more step stride zero = refl
steps-more step stride (suc n) = ap (λ (l : List ℕ). step ∷ l) (steps-more (step + stride) stride n)

last-more : (step stride n : ℕ) → last_from step stride (suc n) ≡ last_from step stride n + stride
last-more step stride zero = refl
last-more step stride (suc n) = last-more (step + stride) stride n

pub last-is : (step stride n : ℕ) → last_from step stride n ≡ step + n * stride
last-is step stride zero = omega (arith, zero-mul stride)
last-is step stride (suc n) = omega (arith, last-is (step + stride) stride n, suc-mul n stride)

pub last_step-is : (r : EventRun) (n : ℕ) → r.count ≡ suc n → last_step r ≡ last_from r.first.step r.stride n
last_step-is r n is =
    let less : r.count - 1 ≡ n = omega (arith, is) in
    ap (λ (k : ℕ). r.first.step + k * r.stride) less ∙ sym (last-is r.first.step r.stride n)

-- ---- an event that goes on with a run

pub record Joined (b : Begun) (e : Event) : Type 0 where
  pub unasked : is_asked b.run.first.act ≡ false
  pub alike : at_step b.run.first e.step ≡ e
  pub later : b.last ≤ e.step
  pub apart : (b.run.count ≡ 1) ⊎ (e.step - b.last ≡ b.run.stride)

pub joined : (b : Begun) (e : Event) → joins b e ≡ true → Joined b e
joined b e h =
    let a = b.run.first in
    let one = and-parts (is_alike a e && nat_le b.last e.step) ((b.run.count == 1) || (e.step - b.last == b.run.stride)) h in
    let two = and-parts (is_alike a e) (nat_le b.last e.step) one.0 in
    let three = and-parts (a.process == e.process) (same_act a.act e.act) two.0 in
    let process : a.process ≡ e.process = eqb-true a.process e.process three.0 in
    let act = same_is a.act e.act three.1 in
    record {
      unasked = act.0;
      alike = λ j. record { step = e.step; process = process j; act = act.1 j };
      later = leb-true b.last e.step two.1;
      apart = elim (or_cases (b.run.count == 1) (e.step - b.last == b.run.stride) one.1) [
        | inl first ↦ inl (eqb-true b.run.count 1 first)
        | inr more ↦ inr (eqb-true (e.step - b.last) b.run.stride more)
      ];
    }

pub joins_later : (b : Begun) (e : Event) → joins b e ≡ true → b.last ≤ e.step
joins_later b e h = (joined b e h).later

-- a run that has begun has an event, and its last step is the one that is kept
pub record IsBegun (b : Begun) : Type 0 where
  pub before : ℕ
  pub count : b.run.count ≡ suc before
  pub last : b.last ≡ last_from b.run.first.step b.run.stride before

pub single_begun : (e : Event) → IsBegun (run_of_one e)
single_begun e = record { before = 0; count = refl; last = refl }

-- the steps so far are the same with the stride that the next event gives
same_steps : (step stride other before count : ℕ) → count ≡ suc before → (count ≡ 1) ⊎ (other ≡ stride)
    → (steps_from step other (suc before) ≡ steps_from step stride (suc before)) × (last_from step other before ≡ last_from step stride before)
same_steps step stride other before count is (inl first) =
    let none : before ≡ 0 = omega (arith, is, first) in (
      ap (λ (k : ℕ). steps_from step other (suc k)) none ∙ sym (ap (λ (k : ℕ). steps_from step stride (suc k)) none),
      ap (last_from step other) none ∙ sym (ap (last_from step stride) none),
    )
same_steps step stride other before count is (inr same) = (ap (λ (d : ℕ). steps_from step d (suc before)) same, ap (λ (d : ℕ). last_from step d before) same)

module _ (b : Begun) (e : Event) (begun : IsBegun b) (h : joins b e ≡ true) where
  facts : Joined b e
  facts = joined b e h

  abbrev first : ℕ
  first = b.run.first.step

  abbrev stride : ℕ
  stride = e.step - b.last

  same : (steps_from first stride (suc begun.before) ≡ steps_from first b.run.stride (suc begun.before)) × (last_from first stride begun.before ≡ last_from first b.run.stride begun.before)
  same = same_steps first b.run.stride stride begun.before b.run.count begun.count facts.apart

  more : b.run.count + 1 ≡ suc (suc begun.before)
  more = omega (arith, begun.count)

  reaches : last_from first stride (suc begun.before) ≡ e.step
  reaches = omega (arith, last-more first stride begun.before, same.1, begun.last, facts.later)

  pub grown_begun : IsBegun (run_with_event b e)
  grown_begun = record { before = suc begun.before; count = more; last = sym reaches }

  pub grown_events : run_events (run_with_event b e).run ≡ run_events b.run ++ e ∷ []
  grown_events =
      let a = b.run.first in
      let steps : steps_from first stride (b.run.count + 1) ≡ steps_from first b.run.stride b.run.count ++ e.step ∷ [] =
      ap (steps_from first stride) more
      ∙ steps-more first stride (suc begun.before)
      ∙ (λ j. same.0 j ++ reaches j ∷ [])
      ∙ ap (λ (k : ℕ). steps_from first b.run.stride k ++ e.step ∷ []) (sym begun.count) in
      ap (map (at_step a)) steps
      ∙ map-append (at_step a) (steps_from first b.run.stride b.run.count) (e.step ∷ [])
      ∙ ap (λ (x : Event). run_events b.run ++ x ∷ []) facts.alike

-- ---- the runs of events stand for these events

expands : (b : Begun) (es : List Event) → IsBegun b → events_in (runs_from b es) ≡ run_events b.run ++ es
expands b [] begun = refl
expands b (e ∷ es) begun = elim (cases_Bool (joins b e)) [
  | inl on ↦
      let more : events_in (runs_from (run_with_event b e) es) ≡ run_events b.run ++ e ∷ es =
      expands (run_with_event b e) es (grown_begun b e begun on)
      ∙ ap (λ (l : List Event). l ++ es) (grown_events b e begun on)
      ∙ append_assoc (run_events b.run) (e ∷ []) es in
      rw on more
  | inr off ↦
      let more : run_events b.run ++ events_in (runs_from (run_of_one e) es) ≡ run_events b.run ++ e ∷ es =
      ap (λ (l : List Event). run_events b.run ++ l) (expands (run_of_one e) es (single_begun e)) in
      rw off more
]

pub events_again : (es : List Event) → events_in (runs_of es) ≡ es
events_again [] = refl
events_again (e ∷ es) = expands (run_of_one e) es (single_begun e)

-- ---- what a run by itself meets

formed_shape : (r : EventRun) → is_formed r ≡ true → (1 ≤ r.count) × (cond (r.count == 1) (r.stride == 0) (not (is_asked r.first.act)) ≡ true)
formed_shape r h =
    let both = and-parts (nat_le 1 r.count) (cond (r.count == 1) (r.stride == 0) (not (is_asked r.first.act))) h in
    (leb-true 1 r.count both.0, both.1)

pub formed_run : (r : EventRun) → is_run r ≡ true → is_formed r ≡ true
formed_run r h = (and-parts (is_formed r) (nat_lt (last_step r) (2 ^ 32)) h).0

pub run_shape : (r : EventRun) → is_run r ≡ true → (1 ≤ r.count) × (cond (r.count == 1) (r.stride == 0) (not (is_asked r.first.act)) ≡ true) × (last_step r < 2 ^ 32)
run_shape r h =
    let one = and-parts (is_formed r) (nat_lt (last_step r) (2 ^ 32)) h in
    let two = formed_shape r one.0 in
    (two.0, two.1, ltb-true (last_step r) (2 ^ 32) one.1)

pub run_some : (r : EventRun) → is_run r ≡ true → 1 ≤ r.count
run_some r h = (run_shape r h).0

-- ---- the events of the longest runs are cut into these runs

abbrev begun_at : Event → ℕ → ℕ → ℕ → Begun
begun_at first count stride last = record { run = record { first = first; count = count; stride = stride }; last = last }

alike_itself : (first : Event) (step : ℕ) → is_asked first.act ≡ false → is_alike first (at_step first step) ≡ true
alike_itself first step un =
    and-from (first.process == first.process) (same_act first.act first.act) (eq-eqb first.process first.process refl) (same_itself first.act un)

-- the next event of a run of two or more goes on with it, and the first one after a single event does
joins-at_step : (first : Event) (count stride last : ℕ) → is_asked first.act ≡ false
    → joins (begun_at first count stride last) (at_step first (last + stride)) ≡ true
joins-at_step first count stride last un =
    let e : Event = at_step first (last + stride) in
    let b : Begun = begun_at first count stride last in
    and-from (is_alike first e && nat_le last (last + stride)) ((count == 1) || ((last + stride) - last == stride))
    (and-from (is_alike first e) (nat_le last (last + stride)) (alike_itself first (last + stride) un) (le-leb last (last + stride) (omega arith)))
    (or_right (count == 1) ((last + stride) - last == stride) (eq-eqb ((last + stride) - last) stride (omega arith)))

single_goes_on : (first : Event) (stride : ℕ) → is_asked first.act ≡ false
    → joins (run_of_one first) (at_step first (first.step + stride)) ≡ true
single_goes_on first stride un =
    let e : Event = at_step first (first.step + stride) in
    and-from (is_alike first e && nat_le first.step (first.step + stride)) true
    (and-from (is_alike first e) (nat_le first.step (first.step + stride)) (alike_itself first (first.step + stride) un) (le-leb first.step (first.step + stride) (omega arith)))
    refl

-- a run takes in those of its events that are left
takes_in : (first : Event) (stride : ℕ) → is_asked first.act ≡ false → (n count last end : ℕ) (rest : List Event) → end ≡ count + n
    → runs_from (begun_at first count stride last) (map (at_step first) (steps_from (last + stride) stride n) ++ rest)
    ≡ runs_from (begun_at first end stride (last_from last stride n)) rest
takes_in first stride un zero count last end rest is =
    let same : count ≡ end = omega (arith, is) in
    ap (λ (k : ℕ). runs_from (begun_at first k stride last) rest) same
takes_in first stride un (suc n) count last end rest is =
    let b : Begun = begun_at first count stride last in
    let later : List Event = map (at_step first) (steps_from (last + stride + stride) stride n) ++ rest in
    let apart : (last + stride) - last ≡ stride = omega arith in
    let one : runs_from (run_with_event b (at_step first (last + stride))) later ≡ runs_from (begun_at first (count + 1) stride (last + stride)) later =
    ap (λ (d : ℕ). runs_from (begun_at first (count + 1) d (last + stride)) later) apart in
    let more : runs_from (begun_at first (count + 1) stride (last + stride)) later ≡ runs_from (begun_at first end stride (last_from (last + stride) stride n)) rest =
    takes_in first stride un n (count + 1) (last + stride) end rest (omega (arith, is)) in
    rw (joins-at_step first count stride last un) (one ∙ more)

-- the events of a run begin it, and nothing else is of it so far
begins_by : (first : Event) (count stride : ℕ) (rest : List Event) → is_formed (record { first = first; count = count; stride = stride }) ≡ true
    → runs_of (run_events (record { first = first; count = count; stride = stride }) ++ rest) ≡ runs_from (begun_by (record { first = first; count = count; stride = stride })) rest
begins_by first zero stride rest h = absurd cc
begins_by first (suc zero) stride rest h =
    let r : EventRun = record { first = first; count = 1; stride = stride } in
    let shape = formed_shape r h in
    let none : stride ≡ 0 = eqb-true stride 0 shape.1 in
    let last : last_step r ≡ first.step = last_step-is r 0 refl in
    (λ j. runs_from (record { run = record { first = first; count = 1; stride = sym none j }; last = sym last j }) rest)
begins_by first (suc (suc n)) stride rest h =
    let r : EventRun = record { first = first; count = suc (suc n); stride = stride } in
    let shape = formed_shape r h in
    let two : (r.count == 1) ≡ false = ne_eqb r.count 1 (λ is. omega (arith, is)) in
    let un : is_asked first.act ≡ false = not-true (is_asked first.act) (rw two at shape.1) in
    let later : List Event = map (at_step first) (steps_from (first.step + stride + stride) stride n) ++ rest in
    let apart : (first.step + stride) - first.step ≡ stride = omega arith in
    let second : runs_from (run_with_event (run_of_one first) (at_step first (first.step + stride))) later ≡ runs_from (begun_at first 2 stride (first.step + stride)) later =
    ap (λ (d : ℕ). runs_from (begun_at first 2 d (first.step + stride)) later) apart in
    let more : runs_from (begun_at first 2 stride (first.step + stride)) later ≡ runs_from (begun_at first (suc (suc n)) stride (last_from (first.step + stride) stride n)) rest =
    takes_in first stride un n 2 (first.step + stride) (suc (suc n)) rest (omega arith) in
    let last : last_from (first.step + stride) stride n ≡ last_step r = sym (last_step-is r (suc n) refl) in
    rw (single_goes_on first stride un)
    (second ∙ more ∙ ap (λ (k : ℕ). runs_from (begun_at first (suc (suc n)) stride k) rest) last)

begins : (r : EventRun) (rest : List Event) → is_formed r ≡ true → runs_of (run_events r ++ rest) ≡ runs_from (begun_by r) rest
begins r rest h = begins_by r.first r.count r.stride rest h

-- a run has its first event first
pub heads_by : (first : Event) (count stride : ℕ) → is_formed (record { first = first; count = count; stride = stride }) ≡ true
    → (es : List Event) × (run_events (record { first = first; count = count; stride = stride }) ≡ first ∷ es)
heads_by first zero stride h = absurd cc
heads_by first (suc n) stride h = (map (at_step first) (steps_from (first.step + stride) stride n), refl)

chain : (r : EventRun) (qs : List EventRun) → are_longest (r ∷ qs) ≡ true → list_all is_formed qs ≡ true
    → runs_from (begun_by r) (events_in qs) ≡ r ∷ qs
chain r [] longest good = refl
chain r (q ∷ qs) longest good =
    let apart = and-parts (not (joins (begun_by r) q.first)) (are_longest (q ∷ qs)) longest in
    let off : joins (begun_by r) q.first ≡ false = not-true (joins (begun_by r) q.first) apart.0 in
    let goods = and-parts (is_formed q) (list_all is_formed qs) good in
    let head = heads_by q.first q.count q.stride goods.0 in
    let split : events_in (q ∷ qs) ≡ q.first ∷ (head.0 ++ events_in qs) = ap (λ (l : List Event). l ++ events_in qs) head.1 in
    let rest : runs_of (q.first ∷ (head.0 ++ events_in qs)) ≡ q ∷ qs =
    ap runs_of (sym split) ∙ begins q (events_in qs) goods.0 ∙ chain q qs apart.1 goods.1 in
    let step : runs_from (begun_by r) (q.first ∷ (head.0 ++ events_in qs)) ≡ r ∷ q ∷ qs = rw off (ap (λ (l : List EventRun). r ∷ l) rest) in
    ap (runs_from (begun_by r)) split ∙ step

pub runs_again : (rs : List EventRun) → list_all is_formed rs ≡ true → are_longest rs ≡ true → runs_of (events_in rs) ≡ rs
runs_again [] good longest = refl
runs_again (r ∷ rs) good longest =
    let goods = and-parts (is_formed r) (list_all is_formed rs) good in
    begins r (events_in rs) goods.0 ∙ chain r rs longest goods.1

-- ---- the runs of events are the longest

abbrev pub HasShape : Begun → Type 0
HasShape b = ((b.run.count ≡ 1) × (b.run.stride ≡ 0)) ⊎ ((2 ≤ b.run.count) × (is_asked b.run.first.act ≡ false))

abbrev pub IsSmall : Event → Type 0
IsSmall e = e.step < 2 ^ 32

single_shape : (e : Event) → HasShape (run_of_one e)
single_shape e = inl (refl, refl)

grown_shape : (b : Begun) (e : Event) → IsBegun b → joins b e ≡ true → HasShape (run_with_event b e)
grown_shape b e begun h = inr (omega (arith, begun.count), (joined b e h).unasked)

run_by : (count stride : ℕ) (asked : Bool) → ((count ≡ 1) × (stride ≡ 0)) ⊎ ((2 ≤ count) × (asked ≡ false))
    → cond (count == 1) (stride == 0) (not asked) ≡ true
run_by count stride asked (inl one) = rw (eq-eqb count 1 one.0) (eq-eqb stride 0 one.1)
run_by count stride asked (inr more) =
    let two : (count == 1) ≡ false = ne_eqb count 1 (λ is. omega (arith, is, more.0)) in
    rw two (not_from_false asked more.1)

begun_last : (b : Begun) → IsBegun b → last_step b.run ≡ b.last
begun_last b begun = last_step-is b.run begun.before begun.count ∙ sym begun.last

begun_is : (b : Begun) → IsBegun b → begun_by b.run ≡ b
begun_is b begun = λ j. record { run = b.run; last = begun_last b begun j }

formed_is : (b : Begun) → IsBegun b → HasShape b → is_formed b.run ≡ true
formed_is b begun shape =
    let r : EventRun = b.run in
    let some : 1 ≤ r.count = omega (arith, begun.count) in
    and-from (nat_le 1 r.count) (cond (r.count == 1) (r.stride == 0) (not (is_asked r.first.act))) (le-leb 1 r.count some) (run_by r.count r.stride (is_asked r.first.act) shape)

small_is : (b : Begun) → IsBegun b → b.last < 2 ^ 32 → nat_lt (last_step b.run) (2 ^ 32) ≡ true
small_is b begun small = lt-ltb (last_step b.run) (2 ^ 32) (omega (arith, begun_last b begun, small))

pub run_is : (b : Begun) → IsBegun b → HasShape b → b.last < 2 ^ 32 → is_run b.run ≡ true
run_is b begun shape small = and-from (is_formed b.run) (nat_lt (last_step b.run) (2 ^ 32)) (formed_is b begun shape) (small_is b begun small)

record Longest (first : Event) (rs : List EventRun) : Type 0 where
  formed : list_all is_formed rs ≡ true
  longest : are_longest rs ≡ true
  head : EventRun
  later : List EventRun
  split : rs ≡ head ∷ later
  begins : head.first ≡ first

longest_from : (b : Begun) (es : List Event) → IsBegun b → HasShape b → Longest b.run.first (runs_from b es)
longest_from b [] begun shape = record {
  formed = and-from (is_formed b.run) true (formed_is b begun shape) refl;
  longest = refl;
  head = b.run;
  later = [];
  split = refl;
  begins = refl;
}
longest_from b (e ∷ es) begun shape = elim (cases_Bool (joins b e)) [
  | inl on ↦ rw on (longest_from (run_with_event b e) es (grown_begun b e begun on) (grown_shape b e begun on))
  | inr off ↦
      let rs : List EventRun = runs_from (run_of_one e) es in
      let more : Longest e rs = longest_from (run_of_one e) es (single_begun e) (single_shape e) in
      let stops : stops_before b.run rs ≡ true =
      ap (stops_before b.run) more.split
      ∙ ap (λ (x : Event). not (joins (begun_by b.run) x)) more.begins
      ∙ ap (λ (x : Begun). not (joins x e)) (begun_is b begun)
      ∙ not_from_false (joins b e) off in
      rw off (record {
        formed = and-from (is_formed b.run) (list_all is_formed rs) (formed_is b begun shape) more.formed;
        longest = and-from (stops_before b.run rs) (are_longest rs) stops more.longest;
        head = b.run;
        later = rs;
        split = refl;
        begins = refl;
      })
]

runs_formed : (es : List Event) → (list_all is_formed (runs_of es) ≡ true) × (are_longest (runs_of es) ≡ true)
runs_formed [] = (refl, refl)
runs_formed (e ∷ es) =
    let all = longest_from (run_of_one e) es (single_begun e) (single_shape e) in
    (all.formed, all.longest)

pub one_cut : (es : List Event) → IsCutOf es (runs_of es)
one_cut es = let both = runs_formed es in record { stands = events_again es; formed = both.0; longest = both.1 }

pub only_cut : (es : List Event) (rs : List EventRun) → IsCutOf es rs → rs ≡ runs_of es
only_cut es rs c = sym (runs_again rs c.formed c.longest) ∙ ap runs_of c.stands

-- where the steps of the events fit their type, so do those of their runs

abbrev is_small : EventRun → Bool
is_small r = nat_lt (last_step r) (2 ^ 32)

small_from : (b : Begun) (es : List Event) → IsBegun b → b.last < 2 ^ 32 → AllByRecursion IsSmall es → list_all is_small (runs_from b es) ≡ true
small_from b [] begun small all = and-from (is_small b.run) true (small_is b begun small) refl
small_from b (e ∷ es) begun small all = elim (cases_Bool (joins b e)) [
  | inl on ↦ rw on (small_from (run_with_event b e) es (grown_begun b e begun on) all.0 all.1)
  | inr off ↦
      let rs : List EventRun = runs_from (run_of_one e) es in
      rw off (and-from (is_small b.run) (list_all is_small rs) (small_is b begun small) (small_from (run_of_one e) es (single_begun e) all.0 all.1))
]

runs_small : (es : List Event) → AllByRecursion IsSmall es → list_all is_small (runs_of es) ≡ true
runs_small [] small = refl
runs_small (e ∷ es) small = small_from (run_of_one e) es (single_begun e) small.0 small.1

all_runs : (rs : List EventRun) → list_all is_formed rs ≡ true → list_all is_small rs ≡ true → list_all is_run rs ≡ true
all_runs [] formed small = refl
all_runs (r ∷ rs) formed small =
    let f = and-parts (is_formed r) (list_all is_formed rs) formed in
    let s = and-parts (is_small r) (list_all is_small rs) small in
    and-from (is_run r) (list_all is_run rs) (and-from (is_formed r) (is_small r) f.0 s.0) (all_runs rs f.1 s.1)

pub all_formed : (rs : List EventRun) → list_all is_run rs ≡ true → list_all is_formed rs ≡ true
all_formed [] good = refl
all_formed (r ∷ rs) good =
    let both = and-parts (is_run r) (list_all is_run rs) good in
    and-from (is_formed r) (list_all is_formed rs) (formed_run r both.0) (all_formed rs both.1)

pub runs_good : (es : List Event) → AllByRecursion IsSmall es → (list_all is_run (runs_of es) ≡ true) × (are_longest (runs_of es) ≡ true)
runs_good es small = let both = runs_formed es in (all_runs (runs_of es) both.0 (runs_small es small), both.1)

-- ---- runs that pass the tests

pub are_all_runs : (rs : List EventRun) → are_runs rs ≡ true → list_all is_run rs ≡ true
are_all_runs rs h =
    (and-parts (nat_le (total rs) max_events) (list_all is_run rs)
    (and-parts (nat_le (total rs) max_events && list_all is_run rs) (are_longest rs) h).0).1

pub is_cut : (rs : List EventRun) → are_runs rs ≡ true → IsCut rs
is_cut rs h =
    sym (runs_again rs (all_formed rs (are_all_runs rs h)) (and-parts (nat_le (total rs) max_events && list_all is_run rs) (are_longest rs) h).1)

-- ---- how many events and runs there are

steps-length : (step stride n : ℕ) → length (steps_from step stride n) ≡ n
steps-length step apart zero = refl
steps-length step apart (suc n) = ap suc (steps-length (step + apart) apart n)

pub events-length : (rs : List EventRun) → length (events_in rs) ≡ total rs
events-length [] = refl
events-length (r ∷ rs) =
    let one : length (run_events r) ≡ r.count = length-map (steps_from r.first.step r.stride r.count) (at_step r.first) ∙ steps-length r.first.step r.stride r.count in
    omega (arith, length-append (run_events r) (events_in rs), one, events-length rs)
