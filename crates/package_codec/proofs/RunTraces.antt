-- The rules for traces over runs: they hold for all events of a run if they hold for the first and the last.
use Rattle.std.proofs.Common.{◌≡◌, ℕ, zero, suc, ◌+◌, ◌<◌, ◌≤◌, Bool, true, false, cond, List, ◌∷◌, ◌++◌, length, map, Option, Some, None, refl, sym, ap, ◌∙◌, arith, ◌&&◌}
use Rattle.std.specs.Prelude.{◌==◌, nat_le, nat_lt}
use Rattle.std.proofs.lemmas.Bool.{leb-true, le-leb, ltb-true, lt-ltb, ne_eqb}
use Rattle.ldv_value.specs.Limits.{max_processes}
use Rattle.ldv_value.specs.Names.{path_test}
use Rattle.std.specs.List.{list_all}
use Rattle.ldv_value.proofs.Options.{same-some}
use Rattle.ldv_value.proofs.Booleans.{and-parts, and-from, and-true, and-false}
use Rattle.run_model.specs.Acts.{is_spawn}
use Rattle.run_model.specs.declared.event.Act.{Act}
use Rattle.run_model.specs.declared.event.Act.TheVariants as acts
use Rattle.run_model.specs.declared.event.Event.{Event}
use Rattle.run_model.proofs.ActLaws.{made_spawned}
use Rattle.package_codec.specs.Runs.{EventRun, steps_from, at_step, run_events, events_in, last_step, is_run}
use Rattle.package_codec.specs.inner.EventRunTrace.{spawns_fit, made_by, run_rule, progress_by}
use Rattle.package_codec.specs.inner.Trace.{Progress, act_rule, event_rule, made_after, is_asked, asked_after, progress_after, follows, at_start, starts_on, starts, trace_test, asked_among}
use Rattle.package_codec.proofs.Runs.{last_from, last_step-is, run_some}
use Rattle.package_codec.proofs.RunFields.{unasked_run}

-- ---- the same act once more

made_once : (made : ℕ) (act : Act) → made_after made act ≡ made + made_by act 1
made_once made act = made_spawned made act

-- so many processes are made by an act that is there so many times
by_times : (made : ℕ) (spawned : Bool) (n : ℕ) → (made + cond spawned 1 0) + cond spawned n 0 ≡ made + cond spawned (suc n) 0
by_times made true n = omega arith
by_times made false n = omega arith

made_more : (made : ℕ) (act : Act) (n : ℕ) → made_after made act + made_by act n ≡ made + made_by act (suc n)
made_more made act n = ap (λ (k : ℕ). k + made_by act n) (made_once made act) ∙ by_times made (is_spawn act) n

fits_times : (made : ℕ) (spawned : Bool) (n : ℕ) → cond spawned (nat_le ((made + cond spawned 1 0) + n) max_processes) true ≡ cond spawned (nat_le (made + suc n) max_processes) true
fits_times made true n = let same : (made + 1) + n ≡ made + suc n = omega arith in ap (λ (k : ℕ). nat_le k max_processes) same
fits_times made false n = refl

spawns_more : (made : ℕ) (act : Act) (n : ℕ) → spawns_fit (made_after made act) act n ≡ spawns_fit made act (suc n)
spawns_more made act n = ap (λ (k : ℕ). spawns_fit k act n) (made_once made act) ∙ fits_times made (is_spawn act) n

spawns_once : (before : Progress) (act : Act) → act_rule before act ≡ true → spawns_fit before.made act 1 ≡ true
spawns_once before (acts.Started path) h = refl
spawns_once before (acts.Spawned path) h =
    let both = and-parts (path_test path) (nat_lt before.made max_processes) h in
    let less : before.made < max_processes = ltb-true before.made max_processes both.1 in
    le-leb (before.made + 1) max_processes (omega (arith, less))
spawns_once before (acts.Unspawned path found) h = refl
spawns_once before (acts.OpenedRead path) h = refl
spawns_once before (acts.OpenedWrite path) h = refl
spawns_once before (acts.OpenedAppend path found) h = refl
spawns_once before (acts.OpenedNew path) h = refl
spawns_once before (acts.Unopened path found) h = refl
spawns_once before (acts.Read path) h = refl
spawns_once before (acts.Wrote path) h = refl
spawns_once before (acts.Removed path) h = refl
spawns_once before (acts.Tested path found) h = refl
spawns_once before (acts.Waited child) h = refl
spawns_once before (acts.Ended status) h = refl
spawns_once before (acts.Asked statement tables reads made) h = refl

abbrev later : Progress → Act → ℕ → Progress
later before act step = record { made = made_after before.made act; asked = asked_after before.asked (is_asked act); step = step }

act_again : (before : Progress) (step n : ℕ) (act : Act) → is_asked act ≡ false → act_rule before act ≡ true → spawns_fit before.made act (suc (suc n)) ≡ true
    → act_rule (later before act step) act ≡ true
act_again before step n (acts.Started path) un h fits = absurd cc
act_again before step n (acts.Spawned path) un h fits =
    let both = and-parts (path_test path) (nat_lt before.made max_processes) h in
    let within : before.made + suc (suc n) ≤ max_processes = leb-true (before.made + suc (suc n)) max_processes fits in
    and-from (path_test path) (nat_lt (before.made + 1) max_processes) both.0 (lt-ltb (before.made + 1) max_processes (omega (arith, within)))
act_again before step n (acts.Unspawned path found) un h fits = h
act_again before step n (acts.OpenedRead path) un h fits = h
act_again before step n (acts.OpenedWrite path) un h fits = h
act_again before step n (acts.OpenedAppend path found) un h fits = h
act_again before step n (acts.OpenedNew path) un h fits = h
act_again before step n (acts.Unopened path found) un h fits = h
act_again before step n (acts.Read path) un h fits = h
act_again before step n (acts.Wrote path) un h fits = h
act_again before step n (acts.Removed path) un h fits = h
act_again before step n (acts.Tested path found) un h fits = h
act_again before step n (acts.Waited child) un h fits = h
act_again before step n (acts.Ended status) un h fits = h
act_again before step n (acts.Asked statement tables reads made) un h fits = absurd cc

-- ---- the same event once more

last_later : (step stride n : ℕ) → step ≤ last_from step stride n
last_later step stride zero = omega arith
last_later step stride (suc n) = omega (arith, last_later (step + stride) stride n)

record Parts (steps : ℕ) (before : Progress) (e : Event) : Type 0 where
  after : before.step ≤ e.step
  within : e.step ≤ steps
  made : e.process < before.made
  act : act_rule before e.act ≡ true

parts : (steps : ℕ) (before : Progress) (e : Event) → event_rule steps before e ≡ true → Parts steps before e
parts steps before e h =
    let one = and-parts (nat_le before.step e.step && nat_le e.step steps && nat_lt e.process before.made) (act_rule before e.act) h in
    let two = and-parts (nat_le before.step e.step && nat_le e.step steps) (nat_lt e.process before.made) one.0 in
    let three = and-parts (nat_le before.step e.step) (nat_le e.step steps) two.0 in
    record {
      after = leb-true before.step e.step three.0;
      within = leb-true e.step steps three.1;
      made = ltb-true e.process before.made two.1;
      act = one.1;
    }

whole : (steps : ℕ) (before : Progress) (e : Event) → Parts steps before e → event_rule steps before e ≡ true
whole steps before e p =
    and-from (nat_le before.step e.step && nat_le e.step steps && nat_lt e.process before.made) (act_rule before e.act)
    (and-from (nat_le before.step e.step && nat_le e.step steps) (nat_lt e.process before.made)
    (and-from (nat_le before.step e.step) (nat_le e.step steps) (le-leb before.step e.step p.after) (le-leb e.step steps p.within))
    (lt-ltb e.process before.made p.made))
    p.act

module _ (steps stride : ℕ) (e : Event) where
  event_again : (before : Progress) (step n : ℕ) → is_asked e.act ≡ false → event_rule steps before (at_step e step) ≡ true → step + stride ≤ steps
      → spawns_fit before.made e.act (suc (suc n)) ≡ true → event_rule steps (progress_after before (at_step e step)) (at_step e (step + stride)) ≡ true
  event_again before step n un h within fits =
      let p = parts steps before (at_step e step) h in
      whole steps (progress_after before (at_step e step)) (at_step e (step + stride)) (record {
        after = omega arith;
        within = within;
        made = omega (arith, p.made, made_once before.made e.act);
        act = act_again before step n e.act un p.act fits;
      })

-- ---- all events of a run

abbrev after_all : Progress → Event → ℕ → ℕ → Progress
after_all before e times last = record { made = before.made + made_by e.act times; asked = asked_after before.asked (is_asked e.act); step = last }

regroup_first : (a l s f : Bool) → (a ≡ true → l ≡ true) → (a ≡ true → s ≡ true) → (a && f) ≡ ((a && l && s) && f)
regroup_first true l s f h k = rw (h refl, k refl) refl
regroup_first false l s f h k = refl

regroup : (a b l s f : Bool) → (a ≡ true → l ≡ true → s ≡ true → b ≡ true) → (a && ((b && l && s) && f)) ≡ ((a && l && s) && f)
regroup true true l s f h = refl
regroup true false true true f h = let no : false ≡ true = h refl refl refl in absurd cc
regroup true false true false f h = refl
regroup true false false s f h = refl
regroup false b l s f h = refl

asked_same : (asked : ℕ) (b : Bool) → b ≡ false → asked_after (asked_after asked b) b ≡ asked_after asked b
asked_same asked true un = absurd cc
asked_same asked false un = refl

module _ (steps stride : ℕ) (e : Event) (es : List Event) where
  follows_times : (n : ℕ) (before : Progress) (step : ℕ) → (0 < n → is_asked e.act ≡ false)
      → follows steps before (map (at_step e) (steps_from step stride (suc n)) ++ es)
      ≡ ((event_rule steps before (at_step e step) && nat_le (last_from step stride n) steps && spawns_fit before.made e.act (suc n))
      && follows steps (after_all before e (suc n) (last_from step stride n)) es)
  follows_times zero before step un =
      let a = event_rule steps before (at_step e step) in
      let same : progress_after before (at_step e step) ≡ after_all before e 1 step = λ j. record { made = made_once before.made e.act j; asked = asked_after before.asked (is_asked e.act); step = step } in
      ap (λ (p : Progress). a && follows steps p es) same
      ∙ regroup_first a (nat_le step steps) (spawns_fit before.made e.act 1) (follows steps (after_all before e 1 step) es)
      (λ h. le-leb step steps (parts steps before (at_step e step) h).within)
      (λ h. spawns_once before e.act (parts steps before (at_step e step) h).act)
  follows_times (suc n) before step un =
      let none : is_asked e.act ≡ false = un (omega arith) in
      let a = event_rule steps before (at_step e step) in
      let next : Progress = progress_after before (at_step e step) in
      let b = event_rule steps next (at_step e (step + stride)) in
      let last : ℕ = last_from (step + stride) stride n in
      let l = nat_le last steps in
      let s = spawns_fit before.made e.act (suc (suc n)) in
      let f = follows steps (after_all before e (suc (suc n)) last) es in
      let same : after_all next e (suc n) last ≡ after_all before e (suc (suc n)) last =
      λ j. record { made = made_more before.made e.act (suc n) j; asked = asked_same before.asked (is_asked e.act) none j; step = last } in
      ap (λ (x : Bool). a && x) (follows_times n next (step + stride) (λ more. none))
      ∙ (λ j. a && ((b && l && spawns_more before.made e.act (suc n) j) && follows steps (same j) es))
      ∙ regroup a b l s f (λ h within fits.
      let reach : last ≤ steps = leb-true last steps within in
      event_again steps stride e before step n none h (omega (arith, reach, last_later (step + stride) stride n)) fits)

  asked_times : (n asked step : ℕ) → (0 < n → is_asked e.act ≡ false)
      → asked_among asked (map (at_step e) (steps_from step stride (suc n)) ++ es) ≡ asked_among (asked_after asked (is_asked e.act)) es
  asked_times zero asked step un = refl
  asked_times (suc n) asked step un =
      asked_times n (asked_after asked (is_asked e.act)) (step + stride) (λ more. un (omega arith))
      ∙ ap (λ (k : ℕ). asked_among k es) (asked_same asked (is_asked e.act) (un (omega arith)))

some_more : (count : ℕ) → 1 ≤ count → (n : ℕ) × (count ≡ suc n)
some_more zero h = absurd (omega (arith, h))
some_more (suc n) h = (n, refl)

pub follows_run : (steps : ℕ) (before : Progress) (r : EventRun) (es : List Event) → is_run r ≡ true
    → follows steps before (run_events r ++ es) ≡ (run_rule steps before r && follows steps (progress_by before r) es)
follows_run steps before r es h =
    let e : Event = r.first in
    let some = some_more r.count (run_some r h) in
    let n = some.0 in
    let times = some.1 in
    let last : last_from e.step r.stride n ≡ last_step r = sym (last_step-is r n times) in
    ap (λ (k : ℕ). follows steps before (map (at_step e) (steps_from e.step r.stride k) ++ es)) times
    ∙ follows_times steps r.stride e es n before e.step (λ more. unasked_run r h (omega (arith, more, times)))
    ∙ (λ j. (event_rule steps before e && nat_le (last j) steps && spawns_fit before.made e.act (sym times j)) && follows steps (after_all before e (sym times j) (last j)) es)

pub asked_run : (asked : ℕ) (r : EventRun) (es : List Event) → is_run r ≡ true
    → asked_among asked (run_events r ++ es) ≡ asked_among (asked_after asked (is_asked r.first.act)) es
asked_run asked r es h =
    let e : Event = r.first in
    let some = some_more r.count (run_some r h) in
    let n = some.0 in
    let times = some.1 in
    ap (λ (k : ℕ). asked_among asked (map (at_step e) (steps_from e.step r.stride k) ++ es)) times
    ∙ asked_times 0 r.stride e es n asked e.step (λ more. unasked_run r h (omega (arith, more, times)))

-- ---- the first run of a trace

once : (path : List ℕ) (before : Progress) (act : Act) → starts_on path act ≡ true → act_rule before act ≡ false
once path before (acts.Started other) h = refl
once path before (acts.Spawned other) h = absurd cc
once path before (acts.Unspawned other found) h = absurd cc
once path before (acts.OpenedRead other) h = absurd cc
once path before (acts.OpenedWrite other) h = absurd cc
once path before (acts.OpenedAppend other found) h = absurd cc
once path before (acts.OpenedNew other) h = absurd cc
once path before (acts.Unopened other found) h = absurd cc
once path before (acts.Read other) h = absurd cc
once path before (acts.Wrote other) h = absurd cc
once path before (acts.Removed other) h = absurd cc
once path before (acts.Tested other found) h = absurd cc
once path before (acts.Waited child) h = absurd cc
once path before (acts.Ended status) h = absurd cc
once path before (acts.Asked statement tables reads made) h = absurd cc

-- nothing follows a start with the same act
not_twice : (s x a y : Bool) → (s ≡ true → a ≡ false) → (s && ((x && a) && y)) ≡ false
not_twice true x a y h = let none : a ≡ false = h refl in rw none (ap (λ (b : Bool). b && y) (and-false x))
not_twice false x a y h = refl

and-and-false : (s f : Bool) → false ≡ ((s && false) && f)
and-and-false true f = refl
and-and-false false f = refl

module _ (path : List ℕ) (steps : ℕ) where
  first_by : (e : Event) (stride : ℕ) (es : List Event) (n : ℕ)
      → trace_test path steps (map (at_step e) (steps_from e.step stride (suc n)) ++ es) ≡ (starts path e && (suc n == 1) && follows steps at_start es)
  first_by e stride es zero = ap (λ (b : Bool). b && follows steps at_start es) (sym (and-true (starts path e)))
  first_by e stride es (suc n) =
      let next : Event = at_step e (e.step + stride) in
      let before : Progress = at_start in
      let early = nat_le before.step next.step && nat_le next.step steps && nat_lt next.process before.made in
      let left : List Event = map (at_step e) (steps_from (e.step + stride + stride) stride n) ++ es in
      not_twice (starts path e) early (act_rule before e.act) (follows steps (progress_after before next) left)
      (λ h. once path before e.act (and-parts ((e.step == 0) && (e.process == 0)) (starts_on path e.act) h).1)
      ∙ and-and-false (starts path e) (follows steps at_start es)
      ∙ ap (λ (b : Bool). starts path e && b && follows steps at_start es) (sym (ne_eqb (suc (suc n)) 1 (λ is. omega (arith, is))))

  trace_first : (r : EventRun) (rs : List EventRun) → is_run r ≡ true
      → trace_test path steps (events_in (r ∷ rs)) ≡ (starts path r.first && (r.count == 1) && follows steps at_start (events_in rs))
  trace_first r rs h =
      let e : Event = r.first in
      let some = some_more r.count (run_some r h) in
      let n = some.0 in
      let times = some.1 in
      ap (λ (k : ℕ). trace_test path steps (map (at_step e) (steps_from e.step r.stride k) ++ events_in rs)) times
      ∙ first_by e r.stride (events_in rs) n
      ∙ ap (λ (k : ℕ). starts path e && (k == 1) && follows steps at_start (events_in rs)) (sym times)

-- ---- the runs that are left

pub good_parts : (left : List EventRun) (r : EventRun) (rs : List EventRun) → left ≡ r ∷ rs → list_all is_run left ≡ true → (is_run r ≡ true) × (list_all is_run rs ≡ true)
good_parts left r rs is good = and-parts (is_run r) (list_all is_run rs) (ap (list_all is_run) (sym is) ∙ good)

pub fewer : (left : List EventRun) (r : EventRun) (rs : List EventRun) (a b n : ℕ) → left ≡ r ∷ rs → b ≤ a + 1 → a + length left ≤ n → b + length rs ≤ n
fewer left r rs a b n is more within = omega (arith, ap length is, more, within)

abbrev kept : Bool → Progress → Option Progress
kept b p = cond b (Some p) None

kept_is : (b : Bool) (p q : Progress) → Some q ≡ kept b p → (b ≡ true) × (p ≡ q)
kept_is true p q e = (refl, same-some p q (sym e))
kept_is false p q e = absurd cc

not_kept : (b : Bool) (p : Progress) → None ≡ kept b p → b ≡ false
not_kept true p e = absurd cc
not_kept false p e = refl

pub next_follows : (steps : ℕ) (before after : Progress) (left : List EventRun) (r : EventRun) (rs : List EventRun) (all : Bool) → left ≡ r ∷ rs → is_run r ≡ true
    → Some after ≡ kept (run_rule steps before r) (progress_by before r) → follows steps before (events_in left) ≡ all → follows steps after (events_in rs) ≡ all
next_follows steps before after left r rs all is h e so_far =
    let k = kept_is (run_rule steps before r) (progress_by before r) after e in
    let one : follows steps before (events_in left) ≡ follows steps (progress_by before r) (events_in rs) =
    ap (λ (l : List EventRun). follows steps before (events_in l)) is ∙ follows_run steps before r (events_in rs) h ∙ ap (λ (b : Bool). b && follows steps (progress_by before r) (events_in rs)) k.0 in
    ap (λ (p : Progress). follows steps p (events_in rs)) (sym k.1) ∙ sym one ∙ so_far

pub last_follows : (steps : ℕ) (before : Progress) (left : List EventRun) (r : EventRun) (rs : List EventRun) (all : Bool) → left ≡ r ∷ rs → is_run r ≡ true
    → None ≡ kept (run_rule steps before r) (progress_by before r) → follows steps before (events_in left) ≡ all → false ≡ all
last_follows steps before left r rs all is h e so_far =
    let one : follows steps before (events_in left) ≡ false =
    ap (λ (l : List EventRun). follows steps before (events_in l)) is ∙ follows_run steps before r (events_in rs) h
    ∙ ap (λ (b : Bool). b && follows steps (progress_by before r) (events_in rs)) (not_kept (run_rule steps before r) (progress_by before r) e) in
    sym one ∙ so_far

pub next_asked : (asked after : ℕ) (left : List EventRun) (r : EventRun) (rs : List EventRun) (all : ℕ) → left ≡ r ∷ rs → is_run r ≡ true
    → after ≡ asked_after asked (is_asked r.first.act) → asked_among asked (events_in left) ≡ all → asked_among after (events_in rs) ≡ all
next_asked asked after left r rs all is h e so_far =
    ap (λ (k : ℕ). asked_among k (events_in rs)) e ∙ sym (asked_run asked r (events_in rs) h)
    ∙ ap (λ (l : List EventRun). asked_among asked (events_in l)) (sym is) ∙ so_far

pub whole_trace : (path : List ℕ) (steps : ℕ) (all : List EventRun) (r : EventRun) (rs : List EventRun) → all ≡ r ∷ rs → list_all is_run all ≡ true
    → (starts path r.first && (r.count == 1) && follows steps at_start (events_in rs)) ≡ trace_test path steps (events_in all)
whole_trace path steps all r rs is good =
    sym (ap (λ (l : List EventRun). trace_test path steps (events_in l)) is ∙ trace_first path steps r rs (good_parts all r rs is good).0)
