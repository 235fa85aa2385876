-- The processes of a trace are within their limit.
use Rattle.std.proofs.Common.{◌≡◌, ℕ, ◌+◌, ◌<◌, List, [], ◌∷◌, true, refl, arith, IsTrue}
use Rattle.std.specs.Prelude.{◌&&◌, ◌==◌, nat_lt, nat_le}
use Rattle.std.proofs.lemmas.Bool.{le-leb, ltb-true}
use Rattle.ldv_value.proofs.Booleans.{and-first, and-second, and-from, false≢true}
use Rattle.ldv_value.specs.Limits.{max_processes}
use Rattle.ldv_value.specs.Names.{path_test}
use Rattle.run_model.specs.declared.event.Act.TheVariants as acts
use Rattle.run_model.specs.ValidTrace.{Progress, progress_after, act_rule, event_rule, made_after, follows, at_start}
use Rattle.run_model.specs.ValidTrace.{starts, starts_on, trace_test, are_named, IsTrace}
use Rattle.trace_graph.specs.Types.{Act, Event}
use Rattle.trace_graph.specs.inner.Building.{made_fits}

one_more : (m : ℕ) → nat_lt m max_processes ≡ true → nat_le (m + 1) max_processes ≡ true
one_more m below = let less : m < max_processes = ltb-true m max_processes below in le-leb (m + 1) max_processes (omega (arith, less))

act_fits : (before : Progress) (act : Act) → nat_le before.made max_processes ≡ true → act_rule before act ≡ true
    → nat_le (made_after before.made act) max_processes ≡ true
act_fits before (acts.Spawned path) fits rule = one_more before.made (and-second (path_test path) (nat_lt before.made max_processes) rule)
act_fits before (acts.Started path) fits rule = fits
act_fits before (acts.Unspawned path found) fits rule = fits
act_fits before (acts.OpenedRead path) fits rule = fits
act_fits before (acts.OpenedWrite path) fits rule = fits
act_fits before (acts.OpenedAppend path found) fits rule = fits
act_fits before (acts.OpenedNew path) fits rule = fits
act_fits before (acts.Unopened path found) fits rule = fits
act_fits before (acts.Read path) fits rule = fits
act_fits before (acts.Wrote path) fits rule = fits
act_fits before (acts.Removed path) fits rule = fits
act_fits before (acts.Tested path found) fits rule = fits
act_fits before (acts.Waited child) fits rule = fits
act_fits before (acts.Ended status) fits rule = fits
act_fits before (acts.Asked statement tables reads made) fits rule = fits

events_fit : (steps : ℕ) (before : Progress) (es : List Event) → nat_le before.made max_processes ≡ true
    → follows steps before es ≡ true → made_fits before.made es ≡ true
events_fit steps before [] fits rules = refl
events_fit steps before (e ∷ es) fits rules =
    let here = and-first (event_rule steps before e) (follows steps (progress_after before e) es) rules in
    let others = and-second (event_rule steps before e) (follows steps (progress_after before e) es) rules in
    let rule = and-second (nat_le before.step e.step && nat_le e.step steps && nat_lt e.process before.made) (act_rule before e.act) here in
    let next : nat_le (made_after before.made e.act) max_processes ≡ true = act_fits before e.act fits rule in
    and-from (nat_le (made_after before.made e.act) max_processes) (made_fits (made_after before.made e.act) es)
    next (events_fit steps (progress_after before e) es next others)

start_fits : (path : List ℕ) (act : Act) (es : List Event) → starts_on path act ≡ true → made_fits 1 es ≡ true
    → (nat_le (made_after 1 act) max_processes && made_fits (made_after 1 act) es) ≡ true
start_fits path (acts.Started started) es on rest = rest
start_fits path (acts.Spawned spawned) es on rest = absurd (false≢true on)
start_fits path (acts.Unspawned other found) es on rest = rest
start_fits path (acts.OpenedRead other) es on rest = rest
start_fits path (acts.OpenedWrite other) es on rest = rest
start_fits path (acts.OpenedAppend other found) es on rest = rest
start_fits path (acts.OpenedNew other) es on rest = rest
start_fits path (acts.Unopened other found) es on rest = rest
start_fits path (acts.Read other) es on rest = rest
start_fits path (acts.Wrote other) es on rest = rest
start_fits path (acts.Removed other) es on rest = rest
start_fits path (acts.Tested other found) es on rest = rest
start_fits path (acts.Waited child) es on rest = rest
start_fits path (acts.Ended status) es on rest = rest
start_fits path (acts.Asked statement tables reads made) es on rest = rest

test_fits : (path : List ℕ) (steps : ℕ) (events : List Event) → trace_test path steps events ≡ true → made_fits 1 events ≡ true
test_fits path steps [] valid = absurd (false≢true valid)
test_fits path steps (e ∷ es) valid =
    let first = and-first (starts path e) (follows steps at_start es) valid in
    let on = and-second (e.step == 0 && e.process == 0) (starts_on path e.act) first in
    start_fits path e.act es on (events_fit steps at_start es refl (and-second (starts path e) (follows steps at_start es) valid))

pub trace_fits : (events : List Event) → IsTrace events → IsTrue (made_fits 1 events)
trace_fits events trace = test_fits trace.0 trace.1 events (and-first (trace_test trace.0 trace.1 events) (are_named events) trace.3)
