-- Events that are read one after another and joined to runs as they come.
use Rattle.std.proofs.Common.{◌≡◌, ℕ, suc, ◌+◌, ◌-◌, ◌≤◌, ◌<◌, List, [], ◌∷◌, ◌++◌, Some, None, Err, refl, sym, ap, ◌∙◌, arith}
use Rattle.run_model.specs.declared.event.Event.{Event}
use Rattle.package_codec.specs.declared.trace.cutting.Cut.{Cut}
use Rattle.package_codec.specs.declared.decode_stop.DecodeStop.{DecodeStop}
use Rattle.package_codec.specs.declared.decode_stop.DecodeStop.TheVariants.{NoMemory, Malformed}
use Rattle.package_codec.specs.inner.Cutting.{cut_onto}
use Rattle.package_codec.specs.Events.{event_at}
use Rattle.package_codec.specs.Fields.{DecodeResult, ◌>>=◌, Decodes, items_at, made_at}
use Rattle.package_codec.specs.Runs.{EventRun, runs_of}

-- the runs of what was read before and of what is still read
abbrev pub with_cut : Cut → DecodeResult (List Event) → DecodeResult (List EventRun)
with_cut cut read = read >>= λ x. Some (cut_onto cut x.0, x.1)

abbrev pub due : ℕ → List ℕ → DecodeResult (List EventRun)
due count bytes = made_at (λ events. Some (runs_of events)) (items_at event_at count) bytes

abbrev pub at_first : List EventRun → Cut
at_first none = record { done = none; begun = None }

first_by : (none : List EventRun) (read : DecodeResult (List Event)) → none ≡ [] → with_cut (at_first none) read ≡ (read >>= λ a. Some (runs_of a.0) >>= λ b. Some (b, a.1))
first_by none None is = refl
first_by none (Some x) is = ap (λ (l : List EventRun). Some (l ++ runs_of x.0, x.1)) is

pub begins : (none : List EventRun) (count : ℕ) (bytes : List ℕ) → none ≡ [] → with_cut (at_first none) (items_at event_at (count - 0) bytes) ≡ due count bytes
begins none count bytes is =
    let k : count - 0 ≡ count = omega arith in
    ap (λ (n : ℕ). with_cut (at_first none) (items_at event_at n bytes)) k ∙ first_by none (items_at event_at count bytes) is

regroup : (cut new : Cut) (e : Event) (read : DecodeResult (List Event)) → ((es : List Event) → cut_onto new es ≡ cut_onto cut (e ∷ es))
    → with_cut cut (read >>= λ y. Some (e ∷ y.0, y.1)) ≡ with_cut new read
regroup cut new e None same = refl
regroup cut new e (Some y) same = ap (λ (l : List EventRun). Some (l, y.1)) (sym (same y.0))

pub with_cut-next : (cut new : Cut) (count i : ℕ) (bytes : List ℕ) (e : Event) (after : List ℕ) (total : DecodeResult (List EventRun)) → i < count → event_at bytes ≡ Some (e, after)
    → ((es : List Event) → cut_onto new es ≡ cut_onto cut (e ∷ es))
    → with_cut cut (items_at event_at (count - i) bytes) ≡ total → with_cut new (items_at event_at (count - (i + 1)) after) ≡ total
with_cut-next cut new count i bytes e after total lt h same so_far =
    let k : count - i ≡ suc (count - (i + 1)) = omega arith in
    let one : with_cut cut (items_at event_at (count - i) bytes) ≡ with_cut new (items_at event_at (count - (i + 1)) after) = rw (k, h) (regroup cut new e (items_at event_at (count - (i + 1)) after) same) in
    sym one ∙ so_far

at_end : (cut : Cut) (count i : ℕ) (bytes : List ℕ) (total : DecodeResult (List EventRun)) → i < count → event_at bytes ≡ None
    → with_cut cut (items_at event_at (count - i) bytes) ≡ total → total ≡ None
at_end cut count i bytes total lt h so_far =
    let k : count - i ≡ suc (count - (i + 1)) = omega arith in
    let one : with_cut cut (items_at event_at (count - i) bytes) ≡ None = rw (k, h) refl in
    sym so_far ∙ one

pub ends : (cut : Cut) (count i : ℕ) (bytes left end : List ℕ) (total : DecodeResult (List EventRun)) (e : DecodeStop) → i < count → Decodes {X = Event} (Err e) left (event_at bytes)
    → with_cut cut (items_at event_at (count - i) bytes) ≡ total → Decodes {X = List EventRun} (Err e) end total
ends cut count i bytes left end total NoMemory lt h so_far = tt
ends cut count i bytes left end total Malformed lt h so_far = at_end cut count i bytes total lt h so_far

pub is_done : (cut : Cut) (runs : List EventRun) (count i : ℕ) (bytes : List ℕ) (total : DecodeResult (List EventRun)) → count ≤ i → runs ≡ cut_onto cut []
    → with_cut cut (items_at event_at (count - i) bytes) ≡ total → total ≡ Some (runs, bytes)
is_done cut runs count i bytes total le all so_far =
    let k : count - i ≡ 0 = omega arith in
    let one : with_cut cut (items_at event_at (count - i) bytes) ≡ Some (runs, bytes) = rw k (ap (λ (l : List EventRun). Some (l, bytes)) (sym all)) in
    sym so_far ∙ one
