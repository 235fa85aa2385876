-- The events of a run have one act: if the first one is plain, all of them are.
use Rattle.std.proofs.Common.{◌≡◌, ℕ, zero, suc, ◌+◌, ◌≤◌, Bool, true, false, List, [], ◌∷◌, map, refl, ap, ◌∙◌, arith, ◌&&◌}
use Rattle.std.specs.List.{list_all}
use Rattle.std.proofs.lemmas.List.Folds.{list_all-append}
use Rattle.ldv_value.proofs.Booleans.{and-parts, and-true}
use Rattle.run_model.specs.declared.event.Event.{Event}
use Rattle.package_codec.specs.Plain.{is_plain_act, is_plain_event}
use Rattle.package_codec.specs.Runs.{EventRun, steps_from, at_step, run_events, events_in, is_run}
use Rattle.package_codec.proofs.Runs.{run_some}

and-same : (b : Bool) → (b && b) ≡ b
and-same true = refl
and-same false = refl

some_plain : (e : Event) (step stride n : ℕ)
    → list_all is_plain_event (map (at_step e) (steps_from step stride (suc n))) ≡ is_plain_act e.act
some_plain e step stride zero = and-true (is_plain_act e.act)
some_plain e step stride (suc n) =
    ap (λ (b : Bool). is_plain_act e.act && b) (some_plain e (step + stride) stride n) ∙ and-same (is_plain_act e.act)

count_plain : (e : Event) (step stride n : ℕ) → 1 ≤ n
    → list_all is_plain_event (map (at_step e) (steps_from step stride n)) ≡ is_plain_act e.act
count_plain e step stride zero some = absurd (omega (arith, some))
count_plain e step stride (suc n) some = some_plain e step stride n

pub plain_events : (rs : List EventRun) → list_all is_run rs ≡ true
    → list_all is_plain_event (events_in rs) ≡ list_all (λ r. is_plain_act r.first.act) rs
plain_events [] good = refl
plain_events (r ∷ rs) good =
    let both = and-parts (is_run r) (list_all is_run rs) good in
    let one : list_all is_plain_event (run_events r) ≡ is_plain_act r.first.act =
    count_plain r.first r.first.step r.stride r.count (run_some r both.0) in
    list_all-append is_plain_event (run_events r) (events_in rs) ∙ (λ j. one j && plain_events rs both.1 j)
