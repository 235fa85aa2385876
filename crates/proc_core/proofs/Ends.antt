-- A run to its end, step by step.
use Rattle.std.proofs.Common.{◌≡◌, ℕ, ◌+◌, ◌<◌, ◌≤◌, List, [], ◌++◌, sym, ap, ◌∙◌, subst, Bool, true, false, arith, append_assoc}
use Rattle.std.specs.Prelude.{Some, None, is_some, ◌||◌}
use Rattle.proc_core.specs.Types.{Event}
use Rattle.run_model.specs.Core.{have_all_ended, is_over}
use Rattle.run_model.specs.Database.{Base}
use Rattle.run_model.specs.Events.{events, events_of_step}
use Rattle.run_model.specs.Run.{move, run, steps}
use Rattle.run_model.specs.State.{State}
use Rattle.proc_core.specs.declared.machine.Machine.{Machine}
use Rattle.run_model.specs.declared.name.ProcName.{ProcName}
use Rattle.proc_core.specs.declared.error.Stopped.TheVariants.{Diverged}
use Rattle.proc_core.specs.Running.{Stands, has_ended}
use Rattle.proc_core.specs.Stands.{AppendsEvents}
use Rattle.proc_core.specs.Stops.{HasStopped}
use Rattle.proc_core.proofs.Advances.{all_ended_same}
use Rattle.proc_core.proofs.Runs.{run_more, run_all, events_more, events_all, steps_more, steps_all}
use Rattle.proc_core.proofs.StepSame.{over_same}

-- what `has_ended` says of the states that a run stands in
pub ends_so : {Db : Type 0} (m : Machine) (db : Db) (b : Bool) → b ≡ has_ended m → (s : State Db) → Stands m db s → b ≡ have_all_ended s.core
ends_so m db b is s here = is ∙ all_ended_same m s.core here.ready

module _ {Db : Type 0} (base : Base Db) (m0 m : Machine) (db0 db : Db) (n budget : ℕ) where
  -- the run is where the definition is after n steps
  abbrev pub Reaches : Type 0
  Reaches = (s : State Db) → Stands m0 db0 s → Stands m db (run base n [] s)

  -- what `ended` returned
  abbrev pub Says : Bool → Type 0
  Says b = (s : State Db) → Stands m db s → b ≡ have_all_ended s.core

  pub over_as : (b v : Bool) → Reaches → Says b → b ≡ v → (s : State Db) → Stands m0 db0 s → is_over (run base n [] s).core ≡ v
  over_as b v reaches says is s from =
      let here : Stands m db (run base n [] s) = reaches s from in
      over_same m (run base n [] s).core here.state.0 ∙ sym (says (run base n [] s) here) ∙ is

  pub end_state : (b : Bool) → n ≤ budget → Reaches → Says b → b ≡ true → (s : State Db) → Stands m0 db0 s → Stands m db (run base budget [] s)
  end_state b within reaches says is s from =
      subst (Stands m db) (sym (run_all base n budget s within (over_as b true reaches says is s from))) (reaches s from)

  pub end_all : (b : Bool) → n ≤ budget → Reaches → Says b → b ≡ true → (s : State Db) → Stands m0 db0 s → have_all_ended (run base budget [] s).core ≡ true
  end_all b within reaches says is s from =
      let here : Stands m db (run base budget [] s) = end_state b within reaches says is s from in
      sym (says (run base budget [] s) here) ∙ is

  pub end_told : (b keeps : Bool) (old new : List Event) → n ≤ budget → Reaches → Says b → b ≡ true
      → ((s : State Db) → Stands m0 db0 s → AppendsEvents keeps old new (events base n 1 [] s))
      → (s : State Db) → Stands m0 db0 s → AppendsEvents keeps old new (events base budget 1 [] s)
  end_told b keeps old new within reaches says is told s from =
      subst (AppendsEvents keeps old new) (sym (events_all base n budget 1 s within (over_as b true reaches says is s from))) (told s from)

  pub end_steps : (b : Bool) (count : ℕ) → n ≤ budget → Reaches → Says b → b ≡ true → count ≡ n
      → ((s : State Db) → Stands m0 db0 s → steps base n [] s ≡ n)
      → (s : State Db) → Stands m0 db0 s → count ≡ steps base budget [] s
  end_steps b count within reaches says is counts made s from =
      counts ∙ sym (made s from) ∙ sym (steps_all base n budget s within (over_as b true reaches says is s from))

  pub end_not : (b : Bool) → n ≡ budget → Reaches → Says b → b ≡ false → (s : State Db) → Stands m0 db0 s → is_over (run base budget [] s).core ≡ false
  end_not b all reaches says is s from =
      ap (λ (k : ℕ). is_over (run base k [] s).core) (sym all) ∙ over_as b false reaches says is s from

  -- one more step
  pub more_state : (b : Bool) (m1 : Machine) (db1 : Db) → Reaches → Says b → b ≡ false
      → ((s : State Db) → Stands m db s → Stands m1 db1 (move base None s).state)
      → (s : State Db) → Stands m0 db0 s → Stands m1 db1 (run base (n + 1) [] s)
  more_state b m1 db1 reaches says is moves s from =
      subst (Stands m1 db1) (sym (run_more base n s (over_as b false reaches says is s from))) (moves (run base n [] s) (reaches s from))

  pub more_told : (b keeps : Bool) (old mid new : List Event) (count : ℕ) → Reaches → Says b → b ≡ false → count ≡ n
      → ((s : State Db) → Stands m0 db0 s → AppendsEvents keeps old mid (events base n 1 [] s))
      → ((s : State Db) → Stands m db s → AppendsEvents keeps mid new (events_of_step (count + 1) (move base None s)))
      → (s : State Db) → Stands m0 db0 s → AppendsEvents keeps old new (events base (n + 1) 1 [] s)
  more_told b keeps old mid new count reaches says is counts told moves s from = λ on.
      let going : is_over (run base n [] s).core ≡ false = over_as b false reaches says is s from in
      let at : count + 1 ≡ 1 + n = omega (arith, counts) in
      moves (run base n [] s) (reaches s from) on
      ∙ (λ i. told s from on i ++ events_of_step (at i) (move base None (run base n [] s)))
      ∙ append_assoc old (events base n 1 [] s) (events_of_step (1 + n) (move base None (run base n [] s)))
      ∙ ap (λ (l : List Event). old ++ l) (sym (events_more base n 1 s going))

  pub more_made : (b : Bool) → Reaches → Says b → b ≡ false
      → ((s : State Db) → Stands m0 db0 s → steps base n [] s ≡ n)
      → (s : State Db) → Stands m0 db0 s → steps base (n + 1) [] s ≡ n + 1
  more_made b reaches says is made s from =
      steps_more base n s (over_as b false reaches says is s from) ∙ ap (λ (k : ℕ). k + 1) (made s from)

  -- the database has no reply to the next step
  pub end_stopped : (b : Bool) (process : ProcName) (index : ℕ) → n < budget → Reaches → Says b → b ≡ false
      → ((s : State Db) → Stands m db s → HasStopped (Diverged process index) (move base None s).state)
      → (s : State Db) → Stands m0 db0 s → (run base budget [] s).core.diverged ≡ Some (record { process = process.parts; index = index })
  end_stopped b process index within reaches says is stops s from =
      let one : run base (n + 1) [] s ≡ (move base None (run base n [] s)).state = run_more base n s (over_as b false reaches says is s from) in
      let at : (run base (n + 1) [] s).core.diverged ≡ Some (record { process = process.parts; index = index }) =
      ap (λ (t : State Db). t.core.diverged) one ∙ stops (run base n [] s) (reaches s from) in
      let over : is_over (run base (n + 1) [] s).core ≡ true = ap (λ o. is_some o || have_all_ended (run base (n + 1) [] s).core) at in
      let fits : n + 1 ≤ budget = omega (arith, within) in
      ap (λ (t : State Db). t.core.diverged) (run_all base (n + 1) budget s fits over) ∙ at
