-- A run over recorded replies, whatever chooses its steps, is a run of its processes by name.
use Rattle.std.proofs.Common.{◌≡◌, ℕ, zero, suc, ◌+◌, List, [], ◌∷◌, ◌++◌, length, refl, sym, ap, ◌∙◌, subst, true, false, arith, inl, inr}
use Rattle.std.specs.Prelude.{Option, Some, None, is_some, map, slice_get, slice_set}
use Rattle.std.specs.List.{AllByRecursion}
use Rattle.std.proofs.lemmas.Bool.{cases_Bool}
use Rattle.ldv_value.proofs.Booleans.{or-parts}
use Rattle.free_order.specs.Types.{Act, Event, Reply, Entry}
use Rattle.run_model.specs.Core.{Process, Core, have_all_ended, is_over}
use Rattle.run_model.specs.Database.{Answer, Gives, Diverges}
use Rattle.run_model.specs.Events.{event_at, events_of_step, events_after, events}
use Rattle.run_model.specs.LogDatabase.{LogDatabase, log_base}
use Rattle.run_model.specs.Run.{first_pick, later_picks, chosen, move_of, move, run, steps}
use Rattle.run_model.specs.RunLaw.{MayRun}
use Rattle.run_model.specs.Schedule.{choose}
use Rattle.run_model.specs.State.{State, StepResult}
use Rattle.run_model.specs.Step.{Ask, process_with_reply, local_step, next_ask, took_of, told, asking}
use Rattle.run_model.proofs.Equations.{run-zero, run-over, run-suc, steps-zero, steps-over, steps-suc, events-zero, events-over, events-suc}
use Rattle.run_model.proofs.NeverStuck.{Ordered, move_ordered, chosen_runs}
use Rattle.run_laws.proofs.ProcessNames.{Grows, grows_itself, grows_trans, found_later, set_grows, names, names_set, Distinct, Named, named_later}
use Rattle.run_laws.proofs.QuietSteps.{Quiets, quiet_quiets}
use Rattle.run_laws.proofs.LogRuns.{replied_later}
use Rattle.run_model.specs.Acts.{spawned_by}
use Rattle.free_order.specs.Private.{spawned_in}
use Rattle.free_order.proofs.Boards.{Solo, Board, Use, Deed, deed, born_count, applied, May, Owner, Fits, Fit, Goes, Runs}
use Rattle.free_order.proofs.ByName.{at_number, solo_of, board_of, name_at}
use Rattle.free_order.proofs.Mirror.{use_in, uses_of, births_of, AllBelow, Mirrors, step_mirror, step_may}

-- ---- what every state of a run has

pub record Real (c : Core) : Type 0 where
  pub named : Named c.processes
  pub below : AllBelow c.processes
  pub ordered : Ordered c

-- ---- processes stay

record Grown (c d : Core) : Type 0 where
  grows : Grows c.processes d.processes
  named : Named c.processes → Named d.processes

took_grown : (o : Option Process) (k : ℕ) (a : Ask) (reply : Reply) (c : Core) → slice_get c.processes k ≡ o
    → Grown c (took_of o k a reply c)
took_grown None k a reply c is = record { grows = grows_itself c.processes; named = λ named. named }
took_grown (Some p) k a reply c is =
    let q : Process = process_with_reply a reply p in
    let grows : Grows c.processes (slice_set c.processes k q) = set_grows c.processes k p q is (replied_later a reply p) in
    record {
      grows = grows;
      named = named_later c.processes (slice_set c.processes k q) grows (names_set c.processes k p q is refl);
    }

told_grown : (k : ℕ) (a : Ask) (s : State LogDatabase) (x : Answer LogDatabase) → Grown s.core (told k a s x).state.core
told_grown k a s (Gives reply db lists) = took_grown (slice_get s.core.processes k) k a reply s.core refl
told_grown k a s Diverges = record { grows = grows_itself s.core.processes; named = λ named. named }

asking_grown : (k : ℕ) (s : State LogDatabase) (o : Option Ask) → Grown s.core (asking log_base k s o).state.core
asking_grown k s None = let quiets : Quiets s.core (local_step k s.core) = quiet_quiets k s.core in record { grows = quiets.grows; named = quiets.named }
asking_grown k s (Some a) = told_grown k a s (log_base s.db a.question)

move_grown : (k : ℕ) (s : State LogDatabase) → Grown s.core (move_of log_base k s).state.core
move_grown k s =
    let here : Grown (chosen k s).core (move_of log_base k s).state.core = asking_grown k (chosen k s) (next_ask k (chosen k s).core) in
    record { grows = here.grows; named = here.named }

pub run_grows : (n : ℕ) (picks : List ℕ) (s : State LogDatabase) → Grows s.core.processes (run log_base n picks s).core.processes
run_grows zero picks s =
    subst (λ (t : State LogDatabase). Grows s.core.processes t.core.processes) (sym (run-zero log_base picks s)) (grows_itself s.core.processes)
run_grows (suc n) picks s = elim (cases_Bool (is_over s.core)) [
  | inl over ↦
      subst (λ (t : State LogDatabase). Grows s.core.processes t.core.processes) (sym (run-over log_base (suc n) picks s over))
      (grows_itself s.core.processes)
  | inr going ↦
      let one : StepResult LogDatabase = move log_base (first_pick picks) s in
      subst (λ (t : State LogDatabase). Grows s.core.processes t.core.processes) (sym (run-suc log_base n picks s going))
      (grows_trans s.core.processes one.state.core.processes (run log_base n (later_picks picks) one.state).core.processes
      (move_grown (choose (first_pick picks) s.core) s).grows (run_grows n (later_picks picks) one.state))
]

-- ---- one step

pub record Stride (s : State LogDatabase) (m : StepResult LogDatabase) : Type 0 where
  pub process : Process
  pub there : slice_get s.core.processes m.process ≡ Some process
  pub may : May process.name (board_of s) (solo_of (names s.core.processes) process)
  pub mirror : Mirrors (board_of s) process.name (deed (board_of s) (solo_of (names s.core.processes) process)) m
  pub real : Real m.state.core

told_process : (k : ℕ) (a : Ask) (s : State LogDatabase) (x : Answer LogDatabase) → (told k a s x).process ≡ k
told_process k a s (Gives reply db lists) = refl
told_process k a s Diverges = refl

asking_process : (k : ℕ) (s : State LogDatabase) (o : Option Ask) → (asking log_base k s o).process ≡ k
asking_process k s None = refl
asking_process k s (Some a) = told_process k a s (log_base s.db a.question)

pub stride : (pick : Option ℕ) (s : State LogDatabase) → Real s.core → is_over s.core ≡ false → Stride s (move log_base pick s)
stride pick s real going =
    let parts = or-parts (is_some s.core.diverged) (have_all_ended s.core) going in
    let k : ℕ = choose pick s.core in
    let runs : MayRun k s.core = chosen_runs pick s.core real.ordered parts.1 in
    let t : State LogDatabase = chosen k s in
    let may : May runs.0.name (board_of s) (solo_of (names s.core.processes) runs.0) =
    step_may k t runs.0 runs.1 real.named real.below runs.2 parts.0 in
    let mirror : Mirrors (board_of s) runs.0.name (deed (board_of s) (solo_of (names s.core.processes) runs.0)) (move log_base pick s) =
    step_mirror k t runs.0 runs.1 real.named real.below may.free in
    record {
      process = runs.0;
      there = ap (slice_get s.core.processes) (asking_process k t (next_ask k t.core)) ∙ runs.1;
      may = may;
      mirror = mirror;
      real = record {
        named = (move_grown k s).named real.named;
        below = mirror.below;
        ordered = move_ordered log_base k s real.ordered;
      };
    }

-- ---- runs

pub record Went (n : ℕ) (picks : List ℕ) (s : State LogDatabase) : Type 0 where
  pub goes : Goes (steps log_base n picks s) (board_of s) (board_of (run log_base n picks s))
  pub real : Real (run log_base n picks s).core

still_went : (n : ℕ) (picks : List ℕ) (s : State LogDatabase) → steps log_base n picks s ≡ 0 → run log_base n picks s ≡ s
    → Real s.core → Went n picks s
still_went n picks s none same real = record {
  goes =
      subst (λ (m : ℕ). Goes m (board_of s) (board_of (run log_base n picks s))) (sym none) (ap board_of (sym same));
  real = subst (λ (t : State LogDatabase). Real t.core) (sym same) real;
}

pub went : (n : ℕ) (picks : List ℕ) (s : State LogDatabase) → Real s.core → Went n picks s
went zero picks s real = still_went 0 picks s (steps-zero log_base picks s) (run-zero log_base picks s) real
went (suc n) picks s real = elim (cases_Bool (is_over s.core)) [
  | inl over ↦ still_went (suc n) picks s (steps-over log_base (suc n) picks s over) (run-over log_base (suc n) picks s over) real
  | inr going ↦
      let one : StepResult LogDatabase = move log_base (first_pick picks) s in
      let rest : List ℕ = later_picks picks in
      let here : Stride s one = stride (first_pick picks) s real going in
      let more : Went n rest one.state = went n rest one.state here.real in
      let first : 1 + steps log_base n rest one.state ≡ suc (steps log_base n rest one.state) = omega arith in
      let end : Board = board_of (run log_base n rest one.state) in
      let goes : Goes (suc (steps log_base n rest one.state)) (board_of s) end = (
        here.process.name,
        solo_of (names s.core.processes) here.process,
        here.may,
        subst (λ (b : Board). Goes (steps log_base n rest one.state) b end) here.mirror.board more.goes,
      ) in
      record {
        goes =
            subst (λ (t : State LogDatabase). Goes (steps log_base (suc n) picks s) (board_of s) (board_of t)) (sym (run-suc log_base n picks s going))
            (subst (λ (m : ℕ). Goes m (board_of s) end) (sym (steps-suc log_base n picks s going ∙ first)) goes);
        real = subst (λ (t : State LogDatabase). Real t.core) (sym (run-suc log_base n picks s going)) more.real;
      }
]

-- ---- private runs

-- each event names only paths that are open to its process
abbrev pub EventsFit : Owner → (ℕ → List ℕ) → List Event → Type 0
EventsFit owner name es = AllByRecursion (λ (e : Event). Fit owner (name e.process) (use_in e.act)) es

fit_append : (owner : Owner) (who : List ℕ) (us vs : List Use) → Fit owner who us → Fit owner who vs → Fit owner who (us ++ vs)
fit_append owner who [] vs first second = second
fit_append owner who (u ∷ us) vs first second = (first.0, fit_append owner who us vs first.1 second)

acts_fit : (owner : Owner) (name : ℕ → List ℕ) (number k : ℕ) (acts : List Act) (later : List Event)
    → EventsFit owner name (map (event_at number k) acts ++ later) → Fit owner (name k) (uses_of acts) × EventsFit owner name later
acts_fit owner name number k [] later fit = (tt, fit)
acts_fit owner name number k (act ∷ acts) later fit =
    let rest = acts_fit owner name number k acts later fit.1 in
    (fit_append owner (name k) (use_in act) (uses_of acts) fit.0 rest.0, rest.1)

pub ran : (owner : Owner) (end : List Process) (n number : ℕ) (picks : List ℕ) (s : State LogDatabase) → Real s.core
    → Grows (run log_base n picks s).core.processes end
    → EventsFit owner (at_number (names end)) (events log_base n number picks s)
    → Runs owner (steps log_base n picks s) (board_of s) (board_of (run log_base n picks s))
ran owner end zero number picks s real grows fit =
    subst (λ (m : ℕ). Runs owner m (board_of s) (board_of (run log_base 0 picks s))) (sym (steps-zero log_base picks s))
    (ap board_of (sym (run-zero log_base picks s)))
ran owner end (suc n) number picks s real grows fit = elim (cases_Bool (is_over s.core)) [
  | inl over ↦
      subst (λ (m : ℕ). Runs owner m (board_of s) (board_of (run log_base (suc n) picks s))) (sym (steps-over log_base (suc n) picks s over))
      (ap board_of (sym (run-over log_base (suc n) picks s over)))
  | inr going ↦
      let one : StepResult LogDatabase = move log_base (first_pick picks) s in
      let rest : List ℕ = later_picks picks in
      let here : Stride s one = stride (first_pick picks) s real going in
      let later : Grows (run log_base n rest one.state).core.processes end =
      subst (λ (t : State LogDatabase). Grows t.core.processes end) (run-suc log_base n picks s going) grows in
      let from_here : Grows s.core.processes end =
      grows_trans s.core.processes (run log_base (suc n) picks s).core.processes end (run_grows (suc n) picks s) grows in
      let at_end = found_later s.core.processes end one.process here.process from_here here.there in
      let name : at_number (names end) one.process ≡ here.process.name = name_at end one.process at_end.0 at_end.1 ∙ at_end.2.name in
      let split = acts_fit owner (at_number (names end)) number one.process one.acts (events log_base n (number + 1) rest one.state)
      (subst (EventsFit owner (at_number (names end))) (events-suc log_base n number picks s going) fit) in
      let x : Solo = solo_of (names s.core.processes) here.process in
      let fits : Fit owner here.process.name (deed (board_of s) x).uses =
      subst (Fit owner here.process.name) here.mirror.uses
      (subst (λ (who : List ℕ). Fit owner who (uses_of one.acts)) name split.0) in
      let end_board : Board = board_of (run log_base n rest one.state) in
      let more : Runs owner (steps log_base n rest one.state) (board_of one.state) end_board =
      ran owner end n (number + 1) rest one.state here.real later split.1 in
      let first : 1 + steps log_base n rest one.state ≡ suc (steps log_base n rest one.state) = omega arith in
      let runs : Runs owner (suc (steps log_base n rest one.state)) (board_of s) end_board =
      (here.process.name, x, here.may, fits, subst (λ (b : Board). Runs owner (steps log_base n rest one.state) b end_board) here.mirror.board more) in
      subst (λ (t : State LogDatabase). Runs owner (steps log_base (suc n) picks s) (board_of s) (board_of t)) (sym (run-suc log_base n picks s going))
      (subst (λ (m : ℕ). Runs owner m (board_of s) end_board) (sym (steps-suc log_base n picks s going ∙ first)) runs)
]

-- ---- how many processes were made

events_births : (number k : ℕ) (acts : List Act) → spawned_in (map (event_at number k) acts) ≡ births_of acts
events_births number k [] = refl
events_births number k (act ∷ acts) = ap (λ (n : ℕ). spawned_by act + n) (events_births number k acts)

pub births_append : (es fs : List Event) → spawned_in (es ++ fs) ≡ spawned_in es + spawned_in fs
births_append [] fs = omega arith
births_append (e ∷ es) fs = let rest : spawned_in (es ++ fs) ≡ spawned_in es + spawned_in fs = births_append es fs in omega (arith, rest)

pub made_counts : (n number : ℕ) (picks : List ℕ) (s : State LogDatabase) → Real s.core
    → length (run log_base n picks s).core.processes ≡ length s.core.processes + spawned_in (events log_base n number picks s)
made_counts zero number picks s real =
    let same : length (run log_base 0 picks s).core.processes ≡ length s.core.processes = ap (λ (t : State LogDatabase). length t.core.processes) (run-zero log_base picks s) in
    let none : spawned_in (events log_base 0 number picks s) ≡ 0 = ap spawned_in (events-zero log_base number picks s) in
    omega (arith, same, none)
made_counts (suc n) number picks s real = elim (cases_Bool (is_over s.core)) [
  | inl over ↦
      let same : length (run log_base (suc n) picks s).core.processes ≡ length s.core.processes = ap (λ (t : State LogDatabase). length t.core.processes) (run-over log_base (suc n) picks s over) in
      let none : spawned_in (events log_base (suc n) number picks s) ≡ 0 = ap spawned_in (events-over log_base (suc n) number picks s over) in
      omega (arith, same, none)
  | inr going ↦
      let one : StepResult LogDatabase = move log_base (first_pick picks) s in
      let rest : List ℕ = later_picks picks in
      let here : Stride s one = stride (first_pick picks) s real going in
      let d : Deed = deed (board_of s) (solo_of (names s.core.processes) here.process) in
      let later : List Event = events log_base n (number + 1) rest one.state in
      let more : length (run log_base n rest one.state).core.processes ≡ length one.state.core.processes + spawned_in later =
      made_counts n (number + 1) rest one.state here.real in
      let first : length one.state.core.processes ≡ length s.core.processes + born_count d.born = ap (λ (b : Board). b.made) here.mirror.board in
      let births : spawned_in (events_of_step number one) ≡ born_count d.born = events_births number one.process one.acts ∙ here.mirror.births in
      let same : length (run log_base (suc n) picks s).core.processes ≡ length (run log_base n rest one.state).core.processes =
      ap (λ (t : State LogDatabase). length t.core.processes) (run-suc log_base n picks s going) in
      let all : spawned_in (events log_base (suc n) number picks s) ≡ spawned_in (events_of_step number one) + spawned_in later =
      ap spawned_in (events-suc log_base n number picks s going) ∙ births_append (events_of_step number one) later in
      omega (arith, more, first, births, same, all)
]

-- a run that isn't over made all the steps that it might
pub all_steps : (n : ℕ) (picks : List ℕ) (s : State LogDatabase) → is_over (run log_base n picks s).core ≡ false
    → steps log_base n picks s ≡ n
all_steps zero picks s going = steps-zero log_base picks s
all_steps (suc n) picks s going = elim (cases_Bool (is_over s.core)) [
  | inl over ↦
      let never : true ≡ false = sym over ∙ ap (λ (t : State LogDatabase). is_over t.core) (sym (run-over log_base (suc n) picks s over)) ∙ going in
      absurd cc
  | inr runs ↦
      let rest : steps log_base n (later_picks picks) (move log_base (first_pick picks) s).state ≡ n =
      all_steps n (later_picks picks) (move log_base (first_pick picks) s).state
      (ap (λ (t : State LogDatabase). is_over t.core) (sym (run-suc log_base n picks s runs)) ∙ going) in
      omega (arith, rest, steps-suc log_base n picks s runs)
]
