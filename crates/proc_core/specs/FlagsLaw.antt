-- How the flags of the processes change as one process changes or is made.
use Rattle.std.specs.Prelude.{◌≡◌, ◌≢◌, ℕ, List, [], ◌∷◌, ◌++◌, length, slice_get, slice_set}
use Rattle.std.specs.Prelude.{Some, None, is_none, true, false}
use Rattle.run_model.specs.Types.{Value, Instr}
use Rattle.run_model.specs.Core.{Process, Core, new_process}
use Rattle.run_model.specs.Schedule.{is_runnable, runnable_processes}
use Rattle.ready_set.specs.Ready.{numbers}
use Rattle.proc_core.specs.Flags.{runnable_flags, awaited_child}

-- the process of a number is this one
abbrev pub IsAt : ℕ → Process → List Process → Type 0
IsAt number p processes = slice_get processes number ≡ Some p

-- each process but that of a number passes
abbrev pub OthersPass : (Process → ℕ → Type 0) → ℕ → List Process → Type 0
OthersPass P number processes = (k : ℕ) (r : Process) → k ≢ number → IsAt k r processes → P r k

-- a process goes on, or stays where it is: whether it has ended is as it was
abbrev pub GoesOn : Type 0
GoesOn = (processes : List Process) (number : ℕ) (p q : Process)
    → IsAt number p processes → is_none q.status ≡ is_none p.status
    → runnable_flags (slice_set processes number q)
    ≡ slice_set (runnable_flags processes) number (is_runnable (slice_set processes number q) q)

-- a process ends, and none waits for it
abbrev pub EndsUnawaited : Type 0
EndsUnawaited = (processes : List Process) (number status : ℕ) (p q : Process)
    → IsAt number p processes → q.status ≡ Some status
    → OthersPass (λ r k. awaited_child r ≢ Some number) number processes
    → runnable_flags (slice_set processes number q) ≡ slice_set (runnable_flags processes) number false

-- a process ends, and at most one other waits for it
abbrev pub EndsUnder : Type 0
EndsUnder = (processes : List Process) (number parent status : ℕ) (p q r : Process)
    → IsAt number p processes → q.status ≡ Some status → IsAt parent r processes → parent ≢ number
    → OthersPass (λ s k. k ≢ parent → awaited_child s ≢ Some number) number processes
    → runnable_flags (slice_set processes number q)
    ≡ slice_set (slice_set (runnable_flags processes) number false) parent
    (is_runnable (slice_set processes number q) r)

-- one that waits for it is runnable from then on
abbrev pub Wakes : Type 0
Wakes = (processes : List Process) (number status : ℕ) (p q r : Process)
    → IsAt number p processes → q.status ≡ Some status → r.status ≡ None → awaited_child r ≡ Some number
    → is_runnable (slice_set processes number q) r ≡ true

-- a process makes a child and goes on, and no other waits for the child's number yet
abbrev pub Spawns : Type 0
Spawns = (processes : List Process) (number : ℕ) (p q child : Process)
    → IsAt number p processes → is_none q.status ≡ is_none p.status
    → OthersPass (λ r k. awaited_child r ≢ Some (length processes)) number processes
    → runnable_flags (slice_set processes number q ++ child ∷ [])
    ≡ slice_set (runnable_flags processes) number (is_runnable (slice_set processes number q ++ child ∷ []) q)
    ++ is_runnable (slice_set processes number q ++ child ∷ []) child ∷ []

-- a new process is runnable
abbrev pub NewRuns : Type 0
NewRuns = (processes : List Process) (name : List ℕ) (script : List Instr) (arguments : List Value)
    → is_runnable processes (new_process name script arguments) ≡ true

pub record FlagsLaw : Type 0 where
  -- the sorted list of the numbers whose flags are set is that of the runnable processes
  pub runs : (c : Core) → numbers (runnable_flags c.processes) ≡ runnable_processes c
  pub goes_on : GoesOn
  pub ends : EndsUnawaited
  pub ends_under : EndsUnder
  pub wakes : Wakes
  pub spawns : Spawns
  pub new_runs : NewRuns
