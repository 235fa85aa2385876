-- The scheduler: which process makes the next step.
use Rattle.std.specs.Prelude.{ℕ, ◌+◌, ◌*◌, ◌/◌, ◌%◌, ◌^◌, ◌==◌, List, [], ◌∷◌, length, find, slice_get}
use Rattle.std.specs.Prelude.{slice_index, Bool, false, not, ◌&&◌, nat_lt, if◌then◌else◌, Option, Some, None}
use Rattle.std.specs.Prelude.{is_none}
use Rattle.script_parse.specs.declared.script.Instr.TheVariants as instr
use Rattle.run_model.specs.Types.{Instr}
use Rattle.run_model.specs.Core.{lookup, Process, Core}

-- ---- who may run

abbrev pub still_runs : Option Process → Bool
still_runs None = false
still_runs (Some p) = is_none p.status

abbrev pub waits_for : Option ℕ → List Process → Bool
waits_for None processes = false
waits_for (Some child) processes = still_runs (slice_get processes child)

-- a `wait` for a child that hasn't ended; no other instruction waits
abbrev pub waits_at : Instr → Process → List Process → Bool
waits_at (instr.Let to value) p processes = false
waits_at (instr.Calc to op left right) p processes = false
waits_at (instr.Glue to left right) p processes = false
waits_at (instr.ToInt to value) p processes = false
waits_at (instr.Cut before after by) p processes = false
waits_at (instr.Jump place) p processes = false
waits_at (instr.JumpIf op left right place) p processes = false
waits_at (instr.Print values) p processes = false
waits_at (instr.Exit status) p processes = false
waits_at (instr.OpenPath file mode path place) p processes = false
waits_at (instr.ReadLine to file place) p processes = false
waits_at (instr.WriteLine file values) p processes = false
waits_at (instr.CopyRest source target) p processes = false
waits_at (instr.Close file) p processes = false
waits_at (instr.Remove path place) p processes = false
waits_at (instr.Exists to path) p processes = false
waits_at (instr.Spawn child path arguments place) p processes = false
waits_at (instr.Wait to child) p processes = waits_for (lookup child p.children) processes
waits_at (instr.Sql cursor text params) p processes = false
waits_at (instr.Fetch cursor to place) p processes = false
waits_at (instr.Count to cursor) p processes = false
waits_at (instr.Status to cursor) p processes = false

-- after the last instruction `exit 0` is meant
abbrev pub is_waiting : Option Instr → Process → List Process → Bool
is_waiting None p processes = false
is_waiting (Some i) p processes = waits_at i p processes

abbrev pub is_runnable : List Process → Process → Bool
is_runnable processes p = is_none p.status && not (is_waiting (slice_get p.script p.place) p processes)

-- the creation numbers of the runnable processes, sorted
abbrev pub runnable_from : ℕ → List Process → List Process → List ℕ
runnable_from n all [] = []
runnable_from n all (p ∷ ps) =
    if is_runnable all p then n ∷ runnable_from (n + 1) all ps else runnable_from (n + 1) all ps

abbrev pub runnable_processes : Core → List ℕ
runnable_processes c = runnable_from 0 c.processes c.processes

-- ---- by the seed

abbrev pub next_or_least : Option ℕ → List ℕ → ℕ
next_or_least (Some n) numbers = n
next_or_least None numbers = slice_index numbers 0

-- round robin: the least number above that of the last one to run, or else the least
abbrev pub round_robin : ℕ → List ℕ → ℕ
round_robin last numbers = next_or_least (find (nat_lt last) numbers) numbers

-- the generator of Knuth's MMIX, modulo 2^64
abbrev pub next_x : ℕ → ℕ
next_x x = (x * 6364136223846793005 + 1442695040888963407) % 2 ^ 64

-- under seed 0 the generator stands still
abbrev pub moved_x : ℕ → ℕ → ℕ
moved_x seed x = if seed == 0 then x else next_x x

-- the one at an index, counted round
abbrev pub pick_in : List ℕ → ℕ → ℕ
pick_in numbers k = slice_index numbers (k % length numbers)

abbrev pub at_random : ℕ → List ℕ → ℕ
at_random x numbers = pick_in numbers (x / 2 ^ 33)

abbrev pub pick_of : ℕ → ℕ → ℕ → List ℕ → ℕ
pick_of seed last x numbers = if seed == 0 then round_robin last numbers else at_random x numbers

-- ---- the choice

-- the creation number of the process that runs next, by the seed or by a given pick
abbrev pub choose : Option ℕ → Core → ℕ
choose None c = pick_of c.seed c.last (moved_x c.seed c.x) (runnable_processes c)
choose (Some k) c = pick_in (runnable_processes c) k

abbrev pub core_after_choice : ℕ → Core → Core
core_after_choice number c = record c { last = number; x = moved_x c.seed c.x }
