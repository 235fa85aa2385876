-- One step of a process: its next instruction. An `sql` asks the database; every other instruction is applied
-- to the core only. The files used here define each instruction.
use Rattle.std.specs.Prelude.{ℕ, ◌+◌, List, [], ◌∷◌, ◌++◌, length, slice_get, Option, Some, None}
use Rattle.script_parse.specs.declared.script.Instr.TheVariants as instr
use Rattle.run_model.specs.Types.{Instr, Reply, Act, Ended}
use Rattle.run_model.specs.Core.{Process, Divergence, Core, with_process}
use Rattle.run_model.specs.Database.{Lists, Answer, Gives, Diverges, Base}
pub use Rattle.run_model.specs.Database.{asked_act}
use Rattle.run_model.specs.State.{State, StepResult}
use Rattle.run_model.specs.StepBase.{on_files}
use Rattle.run_model.specs.StepFiles.{path_at, allows_read, open_for, open_path, read_next, write_line}
use Rattle.run_model.specs.StepFiles.{copy_rest, close, remove_path, test_path}
use Rattle.run_model.specs.StepProcesses.{spawn, wait}
use Rattle.run_model.specs.StepReplies.{fetch, count, status}
use Rattle.run_model.specs.StepVariables.{let_value, calculate, glue, let_number, cut, jump_if}
pub use Rattle.run_model.specs.StepBase.{operand_value, operand_values, with_exit_status, went_on}
pub use Rattle.run_model.specs.StepBase.{went_to, wrong_kind}
pub use Rattle.run_model.specs.StepBase.{Effect, own}
pub use Rattle.run_model.specs.StepReplies.{Ask, ask, entry_of, process_with_reply}
pub use Rattle.run_model.specs.StepVariables.{printed_line, print_line, print, exit_status, exit}

-- ---- steps that ask nothing

-- an `sql` comes here where it asks nothing
abbrev pub execute : Instr → ℕ → Process → Core → Effect
execute (instr.Let to value) number p c = own number (let_value to value p) c
execute (instr.Calc to op left right) number p c = own number (calculate to op left right p) c
execute (instr.Glue to left right) number p c = own number (glue to left right p) c
execute (instr.ToInt to value) number p c = own number (let_number to value p) c
execute (instr.Cut before after by) number p c = own number (cut before after by p) c
execute (instr.Jump place) number p c = own number (went_to place p) c
execute (instr.JumpIf op left right place) number p c = own number (jump_if op left right place p) c
execute (instr.Print operands) number p c = own number (print operands p) c
execute (instr.Exit code) number p c = own number (exit code p) c
execute (instr.OpenPath file mode path place) number p c =
    on_files number (open_path file mode (path_at path p) place p c.files) c
execute (instr.ReadLine to file place) number p c =
    on_files number (read_next (open_for allows_read file p) to file place p c.files) c
execute (instr.WriteLine file operands) number p c = on_files number (write_line file operands p c.files) c
execute (instr.CopyRest source target) number p c = on_files number (copy_rest source target p c.files) c
execute (instr.Close file) number p c = own number (close file p) c
execute (instr.Remove path place) number p c =
    on_files number (remove_path (path_at path p) place p c.files) c
execute (instr.Exists to path) number p c = on_files number (test_path to (path_at path p) p c.files) c
execute (instr.Spawn child path arguments place) number p c = spawn child path arguments place number p c
execute (instr.Wait to child) number p c = wait to child number p c
execute (instr.Sql cursor text params) number p c = own number (with_exit_status wrong_kind p) c
execute (instr.Fetch cursor to place) number p c = own number (fetch cursor to place p) c
execute (instr.Count to cursor) number p c = own number (count to cursor p) c
execute (instr.Status to cursor) number p c = own number (status to cursor p) c

-- after the last instruction `exit 0` is meant
abbrev pub execute_next : Option Instr → ℕ → Process → Core → Effect
execute_next None number p c = own number (with_exit_status 0 p) c
execute_next (Some i) number p c = execute i number p c

abbrev pub local_step_of : Option Process → ℕ → Core → Effect
local_step_of None number c = record { core = c; acts = [] }
local_step_of (Some p) number c = execute_next (slice_get p.script p.place) number p c

-- the next step of the process of a creation number, where it asks nothing
abbrev pub local_step : ℕ → Core → Effect
local_step number c = local_step_of (slice_get c.processes number) number c

-- ---- steps that ask

-- what an instruction asks
abbrev pub asked_by : Instr → Process → Option Ask
asked_by (instr.Let to value) p = None
asked_by (instr.Calc to op left right) p = None
asked_by (instr.Glue to left right) p = None
asked_by (instr.ToInt to value) p = None
asked_by (instr.Cut before after by) p = None
asked_by (instr.Jump place) p = None
asked_by (instr.JumpIf op left right place) p = None
asked_by (instr.Print operands) p = None
asked_by (instr.Exit code) p = None
asked_by (instr.OpenPath file mode path place) p = None
asked_by (instr.ReadLine to file place) p = None
asked_by (instr.WriteLine file operands) p = None
asked_by (instr.CopyRest source target) p = None
asked_by (instr.Close file) p = None
asked_by (instr.Remove path place) p = None
asked_by (instr.Exists to path) p = None
asked_by (instr.Spawn child path arguments place) p = None
asked_by (instr.Wait to child) p = None
asked_by (instr.Sql cursor text params) p = ask cursor (operand_value p text) (operand_values p params) p
asked_by (instr.Fetch cursor to place) p = None
asked_by (instr.Count to cursor) p = None
asked_by (instr.Status to cursor) p = None

abbrev pub ask_of_instr : Option Instr → Process → Option Ask
ask_of_instr None p = None
ask_of_instr (Some i) p = asked_by i p

abbrev pub ask_of_process : Option Process → Option Ask
ask_of_process None = None
ask_of_process (Some p) = ask_of_instr (slice_get p.script p.place) p

-- what the next step of a process asks
abbrev pub next_ask : ℕ → Core → Option Ask
next_ask number c = ask_of_process (slice_get c.processes number)

abbrev pub took_of : Option Process → ℕ → Ask → Reply → Core → Core
took_of None number a reply c = c
took_of (Some p) number a reply c =
    record (with_process number (process_with_reply a reply p) c) { asked = c.asked + 1 }

-- the core after it has its reply
abbrev pub took : ℕ → Ask → Reply → Core → Core
took number a reply c = took_of (slice_get c.processes number) number a reply c

abbrev pub entry_count : Option Process → ℕ
entry_count None = 0
entry_count (Some p) = length p.entries

-- the core where it has none
abbrev pub core_at_divergence : ℕ → Ask → Core → Core
core_at_divergence number a c = record c {
  diverged = Some (record {
    process = a.question.process;
    index = entry_count (slice_get c.processes number);
  });
}

-- ---- the end of a process, seen after its step

abbrev pub status_acts : Option ℕ → List Act
status_acts None = []
status_acts (Some status) = Ended status ∷ []

abbrev pub end_acts : Option Process → List Act
end_acts None = []
end_acts (Some p) = status_acts p.status

abbrev pub ends_at : ℕ → Core → List Act
ends_at number c = end_acts (slice_get c.processes number)

-- ---- steps

module _ {Db : Type 0} where
  abbrev pub kept_by : ℕ → Db → Effect → StepResult Db
  kept_by number db effect = record {
    process = number;
    state = record { core = effect.core; db = db };
    acts = effect.acts ++ ends_at number effect.core;
  }

  -- it asks nothing
  abbrev pub kept : ℕ → State Db → StepResult Db
  kept number s = kept_by number s.db (local_step number s.core)

  -- it asks, and the database returns an answer
  abbrev pub told : ℕ → Ask → State Db → Answer Db → StepResult Db
  told number a s (Gives reply db lists) = record {
    process = number;
    state = record { core = took number a reply s.core; db = db };
    acts = asked_act s.core.asked lists ∷ ends_at number (took number a reply s.core);
  }
  told number a s Diverges = record {
    process = number;
    state = record { core = core_at_divergence number a s.core; db = s.db };
    acts = [];
  }

module _ {Db : Type 0} (base : Base Db) where
  abbrev pub asking : ℕ → State Db → Option Ask → StepResult Db
  asking number s None = kept number s
  asking number s (Some a) = told number a s (base s.db a.question)

  -- the next step of the process of a creation number
  abbrev pub step : ℕ → State Db → StepResult Db
  step number s = asking number s (next_ask number s.core)
