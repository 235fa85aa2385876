-- The shared parts of the steps of all instructions: the values of operands, the changes of the process,
-- misuse, and the result of a step.
--
-- Misuse ends the process with its own status, and nothing else of the instruction takes effect.
use Rattle.std.specs.Prelude.{ℕ, ◌+◌, ◌^◌, ℤ, pos, negsuc, List, [], map, slice_set, nat_lt}
use Rattle.std.specs.Prelude.{if◌then◌else◌, Some}
use Rattle.ldv_value.specs.FileState.{FileState}
use Rattle.sql_model.specs.Meaning.{or_null}
use Rattle.run_model.specs.Types.{Value, Int, Operand, Constant, Variable, Act}
use Rattle.run_model.specs.Core.{lookup, bind, Process, Core, with_process}

-- ---- operands

-- a variable that wasn't set is NULL
abbrev pub operand_value : Process → Operand → Value
operand_value p (Constant v) = v
operand_value p (Variable name) = or_null (lookup name p.variables)

abbrev pub operand_values : Process → List Operand → List Value
operand_values p operands = map (operand_value p) operands

-- ---- what becomes of a process

abbrev pub with_exit_status : ℕ → Process → Process
with_exit_status status p = record p { status = Some status }

abbrev pub went_on : Process → Process
went_on p = record p { place = p.place + 1 }

-- at the place of a label
abbrev pub went_to : ℕ → Process → Process
went_to place p = record p { place = place }

abbrev pub with_variable : List ℕ → Value → Process → Process
with_variable name v p = record p { variables = bind name v p.variables }

-- ---- the statuses of misuse

-- a value of the wrong kind, or a name that means nothing
abbrev pub wrong_kind : ℕ
wrong_kind = 240

-- a number that doesn't fit in 64 bits
abbrev pub number_too_large : ℕ
number_too_large = 241

-- too many bytes
abbrev pub too_long_status : ℕ
too_long_status = 242

-- a value that is no path
abbrev pub bad_path : ℕ
bad_path = 243

-- bytes that aren't UTF-8
abbrev pub not_utf8 : ℕ
not_utf8 = 244

-- ---- values that are computed

-- a value, or misuse with its status
pub data Computation : Type 0 where
  Yields : Value → Computation
  Misused : ℕ → Computation

-- a number within 64 bits
abbrev pub number_within : ℤ → Computation
number_within (pos n) = if nat_lt n (2 ^ 63) then Yields (Int (pos n)) else Misused number_too_large
number_within (negsuc n) = if nat_lt n (2 ^ 63) then Yields (Int (negsuc n)) else Misused number_too_large

-- the variable gets the value
abbrev pub assign : List ℕ → Computation → Process → Process
assign name (Yields v) p = went_on (with_variable name v p)
assign name (Misused status) p = with_exit_status status p

-- ---- what a step leaves

-- the core after it, and what it did, but for the end of the process
pub record Effect : Type 0 where
  pub core : Core
  pub acts : List Act

-- only the process changes, and nothing is done
abbrev pub own : ℕ → Process → Core → Effect
own number p c = record { core = with_process number p c; acts = [] }

-- only the process changes
abbrev pub process_effect : ℕ → Process → List Act → Core → Effect
process_effect number p acts c = record { core = with_process number p c; acts = acts }

-- the process and the files after a step that looks at nothing else, and what it did
pub record FileEffect : Type 0 where
  pub process : Process
  pub files : FileState
  pub acts : List Act

abbrev pub on_files : ℕ → FileEffect → Core → Effect
on_files number effect c = record {
  core = record c { files = effect.files; processes = slice_set c.processes number effect.process };
  acts = effect.acts;
}
