-- The possible ends of a run of the program over streams in memory, and the judgement of a case by them.
use Rattle.std.specs.Prelude.{◌≡◌, ◌≢◌, ◌↔◌, ◌⊎◌, ℕ, List, [], Some, None, map, string_bytes}
use Rattle.std.specs.Io.KnownBytes.{Appends}
use Rattle.conformance.specs.declared.case.Case.{Case}
use Rattle.conformance.specs.declared.compare.Differences.{Differences}
use Rattle.conformance.specs.declared.compare.Ended.{Ended}
use Rattle.ldv_top.specs.Comes.{Comes}
use Rattle.ldv_top.specs.Due.{due}
use Rattle.ldv_top.specs.Exits.{status_of, line_of}
use Rattle.ldv_top.specs.Written.{AppendsPart}
use Rattle.ldv_top.specs.declared.exit.Exit.{Exit}
use Rattle.ldv_top.specs.declared.exit.Exit.TheVariants.{ReadFault, WriteFault}

-- Over a source of the input, what is written into two empty sinks: the exit is the one that is due. Out of
-- memory, or a fault of a stream, may come in its place.
pub record EndsAs (words : List (List ℕ)) (input : List ℕ) (status : ℕ) (output error : List ℕ) : Type 0 where
  pub exit : Exit
  pub status_is : status ≡ status_of exit
  pub due_is : Comes (due words input) exit (Some []) (Some output)
  -- the line of the exit, or where its sink fails a part of it
  pub line : Appends (Some []) (Some error) (line_of exit) ⊎ AppendsPart (Some []) (Some error) (line_of exit)

-- over streams that never fail: out of memory alone may come in place of what is due
pub record EndsSteadily (words : List (List ℕ)) (input : List ℕ) (exit : Exit) : Type 0 where
  pub due_is : Comes (due words input) exit None None
  pub not_read : exit ≢ ReadFault
  pub not_write : exit ≢ WriteFault

pub record IsRun (words : List (List ℕ)) (input : List ℕ) (ended : Ended) : Type 0 where
  pub ends : EndsAs words input ended.status ended.output ended.error
  pub steady : Exit
  pub steady_status : ended.steady_status ≡ status_of steady
  pub steadily : EndsSteadily words input steady

abbrev pub IsRunOf : Case → Ended → Type 0
IsRunOf case ended = IsRun (map string_bytes case.words.items) case.input ended

-- a run of the case ends as the case wants it
pub record IsAsWanted (case : Case) : Type 0 where
  pub ended : Ended
  pub run : IsRunOf case ended
  pub status : ended.status ≡ case.status
  pub steady_status : ended.steady_status ≡ case.status
  pub output : ended.output ≡ case.output
  pub error : ended.error ≡ case.error

-- what is told of a case are the differences of a run of its words and its input from what it wants
pub record IsJudged (case : Case) (differences : Differences) : Type 0 where
  pub ended : Ended
  pub run : IsRunOf case ended
  pub status : (differences.status ≡ None) ↔ (ended.status ≡ case.status)
  pub steady_status : (differences.steady_status ≡ None) ↔ (ended.steady_status ≡ case.status)
  pub output : (differences.output ≡ None) ↔ (ended.output ≡ case.output)
  pub error : (differences.error ≡ None) ↔ (ended.error ≡ case.error)
