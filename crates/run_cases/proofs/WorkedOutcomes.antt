-- The outcome of an ended run, and the lines of processes and paths in its text. Each line ends by LF.
use Rattle.std.specs.Prelude.{◌≡◌, refl, ℕ, pos, List, [], ◌∷◌, Option, Some, None, codes}
use Rattle.std.specs.Fmt.{digits}
use Rattle.ldv_value.specs.declared.value.Value.TheVariants.{Int}
use Rattle.ldv_value.specs.FileState.{FileState}
use Rattle.sql_model.specs.declared.reply.Reply.{Reply}
use Rattle.sql_model.specs.declared.reply.Reply.TheVariants.{Rows, Changed}
use Rattle.run_model.specs.declared.outcome.Outcome.{Outcome}
use Rattle.run_model.specs.declared.outcome.ProcOutcome.{ProcOutcome}
use Rattle.run_model.specs.declared.package.Entry.{Entry}
use Rattle.run_model.specs.Core.{Process, Core, new_process, start_core}
use Rattle.run_model.specs.Outcome.{outcome_at}
use Rattle.run_model.specs.OutcomeText.{name_text, process_text, file_text, content_text, outcome_text_of}

-- ---- names: the parts in decimal, with a point between

name_of_first : name_text (0 ∷ []) ≡ codes "0"
unfolding digits
name_of_first = refl

name_of_child : name_text (0 ∷ 0 ∷ []) ≡ codes "0.0"
unfolding digits
name_of_child = refl

name_of_grandchild : name_text (0 ∷ 10 ∷ 3 ∷ []) ≡ codes "0.10.3"
unfolding digits
name_of_grandchild = refl

-- ---- processes: `process`, name, status, the numbers of printed bytes and of replies; the bytes on a line; the
-- replies

abbrev process : List ℕ → ℕ → List ℕ → List Reply → ProcOutcome
process name status printed replies =
    record { name = record { parts = name }; status = status; printed = printed; replies = replies }

-- three bytes with their own LF, and one reply
child : process_text (process (0 ∷ 0 ∷ []) 7 (codes "hi\n") (Changed 1 ∷ [])) ≡ codes "process 0.0 7 3 1\nhi\n\nchanged 1\n"
unfolding digits
child = refl

-- nothing printed is an empty line
silent : process_text (process (0 ∷ []) 240 [] []) ≡ codes "process 0 240 0 0\n\n"
unfolding digits
silent = refl

-- two replies, in order
two_replies : process_text (process (0 ∷ []) 0 (codes "x") (Rows [] ∷ Changed 4 ∷ []))
    ≡ codes "process 0 0 1 2\nx\nrows 0\nchanged 4\n"
unfolding digits
two_replies = refl

-- ---- paths: `file`, the lengths of the path and of the bytes, each of them on a line; or `removed`, the length
-- of the path, and the path

-- a path of two bytes comes first, with five bytes in the file
file : file_text (codes "ab") (codes "hello") ≡ codes "file 2 5\nab\nhello\n"
unfolding digits
file = refl

file_that_is_there : content_text (codes "ab") (Some (codes "hello")) ≡ codes "file 2 5\nab\nhello\n"
unfolding digits
file_that_is_there = refl

-- an empty file is another thing than none
empty_file : content_text (codes "log") (Some []) ≡ codes "file 3 0\nlog\n\n"
unfolding digits
empty_file = refl

removed : content_text (codes "log") None ≡ codes "removed 3\nlog\n"
unfolding digits
removed = refl

-- ---- a whole outcome: `outcome`, the numbers of processes and of touched paths

abbrev empty : Outcome
empty = record { processes = []; paths = [] }

nothing : outcome_text_of empty ≡ codes "outcome 0 0\n"
unfolding digits
nothing = refl

abbrev ended : List ℕ → ℕ → List ℕ → List Entry → Process
ended name status printed entries = record (new_process name [] []) {
  printed = printed;
  entries =
      entries;
  status = Some status;
}

abbrev asked : Entry
asked = record { text = codes "SELECT * FROM t"; params = []; reply = Rows ((Int (pos 5) ∷ []) ∷ []) }

-- the file b is there but wasn't touched; a was changed, and c was removed
abbrev files : FileState
files = record {
  files = record { path = codes "a"; content = codes "one\n" }
      ∷ record { path = codes "b"; content = codes "two\n" } ∷ [];
  touched = codes "a" ∷ codes "c" ∷ [];
}

-- the second process is the second child of the first one
abbrev core : List Process → Core
core processes = record (start_core [] 0 [] []) { files = files; processes = processes }

abbrev run_outcome : Option Outcome
run_outcome = outcome_at (core (ended (0 ∷ []) 3 (codes "x") [] ∷ ended (0 ∷ 1 ∷ []) 0 [] (asked ∷ []) ∷ []))

abbrev text_of : Option Outcome → List ℕ
text_of None = []
text_of (Some outcome) = outcome_text_of outcome

-- two processes in the order of their names, then two paths in that of their bytes
whole : text_of run_outcome
    ≡ codes "outcome 2 2\nprocess 0 3 1 0\nx\nprocess 0.1 0 0 1\n\nrows 1\nrow 1\nint 5\nfile 1 4\na\none\n\nremoved 1\nc\n"
unfolding digits
whole = refl

-- no outcome while a process hasn't ended
going_on : outcome_at (core (ended (0 ∷ []) 0 [] [] ∷ new_process (0 ∷ 0 ∷ []) [] [] ∷ [])) ≡ None
going_on = refl
