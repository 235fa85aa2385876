-- The database of recorded replies: a process that asks the same as in the recorded run gets the same reply.
use Rattle.std.specs.Prelude.{ℕ, List, [], ◌∷◌, drop, Bool, ◌&&◌, if◌then◌else◌, bytes_eq}
use Rattle.sql_model.specs.Keys.{same_values}
use Rattle.sql_model.specs.Scope.{same_text}
use Rattle.run_model.specs.Types.{Entry, Log}
use Rattle.run_model.specs.Database.{Question, Lists, Answer, Gives, Diverges, Base}

-- what is left of each process's log
abbrev pub LogDatabase : Type 0
LogDatabase = List Log

abbrev pub is_log_of : List ℕ → Log → Bool
is_log_of process log = bytes_eq process log.process.parts

-- the entries of a process that are left
abbrev pub entries_left : List ℕ → List Log → List Entry
entries_left process [] = []
entries_left process (log ∷ logs) = if is_log_of process log then log.entries else entries_left process logs

abbrev pub without_first : Log → Log
without_first log = record log { entries = drop 1 log.entries }

-- the logs once a process has got its next reply
abbrev pub logs_after : List ℕ → List Log → List Log
logs_after process [] = []
logs_after process (log ∷ logs) =
    if is_log_of process log then without_first log ∷ logs else log ∷ logs_after process logs

-- a recorded reply needs no row and makes none
abbrev pub no_lists : Lists
no_lists = record { tables = []; reads = []; made = [] }

-- the text and the parameters are those of the entry
abbrev pub is_recorded : Question → Entry → Bool
is_recorded q entry = same_text q.text entry.text && same_values q.params entry.params

-- the entries of the process are given: it diverges where none is left, or the next one is another question's
abbrev pub answer_from : LogDatabase → Question → List Entry → Answer LogDatabase
answer_from logs q [] = Diverges
answer_from logs q (entry ∷ entries) =
    if is_recorded q entry then Gives entry.reply (logs_after q.process logs) no_lists else Diverges

abbrev pub log_base : Base LogDatabase
log_base logs q = answer_from logs q (entries_left q.process logs)
