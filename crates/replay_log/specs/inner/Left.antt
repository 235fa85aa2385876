-- The logs without their used entries. A list has the number of used entries of each log, by its index; a log
-- without a number has no used entry.
use Rattle.std.specs.Prelude.{ℕ, List, [], ◌∷◌, drop, ◌&&◌, if◌then◌else◌, Option, Some, None}
use Rattle.sql_model.specs.Keys.{same_values}
use Rattle.sql_model.specs.Scope.{same_text}
use Rattle.run_model.specs.Database.{Question}
use Rattle.replay_log.specs.Types.{Entry, Log, ProcName, Reply, Value}

abbrev pub without_first_ones : ℕ → Log → Log
without_first_ones n log = record log { entries = drop n log.entries }

abbrev pub logs_left : List Log → List ℕ → List Log
logs_left logs [] = logs
logs_left [] (n ∷ used) = []
logs_left (log ∷ logs) (n ∷ used) = without_first_ones n log ∷ logs_left logs used

-- the reply of the next entry, where a text with parameters is what is recorded there
abbrev pub next_reply : List Entry → List ℕ → List Value → Option Reply
next_reply [] text params = None
next_reply (entry ∷ entries) text params =
    if same_text text entry.text && same_values params entry.params then Some entry.reply else None

abbrev pub question : ProcName → List ℕ → List Value → Question
question process text params = record { process = process.parts; text = text; params = params }
