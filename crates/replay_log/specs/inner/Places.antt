-- The place of the log of a process.
use Rattle.std.specs.Prelude.{◌≡◌, ℕ, zero, suc, List, [], ◌∷◌, true, false}
use Rattle.replay_log.specs.Types.{Log}
use Rattle.run_model.specs.LogDatabase.{is_log_of}

-- no log, for what is past the end of a list
abbrev pub no_log : Log
no_log = record { process = record { parts = [] }; entries = [] }

-- at an index, and none before it is of the process
abbrev pub IsAt : List ℕ → ℕ → List Log → Type 0
IsAt process n [] = ⊥
IsAt process zero (log ∷ logs) = is_log_of process log ≡ true
IsAt process (suc n) (log ∷ logs) = (is_log_of process log ≡ false) × IsAt process n logs

abbrev pub IsNowhere : List ℕ → List Log → Type 0
IsNowhere process [] = Unit {0}
IsNowhere process (log ∷ logs) = (is_log_of process log ≡ false) × IsNowhere process logs
