-- Logs made from kept replies: these are sorted by process, and then the neighbours of one process are its
-- log.
use Rattle.std.specs.Prelude.{List, [], ◌∷◌, ◌++◌, Bool, bytes_eq, if◌then◌else◌}
use Rattle.std.specs.Ordering.{nat_cmp}
use Rattle.std.specs.declared.cmp.Ordering.{Ordering}
use Rattle.std.specs.Cmp.Lexicographic.{slice_cmp}
use Rattle.replay_db.specs.Types.{Log}
use Rattle.run_laws.specs.declared.kept.Kept.{Kept}
use Rattle.run_laws.specs.KeptReplies.{new_log}

abbrev pub kept_cmp : Kept → Kept → Ordering
kept_cmp a b = slice_cmp nat_cmp a.process.parts b.process.parts

abbrev pub is_of : Kept → Log → Bool
is_of k log = bytes_eq k.process.parts log.process.parts

abbrev pub with_last : Kept → Log → Log
with_last k log = record log { entries = log.entries ++ k.entry ∷ [] }

-- to the last of the logs, where it is of that process
abbrev pub logs_with : Kept → Log → List Log
logs_with k log = if is_of k log then with_last k log ∷ [] else log ∷ new_log k ∷ []

abbrev pub with_kept : Kept → List Log → List Log
with_kept k [] = new_log k ∷ []
with_kept k (log ∷ []) = logs_with k log
with_kept k (log ∷ next ∷ logs) = log ∷ with_kept k (next ∷ logs)

abbrev pub grouped_onto : List Log → List Kept → List Log
grouped_onto logs [] = logs
grouped_onto logs (k ∷ kept) = grouped_onto (with_kept k logs) kept

abbrev pub logs_of_kept : List Kept → List Log
logs_of_kept kept = grouped_onto [] kept
