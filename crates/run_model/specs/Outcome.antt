-- The outcome of an ended run: its processes, in the order of their names, and the paths that it touched.
use Rattle.std.specs.Prelude.{ℕ, List, [], ◌∷◌, map, if◌then◌else◌, Option, Some, None, unwrap_or}
use Rattle.std.specs.Ordering.{nat_cmp, is_lt}
use Rattle.std.specs.Cmp.Lexicographic.{slice_cmp}
use Rattle.ldv_value.specs.FileState.{FileState, content_at}
use Rattle.run_model.specs.Types.{Entry, Reply, Outcome, ProcOutcome, PathOutcome}
use Rattle.run_model.specs.Core.{Process, Core, have_all_ended}

-- ---- processes by name

-- before the first of the list whose name is above its own: part by part as numbers, a name before its
-- extensions
abbrev pub insert_by_name : Process → List Process → List Process
insert_by_name p [] = p ∷ []
insert_by_name p (q ∷ qs) =
    if is_lt (slice_cmp nat_cmp p.name q.name) then p ∷ q ∷ qs else q ∷ insert_by_name p qs

abbrev pub by_name : List Process → List Process
by_name [] = []
by_name (p ∷ ps) = insert_by_name p (by_name ps)

abbrev pub entry_reply : Entry → Reply
entry_reply entry = entry.reply

abbrev pub outcome_of_process : Process → ProcOutcome
outcome_of_process p = record {
  name = record { parts = p.name };
  status = unwrap_or p.status 0;
  printed = p.printed;
  replies = map entry_reply p.entries;
}

-- ---- touched paths

abbrev pub outcome_of_path : FileState → List ℕ → PathOutcome
outcome_of_path files path = record { path = path; content = content_at files path }

abbrev pub outcomes_of_paths : FileState → List PathOutcome
outcomes_of_paths files = map (outcome_of_path files) files.touched

-- ---- outcomes

abbrev pub outcome_of : Core → Outcome
outcome_of c = record {
  processes = map outcome_of_process (by_name c.processes);
  paths = outcomes_of_paths c.files;
}

-- none where a process hasn't ended
abbrev pub outcome_at : Core → Option Outcome
outcome_at c = if have_all_ended c then Some (outcome_of c) else None
