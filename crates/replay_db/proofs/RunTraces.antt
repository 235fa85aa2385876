-- If a world can be run, the events of its run are a trace, and read each initial row first in its initial
-- version.
use Rattle.std.proofs.Common.{◌≡◌, ℕ, List, [], ◌∷◌, refl, sym, subst, true, inl, inr}
use Rattle.std.specs.Prelude.{Option, Some, None, nat_le, length, slice_get, bytes_eq, option_and_then, IsTrue}
use Rattle.std.specs.List.{list_all}
use Rattle.std.proofs.lemmas.Bool.{cases_Bool}
use Rattle.ldv_value.proofs.Booleans.{and-parts}
use Rattle.ldv_value.proofs.SameBytes.{bytes_eq-true}
use Rattle.ldv_value.specs.FileState.{file_at, file_precedes, file_test}
use Rattle.ldv_value.specs.Limits.{file_limit}
use Rattle.ldv_value.specs.Names.{path_test}
use Rattle.ldv_value.specs.Sorted.{is_strictly_sorted}
use Rattle.script_parse.specs.Script.{script_of}
use Rattle.run_model.specs.Start.{start_script}
use Rattle.run_model.specs.ValidTrace.{IsTrace}
use Rattle.run_model.specs.WorldRun.{steps_by, events_by, events_within}
use Rattle.slicer.specs.InitialRows.{ReadsInitialRows}
use Rattle.run_model.proofs.StartScripts.{has_script}
use Rattle.replay_db.specs.Runs.{CanRun}
use Rattle.replay_db.specs.Types.{File, Instr, Event, World}
use Rattle.slicer.proofs.InitialRows.{initial_rows_law}
use Rattle.replay_db.proofs.TraceValid.{traced}

-- a file that is there has a valid path
path_found : (path : List ℕ) (files : List File) (file : File) → file_at path files ≡ Some file
    → list_all file_test files ≡ true → IsTrue (path_test path)
path_found path [] file is met = cc
path_found path (f ∷ fs) file is met =
    let parts = and-parts (file_test f) (list_all file_test fs) met in
    elim (cases_Bool (bytes_eq path f.path)) [
      | inl hit ↦
          subst (λ (p : List ℕ). IsTrue (path_test p)) (sym (bytes_eq-true path f.path hit))
          (and-parts (path_test f.path) (nat_le (length f.content) file_limit) parts.0).0
      | inr miss ↦ path_found path fs file (rw miss at is) parts.1
    ]

-- and so has the first start word, where there is a script
abbrev Begins : List (List ℕ) → Type 0
Begins start = (word : List ℕ) × (slice_get start 0 ≡ Some word) × IsTrue (path_test word)

begins_with : (word : List ℕ) (words : List (List ℕ)) (files : List File) (o : Option File) → file_at word files ≡ o
    → (script : List Instr) → option_and_then (λ (f : File). script_of f.content) o ≡ Some script
    → list_all file_test files ≡ true → Begins (word ∷ words)
begins_with word words files None found script is met = cc
begins_with word words files (Some file) found script is met = (word, refl, path_found word files file found met)

begins_on : (start : List (List ℕ)) (files : List File) (script : List Instr)
    → option_and_then (λ (f : File). script_of f.content) (option_and_then (λ word. file_at word files) (slice_get start 0))
    ≡ Some script
    → list_all file_test files ≡ true → Begins start
begins_on [] files script is met = cc
begins_on (word ∷ words) files script is met = begins_with word words files (file_at word files) refl script is met

pub run_traces : (n : ℕ) (picks : List ℕ) (w : World) (script : List Instr) → start_script w ≡ Some script → CanRun w
    → IsTrace (events_by n picks w)
run_traces n picks w script is runs =
    let files = and-parts (list_all file_test w.files) (is_strictly_sorted file_precedes w.files) runs.files in
    let begins : Begins w.start = begins_on w.start w.files script is files.0 in
    (begins.0, steps_by n picks w, begins.2, traced n picks w script is runs.tables begins.0 begins.1)

-- so it is of what is recorded of a run
module _ (n : ℕ) (w : World) (runs : CanRun w) (events : List Event) (is : events ≡ events_within n w) where
  pub recorded_trace : IsTrace events
  recorded_trace =
      let script = has_script w runs.script in
      subst IsTrace (sym is) (run_traces n [] w script.0 script.1 runs)

  pub recorded_rows : ReadsInitialRows events w.tables
  recorded_rows =
      let script = has_script w runs.script in
      subst (λ (es : List Event). ReadsInitialRows es w.tables) (sym is) (initial_rows_law n [] w script.0 script.1 runs.tables)
