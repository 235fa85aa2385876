-- A run over an engine whose replies are kept is the run of its world, and makes its package.
use Rattle.std.proofs.Common.{◌≡◌, ℕ, List, [], ◌++◌, refl, sym, ap, ◌∙◌, Bool, true}
use Rattle.std.specs.Prelude.{Some, slice_get}
use Rattle.proc_core.specs.Stands.{AppendsEvents}
use Rattle.run_model.specs.Core.{Core, Divergence, have_all_ended}
use Rattle.run_model.specs.Events.{events, start_events}
use Rattle.run_model.specs.Package.{package_of}
use Rattle.run_model.specs.Run.{run, steps}
use Rattle.run_model.specs.Slice.{files_needed}
use Rattle.run_model.specs.SqlDatabase.{SqlDatabase, sql_base, initial_database}
use Rattle.run_model.specs.Start.{start_script, start_state}
use Rattle.run_model.specs.WorldRun.{ends_within, steps_by, events_within, logs_in, logs_by}
use Rattle.run_laws.specs.KeptLaw.{KeepsRun}
use Rattle.run_laws.specs.KeptReplies.{KeepingDatabase, keeping_base, logs_kept}
use Rattle.replay_db.specs.inner.Logging.{kept_start, IsLogged, packed_logs}
use Rattle.replay_db.specs.Runs.{package_within}
use Rattle.replay_db.specs.Types.{Excluded, Event, Instr, Log, Package, World}
use Rattle.replay_db.specs.declared.logged.Logged.{Logged}
use Rattle.replay_db.proofs.EndedRuns.{ends_as, counts_as, told_all}
use Rattle.run_laws.proofs.KeptRuns.{kept_law}
use Rattle.replay_db.proofs.RecordedRuns.{package_is}
use Rattle.run_laws.proofs.SqlAnswers.{never_diverged}

module _ (n : ℕ) (w : World) (script : List Instr) (is : start_script w ≡ Some script) where
  keeps : KeepsRun sql_base n [] (kept_start w script) (start_state w script)
  keeps = kept_law SqlDatabase sql_base n [] w.start w.seed w.files script (initial_database w.tables)

  abbrev core : Core
  core = (run (keeping_base sql_base) n [] (kept_start w script)).core

  pub kept_ends : (b : Bool) → have_all_ended core ≡ b → ends_within n w ≡ b
  kept_ends b all = ends_as n w script is b (ap have_all_ended (sym keeps.core) ∙ all)

  pub kept_counts : (count : ℕ) → count ≡ steps (keeping_base sql_base) n [] (kept_start w script) → count ≡ steps_by n [] w
  kept_counts count made = counts_as n w script is count (made ∙ keeps.count)

  pub kept_told : (old new : List Event) → old ≡ start_events (slice_get w.start 0)
      → AppendsEvents true old new (events (keeping_base sql_base) n 1 [] (kept_start w script)) → new ≡ events_within n w
  kept_told old new first later =
      told_all n w script is true [] old new (λ on. first)
      (λ on. later on ∙ ap (λ (es : List Event). old ++ es) keeps.told) refl

  pub kept_logs : (db : KeepingDatabase SqlDatabase) (logs : List Log)
      → db ≡ (run (keeping_base sql_base) n [] (kept_start w script)).db → logs ≡ logs_kept db.kept → logs ≡ logs_by n [] w
  kept_logs db logs same made =
      made ∙ ap (λ (k : KeepingDatabase SqlDatabase). logs_kept k.kept) same ∙ keeps.logs ∙ sym (ap (logs_in n [] w) is)

  pub kept_never : (d : Divergence) → core.diverged ≡ Some d → ⊥
  kept_never d stopped =
      never_diverged n [] (start_state w script) refl d (ap (λ (c : Core). c.diverged) (sym keeps.core) ∙ stopped)

-- ---- the package

logged_same : (n : ℕ) (w : World) (l : Logged) → IsLogged n w l → packed_logs w l ≡ package_of Excluded n w
logged_same n w l logged = λ j. record {
  mode = Excluded;
  start = w.start;
  seed = w.seed;
  steps = logged.steps j;
  files = files_needed (logged.events j) w.files;
  tables = [];
  logs = logged.logs j;
  events = logged.events j;
}

pub package_logged : (n : ℕ) (w : World) (l : Logged) (p : Package) → IsLogged n w l → p ≡ packed_logs w l
    → package_within Excluded n w ≡ Some p
package_logged n w l p logged is =
    package_is Excluded n w logged.ended ∙ ap Some (sym (logged_same n w l logged) ∙ sym is)
