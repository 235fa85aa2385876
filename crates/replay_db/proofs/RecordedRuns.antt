-- The record of a run makes the package of that run.
use Rattle.std.proofs.Common.{◌≡◌, ℕ, [], sym, ap, ◌∙◌, true, false}
use Rattle.std.specs.Prelude.{Some, None, if◌then◌else◌}
use Rattle.run_model.specs.Package.{package_of}
use Rattle.run_model.specs.Slice.{files_needed, tables_needed}
use Rattle.run_model.specs.WorldRun.{ends_within}
use Rattle.replay_db.specs.inner.Recording.{HasNotEnded, IsTraced, package_of_traced}
use Rattle.replay_db.specs.Runs.{Stops, package_within}
use Rattle.replay_db.specs.Types.{Mode, Included, Package, World}
use Rattle.replay_db.specs.declared.error.EndStop.{EndStop}
use Rattle.replay_db.specs.declared.error.EndStop.TheVariants.{NotEnded, NoMemory}
use Rattle.replay_db.specs.declared.trace.Traced.{Traced}

-- of a run that has ended
pub package_is : (mode : Mode) (n : ℕ) (w : World) → ends_within n w ≡ true
    → package_within mode n w ≡ Some (package_of mode n w)
package_is mode n w ended = ap (λ b. if b then Some (package_of mode n w) else None) ended

-- of one that hasn't
pub package_none : (mode : Mode) (n : ℕ) (w : World) → ends_within n w ≡ false → package_within mode n w ≡ None
package_none mode n w going = ap (λ b. if b then Some (package_of mode n w) else None) going

packed_same : (n : ℕ) (w : World) (t : Traced) → IsTraced n w t → package_of_traced w t ≡ package_of Included n w
packed_same n w t traced = λ j. record {
  mode = Included;
  start = w.start;
  seed = w.seed;
  steps = traced.steps j;
  files = files_needed (traced.events j) w.files;
  tables = tables_needed (traced.events j) w.tables;
  logs = [];
  events = traced.events j;
}

pub package_packed : (n : ℕ) (w : World) (t : Traced) (p : Package) → IsTraced n w t → p ≡ package_of_traced w t
    → package_within Included n w ≡ Some p
package_packed n w t p traced is =
    package_is Included n w traced.ended ∙ ap Some (sym (packed_same n w t traced) ∙ sym is)

pub package_stops : (mode : Mode) (n : ℕ) (w : World) (stop : EndStop) → HasNotEnded n w stop
    → Stops stop (package_within mode n w)
package_stops mode n w NotEnded going = package_none mode n w going
package_stops mode n w NoMemory going = tt
