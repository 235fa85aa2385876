-- The law of worlds between: a cut world that keeps all that a run needs runs as the whole world does, and
-- yields the same package. It holds for all statements, over every world whose tables are valid.
--
-- A package's own world lies between, so its replay has the outcome of the recorded run.
use Rattle.std.specs.Prelude.{◌≡◌, ℕ, ◌≤◌, List, [], true, Some}
use Rattle.script_parse.specs.declared.script.Instr.{Instr}
use Rattle.sql_model.specs.Tables.{tables_test}
use Rattle.run_laws.specs.Types.{Mode, Included, World}
use Rattle.run_model.specs.Between.{CutOf, Between, slice_of}
use Rattle.run_model.specs.Package.{package_by, package_of, own_world}
use Rattle.run_model.specs.Start.{start_script}
use Rattle.run_model.specs.WorldRun.{ends_by, outcome_by, events_by}

-- a run of at most n steps, the first by given picks and the others by the seed, has the same script,
-- outcome (or none yet), events and packages
pub record SameRun (n : ℕ) (picks : List ℕ) (v w : World) (script : List Instr) : Type 0 where
  pub script_same : start_script v ≡ Some script
  pub ends : ends_by n picks v ≡ ends_by n picks w
  pub outcome : outcome_by n picks v ≡ outcome_by n picks w
  pub events : events_by n picks v ≡ events_by n picks w
  pub packed : (mode : Mode) → package_by mode n picks v ≡ package_by mode n picks w

-- any world between the slice and the world
abbrev pub BetweenLaw : Type 0
BetweenLaw = (n : ℕ) (w v : World) (script : List Instr) → start_script w ≡ Some script
    → tables_test w.tables ≡ true
    → Between n v w
    → SameRun n [] v w script

-- the same where both runs go by one list of picks, whatever they are; needs and slice are those of that run
abbrev pub InterleavingLaw : Type 0
InterleavingLaw = (n : ℕ) (picks : List ℕ) (w v : World) (script : List Instr) → start_script w ≡ Some script
    → tables_test w.tables ≡ true
    → CutOf (events_by n picks w) v w
    → SameRun n picks v w script

-- the slice is itself between, and is the package's own world: what a run asks has its parents with it
abbrev pub SliceLaw : Type 0
SliceLaw = (n : ℕ) (w : World) → tables_test w.tables ≡ true → Between n (slice_of n w) w

abbrev pub OwnLaw : Type 0
OwnLaw = (n : ℕ) (w : World) → own_world (package_of Included n w) ≡ slice_of n w

-- the package's own world has the outcome of the recorded run, and that very package
abbrev pub ReplayLaw : Type 0
ReplayLaw = (n : ℕ) (w : World) (script : List Instr) → start_script w ≡ Some script
    → tables_test w.tables ≡ true
    → SameRun n [] (own_world (package_of Included n w)) w script

-- a run that has ended stays as it is: with more steps it yields the same
pub record SettledRun (n budget : ℕ) (picks : List ℕ) (w : World) : Type 0 where
  pub outcome : outcome_by budget picks w ≡ outcome_by n picks w
  pub packed : (mode : Mode) → package_by mode budget picks w ≡ package_by mode n picks w

abbrev pub EndedLaw : Type 0
EndedLaw = (n budget : ℕ) (picks : List ℕ) (w : World) → ends_by n picks w ≡ true → n ≤ budget
    → SettledRun n budget picks w
