-- The due output: an exit, and the bytes that are written if it is Done. The parts that commands share.
use Rattle.std.specs.Prelude.{ℕ, List, [], length, Bool, nat_lt, if◌then◌else◌, Option}
use Rattle.std.specs.Prelude.{Some, None, Result, Ok, Err}
use Rattle.ldv_value.specs.Limits.{input_limit}
use Rattle.run_model.specs.declared.outcome.Outcome.{Outcome}
use Rattle.run_model.specs.declared.package.Package.{Package}
use Rattle.run_model.specs.declared.world.World.{World}
use Rattle.run_model.specs.WorldRun.{outcome_within}
use Rattle.package_layout.specs.declared.damage.DamageKind.{DamageKind}
use Rattle.package_layout.specs.Valid.{reading}
use Rattle.ldv_top.specs.declared.exit.Exit.{Exit}
use Rattle.ldv_top.specs.declared.exit.Exit.TheVariants.{Done, TooLong, NotEnded, Damaged, PackageTooLong}

pub record DueOutput : Type 0 where
  pub exit : Exit
  pub bytes : List ℕ

abbrev pub due_refusal : Exit → DueOutput
due_refusal exit = record { exit = exit; bytes = [] }

abbrev pub due_bytes : List ℕ → DueOutput
due_bytes bytes = record { exit = Done; bytes = bytes }

-- ---- the run of a world

abbrev pub due_outcome : ℕ → (Outcome → DueOutput) → Option Outcome → DueOutput
due_outcome budget written None = due_refusal (NotEnded budget)
due_outcome budget written (Some outcome) = written outcome

-- what is written of the run within a budget, which has to end
abbrev pub due_of_run : ℕ → World → (Outcome → DueOutput) → DueOutput
due_of_run budget w written = due_outcome budget written (outcome_within budget w)

-- ---- a package to be spelled

abbrev pub is_too_long : List ℕ → Bool
is_too_long bytes = nat_lt input_limit (length bytes)

abbrev pub due_spelling : List ℕ → DueOutput
due_spelling bytes = if is_too_long bytes then due_refusal PackageTooLong else due_bytes bytes

-- ---- an input

abbrev pub due_of_reading : (Package → DueOutput) → Result Package DamageKind → DueOutput
due_of_reading due_of_package (Ok p) = due_of_package p
due_of_reading due_of_package (Err kind) = due_refusal (Damaged kind)

-- what is due for an input that has to be a package
abbrev pub due_of_package : (Package → DueOutput) → List ℕ → DueOutput
due_of_package due_of input =
    if is_too_long input then due_refusal TooLong else due_of_reading due_of (reading input)
