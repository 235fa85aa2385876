-- The words of `table`.
use Rattle.std.specs.Prelude.{ℕ, List, [], ◌∷◌, if◌then◌else◌, Option, None, option_map}
use Rattle.std.specs.Prelude.{option_and_then}
use Rattle.ldv_value.specs.Limits.{max_steps, default_steps}
use Rattle.sql_model.specs.SqlNames.{sql_name_test}
use Rattle.ldv_top.specs.declared.command.Command.{Command}
use Rattle.ldv_top.specs.declared.command.Command.TheVariants.{Table}
use Rattle.ldv_top.specs.WordNumbers.{number_within}
use Rattle.ldv_top.specs.WordsOfRuns.{budget_in}

-- `NAME STEP`, with the steps that the run may take
abbrev pub table_named : List ℕ → List ℕ → ℕ → Option Command
table_named name step budget =
    if sql_name_test name then option_map (λ number. Table name number budget) (number_within max_steps step)
    else None

-- by the words after `table`
abbrev pub table_of : List (List ℕ) → Option Command
table_of [] = None
table_of (name ∷ []) = None
table_of (name ∷ step ∷ []) = table_named name step default_steps
table_of (name ∷ step ∷ option ∷ []) = None
table_of (name ∷ step ∷ option ∷ number ∷ []) =
    option_and_then (table_named name step) (budget_in option number)
table_of (name ∷ step ∷ option ∷ number ∷ more ∷ words) = None
