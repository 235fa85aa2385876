-- The words of `run`, `record`, `replay` and `audit`, and the budget of any command.
use Rattle.std.specs.Prelude.{ℕ, List, [], ◌∷◌, codes, ◌&&◌, bytes_eq, if◌then◌else◌, Option, Some, None}
use Rattle.std.specs.Prelude.{option_and_then}
use Rattle.ldv_value.specs.Limits.{max_steps, default_steps}
use Rattle.run_model.specs.declared.package.Mode.TheVariants.{Included, Excluded}
use Rattle.ldv_top.specs.declared.command.Command.{Command}
use Rattle.ldv_top.specs.declared.command.Command.TheVariants.{Run, Record, Replay, ReplaySeed, Audit}
use Rattle.ldv_top.specs.WordNumbers.{number_within, positive_within}
use Rattle.ldv_top.specs.WordsOfJoins.{replay_of_run}

-- a command of one word
abbrev pub command_named : List ℕ → ℕ → Option Command
command_named word budget =
    if bytes_eq word (codes "run") then Some (Run budget)
    else (if bytes_eq word (codes "record") then Some (Record Included budget)
    else (if bytes_eq word (codes "replay") then Some (Replay budget)
    else (if bytes_eq word (codes "audit") then Some (Audit budget) else None)))

-- a command of a word and a flag
abbrev pub command_flagged : List ℕ → List ℕ → ℕ → Option Command
command_flagged word flag budget =
    if bytes_eq word (codes "record") && bytes_eq flag (codes "--excluded")
    then Some (Record Excluded budget) else None

-- N of `--steps N`, the last two words
abbrev pub budget_in : List ℕ → List ℕ → Option ℕ
budget_in option number = if bytes_eq option (codes "--steps") then positive_within max_steps number else None

-- the largest seed
abbrev pub max_seed : ℕ
max_seed = 18446744073709551615

-- a command of a word and a seed
abbrev pub command_seeded : List ℕ → ℕ → ℕ → Option Command
command_seeded word budget seed =
    if bytes_eq word (codes "replay") then Some (ReplaySeed seed budget) else None

-- S of `--seed S`, with the steps that the run may take
abbrev pub command_with_seed : List ℕ → List ℕ → ℕ → Option Command
command_with_seed word seed budget = option_and_then
    (command_seeded word budget) (number_within max_seed seed)

-- `--seed S` or `--run K` before `--steps N`
abbrev pub chosen_within : List ℕ → List ℕ → List ℕ → ℕ → Option Command
chosen_within word option choice budget =
    if bytes_eq option (codes "--seed") then command_with_seed word choice budget
    else (if bytes_eq option (codes "--run") then replay_of_run word choice budget else None)

-- `--seed S`, `--run K` or `--steps N`
abbrev pub command_with : List ℕ → List ℕ → List ℕ → Option Command
command_with word option number =
    if bytes_eq option (codes "--seed") then command_with_seed word number default_steps
    else (if bytes_eq option (codes "--run") then replay_of_run word number default_steps
    else option_and_then (command_named word) (budget_in option number))

-- by the first word and the others
abbrev pub run_of : List ℕ → List (List ℕ) → Option Command
run_of word [] = command_named word default_steps
run_of word (flag ∷ []) = command_flagged word flag default_steps
run_of word (option ∷ number ∷ []) = command_with word option number
run_of word (flag ∷ option ∷ number ∷ []) =
    option_and_then (command_flagged word flag) (budget_in option number)
run_of word (option ∷ choice ∷ steps ∷ number ∷ []) =
    option_and_then (chosen_within word option choice) (budget_in steps number)
run_of word (option ∷ choice ∷ steps ∷ number ∷ more ∷ words) = None
