-- The words of `join`, and of the replay of one of its two runs.
use Rattle.std.specs.Prelude.{ℕ, List, [], ◌∷◌, codes, bytes_eq, if◌then◌else◌, Option, Some, None}
use Rattle.std.specs.Prelude.{option_map}
use Rattle.joined_data.specs.declared.joined.Which.{Which}
use Rattle.joined_data.specs.declared.joined.Which.TheVariants.{First, Second}
use Rattle.ldv_top.specs.declared.command.Command.{Command}
use Rattle.ldv_top.specs.declared.command.Command.TheVariants.{Join, ReplayRun}

-- after the word `join`
abbrev pub join_of : List (List ℕ) → Option Command
join_of [] = Some Join
join_of (word ∷ words) = None

-- K of `--run K`
abbrev pub which_of : List ℕ → Option Which
which_of number =
    if bytes_eq number (codes "1") then Some First
    else (if bytes_eq number (codes "2") then Some Second else None)

-- `replay --run K`
abbrev pub replay_of_run : List ℕ → List ℕ → ℕ → Option Command
replay_of_run word number budget =
    if bytes_eq word (codes "replay")
    then option_map (λ which. ReplayRun which budget) (which_of number) else None
