-- The words of `gen`.
use Rattle.std.specs.Prelude.{ℕ, List, [], ◌∷◌, Option, None, option_map}
use Rattle.ldv_top.specs.declared.command.Command.{Command}
use Rattle.ldv_top.specs.declared.command.Command.TheVariants.{Generate}
use Rattle.ldv_top.specs.WordNumbers.{positive_within}

-- the largest number of orders of a generated world
abbrev pub max_orders : ℕ
max_orders = 100000

-- by the words after `gen`
abbrev pub generate_of : List (List ℕ) → Option Command
generate_of [] = None
generate_of (number ∷ []) = option_map (λ orders. Generate orders) (positive_within max_orders number)
generate_of (number ∷ more ∷ words) = None
