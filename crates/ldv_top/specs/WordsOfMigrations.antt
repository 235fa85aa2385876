-- The words of `migrate`.
use Rattle.std.specs.Prelude.{ℕ, List, [], ◌∷◌, Option, Some, None}
use Rattle.ldv_top.specs.declared.command.Command.{Command}
use Rattle.ldv_top.specs.declared.command.Command.TheVariants.{Migrate}

-- it has no words after it
abbrev pub migrate_of : List (List ℕ) → Option Command
migrate_of [] = Some Migrate
migrate_of (word ∷ words) = None
