-- The words of `prov`.
use Rattle.std.specs.Prelude.{ℕ, List, [], ◌∷◌, codes, bytes_eq, ◌&&◌, if◌then◌else◌, Option, Some, None}
use Rattle.ldv_value.specs.Names.{path_test}
use Rattle.ldv_top.specs.declared.command.Command.{Command}
use Rattle.ldv_top.specs.declared.command.Command.TheVariants.{Prov, ProvDepends}

-- `depends PATH`
abbrev pub prov_depends_named : List ℕ → List ℕ → Option Command
prov_depends_named word path =
    if bytes_eq word (codes "depends") && path_test path then Some (ProvDepends path) else None

-- by the words after `prov`
abbrev pub prov_of : List (List ℕ) → Option Command
prov_of [] = Some Prov
prov_of (word ∷ []) = None
prov_of (word ∷ path ∷ []) = prov_depends_named word path
prov_of (word ∷ path ∷ more ∷ words) = None
