-- The due output of `migrate`: the package in the second version.
use Rattle.std.specs.Prelude.{ℕ, List}
use Rattle.run_model.specs.declared.package.Package.{Package}
use Rattle.package_layout.specs.Whole.{spelling}
use Rattle.ldv_top.specs.DueParts.{DueOutput, due_spelling, due_of_package}

abbrev pub migrated_package : Package → DueOutput
migrated_package p = due_spelling (spelling p)

-- of a package of either version and either kind
abbrev pub due_migrate : List ℕ → DueOutput
due_migrate input = due_of_package migrated_package input
