-- The law of `inspect depends`.
use Rattle.std.specs.Prelude.{◌≡◌, ℕ, List, Ok}
use Rattle.run_model.specs.declared.package.Package.{Package}
use Rattle.package_layout.specs.Valid.{reading}
use Rattle.inspect.specs.DependsSources.{ListsSources}

-- The bytes list the nodes of the graph of the package's events from which a path of edges leads to the given
-- path by the end of the recorded run, and no others.
pub record Depends (path input bytes : List ℕ) : Type 0 where
  pub «package» : Package
  pub is_package : reading input ≡ Ok «package»
  pub listed : ListsSources «package».events «package».steps path bytes
