-- The tables that a statement names, source by source.
use Rattle.std.proofs.Common.{◌≡◌, ◌∙◌, refl, List, [], ◌∷◌, ℕ, ◌||◌}
use Rattle.std.specs.List.{flat_map, list_any}
use Rattle.ldv_value.proofs.Lists.{list_any-append, list_any-map}
use Rattle.sql_engine.specs.inner.Listing.{is_text}
use Rattle.sql_engine.specs.Types.{Core}
use Rattle.sql_model.specs.Refusals.{tables_of_core}
use Rattle.sql_model.specs.declared.statement.FromItem.{FromItem}

pub cores_name : (name : List ℕ) (cores : List Core)
    → list_any (is_text name) (flat_map tables_of_core cores)
    ≡ list_any (λ core. list_any (λ item. is_text name item.table) core.from) cores
cores_name name [] = refl
cores_name name (core ∷ cores) =
    list_any-append (is_text name) (tables_of_core core) (flat_map tables_of_core cores)
    ∙ (λ j. list_any-map (is_text name) (λ (item : FromItem). item.table) core.from j || cores_name name cores j)
