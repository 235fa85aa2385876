-- Refusals by the statement and the schemas alone, tried at the table t.
use Rattle.std.specs.Prelude.{◌≡◌, refl, [], ◌∷◌, Some, None, codes}
use Rattle.sql_model.specs.Types.{Catalog, NoTable, NoColumn}
use Rattle.sql_model.specs.Refusals.{check_refusal}
use Rattle.sql_model.specs.Scope.{catalog_of}
use Rattle.sql_model.proofs.Folds.{fold-Column}
use Rattle.sql_model.proofs.WorkedTables.{table_t, column, column_of, unnamed, source, core_of, selected, query_of}

abbrev catalog_t : Catalog
catalog_t = catalog_of (table_t 5 ∷ [])

-- SELECT z FROM u
no_table : check_refusal (query_of (selected (unnamed (column (codes "z")) ∷ []) (source (codes "u") (codes "u") ∷ []) [] ∷ [])) catalog_t ≡ Some NoTable
no_table = refl

-- SELECT t.k FROM t, t
same_source_twice : check_refusal (query_of (selected (unnamed (column_of (codes "t") (codes "k")) ∷ []) (source (codes "t") (codes "t") ∷ source (codes "t") (codes "t") ∷ []) [] ∷ [])) catalog_t ≡ Some NoTable
same_source_twice = refl

-- SELECT k FROM t x, t y
column_of_two_sources : check_refusal (query_of (selected (unnamed (column (codes "k")) ∷ []) (source (codes "t") (codes "x") ∷ source (codes "t") (codes "y") ∷ []) [] ∷ [])) catalog_t ≡ Some NoColumn
column_of_two_sources = simp fold-Column

-- SELECT g, v FROM t GROUP BY g
ungrouped_column : check_refusal (query_of (core_of (unnamed (column (codes "g")) ∷ unnamed (column (codes "v")) ∷ []) (source (codes "t") (codes "t") ∷ []) [] (record { table = None; name = codes "g" } ∷ []) None ∷ [])) catalog_t ≡ Some NoColumn
ungrouped_column = simp fold-Column
