-- One valid table whose foreign keys have their parents is a database.
use Rattle.std.proofs.Common.{◌≡◌, refl, true, [], ◌∷◌}
use Rattle.std.specs.Prelude.{◌&&◌}
use Rattle.sql_model.specs.ForeignKeys.{have_parents}
use Rattle.sql_model.specs.Scope.{catalog_of}
use Rattle.sql_model.specs.Tables.{is_database, is_valid_table}
use Rattle.sql_model.specs.declared.table.Table.{Table}
use Rattle.ldv_value.proofs.Booleans.{and-from}

pub one_database : (t : Table) → is_valid_table t ≡ true → have_parents (catalog_of (t ∷ [])) ≡ true → is_database (t ∷ []) ≡ true
one_database t valid parents =
    and-from ((is_valid_table t && true) && true) (have_parents (catalog_of (t ∷ [])))
    (and-from (is_valid_table t && true) true (and-from (is_valid_table t) true valid refl) refl) parents
