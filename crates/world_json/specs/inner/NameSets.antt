-- The tests of the fault Name, by the set of the column names of a table and the set of all table names.
use Rattle.std.specs.Prelude.{ℕ, List, Bool, not, ◌&&◌}
use Rattle.std.specs.Borrow.{Bor}
use Rattle.std.specs.List.{list_all}
use Rattle.std.specs.BTreeSet.{contains_by, BTreeSet}
use Rattle.std.specs.Cmp.Lexicographic.{slice_cmp}
use Rattle.std.specs.Ordering.{nat_cmp}
use Rattle.sql_model.specs.Keys.{repeats}
use Rattle.sql_model.specs.Scope.{same_text}
use Rattle.sql_model.specs.SqlNames.{sql_name_test}
use Rattle.sql_model.specs.Tables.{column_names_test}
use Rattle.world_json.specs.Faults.{is_key_named}
use Rattle.world_json.specs.declared.document.Draft.{Draft}
use Rattle.world_json.specs.declared.document.DraftForeign.{DraftForeign}

abbrev pub Names : Type 0
Names = BTreeSet (Bor (List ℕ))

abbrev pub is_known : Names → List ℕ → Bool
is_known known name = contains_by (λ other. slice_cmp nat_cmp name other.now) known

-- each name of a key is known, and no two are the same
abbrev pub is_key_known : Names → List (List ℕ) → Bool
is_key_known columns key = list_all (is_known columns) key && not (repeats same_text key)

abbrev pub is_foreign_known : Names → Names → DraftForeign → Bool
is_foreign_known columns tables foreign =
    is_key_known columns foreign.columns && is_known tables foreign.parent

-- by the columns of the table
abbrev pub is_parent_known : Names → Draft → DraftForeign → Bool
is_parent_known tables table foreign =
    is_key_named table.columns foreign.columns && is_known tables foreign.parent

abbrev pub are_keys_known : Names → Draft → Bool
are_keys_known tables table =
    is_key_named table.columns table.key && list_all (is_parent_known tables table) table.foreign

abbrev pub is_table_known : Names → Draft → Bool
is_table_known tables table =
    sql_name_test table.name && column_names_test table.columns && are_keys_known tables table
