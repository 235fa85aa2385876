-- References of rows, table by table, and keys in a set, in the order of values.
use Rattle.std.specs.Prelude.{List, Bool, not, ◌||◌, ◌&&◌, nat_eq, Some}
use Rattle.std.specs.BTreeSet.{BTreeSet, contains_by}
use Rattle.std.specs.Cmp.Lexicographic.{pointwise}
use Rattle.std.specs.List.{list_any, list_all}
use Rattle.sql_model.specs.Keys.{values_at}
use Rattle.ldv_value.specs.Order.{values_order}
use Rattle.sql_model.specs.Meaning.{is_null}
use Rattle.sql_model.specs.References.{all_have_parents, has_parent}
use Rattle.sql_model.specs.Scope.{same_text}
use Rattle.sql_model.specs.Types.{Value, Foreign, Table, TableRow}

-- a row refers to no key, or to one of a set
abbrev pub refers_among : BTreeSet (List Value) → Foreign → TableRow → Bool
refers_among keys foreign row =
    list_any is_null (values_at foreign.columns row.values)
    || contains_by (values_order (values_at foreign.columns row.values)) keys

-- a foreign key, and rows of its table
pub record Referring : Type 0 where
  pub foreign : Foreign
  pub rows : List TableRow

-- the foreign key names the table
abbrev pub names : Table → Referring → Bool
names parent r = same_text parent.name r.foreign.parent

-- none of the rows lacks its parent among some tables
abbrev pub hold_in : List Table → Referring → Bool
hold_in parents r = all_have_parents parents r.rows r.foreign

abbrev pub table_holds_in : List Table → Table → Bool
table_holds_in parents table = list_all (all_have_parents parents table.rows) table.schema.foreign

-- where the foreign key names the table, none of the rows lacks its parent in it
abbrev pub holds_by : Table → Referring → Bool
holds_by parent r = not (names parent r) || list_all (has_parent (Some parent) r.foreign) r.rows

abbrev pub same_foreign : Foreign → Foreign → Bool
same_foreign foreign other =
    pointwise nat_eq foreign.columns other.columns && same_text foreign.parent other.parent
