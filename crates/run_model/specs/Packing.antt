-- Sets of names and maps of reasons in memory, and the tables that they pack.
use Rattle.std.specs.Prelude.{ℕ, List, map, filter, Bool, ◌&&◌, ◌==◌, Option, is_some, option_and_then}
use Rattle.std.specs.Prelude.{if◌then◌else◌, Some, None, String}
use Rattle.std.specs.List.{filter_map}
use Rattle.std.specs.Option.{option_map}
use Rattle.std.specs.declared.alloc.Global.{Global}
use Rattle.std.specs.BTreeMap.{BTreeMap, get, get_by_text}
use Rattle.std.specs.Ordering.{nat_cmp}
use Rattle.sql_model.specs.Scope.{same_text}
use Rattle.sql_model.specs.declared.need.Need.{Need}
use Rattle.sql_model.specs.declared.table.Table.{Table}
use Rattle.sql_model.specs.declared.table.TableRow.{TableRow}
use Rattle.run_model.specs.declared.package.PackedRow.{PackedRow}
use Rattle.run_model.specs.declared.package.PackedTable.{PackedTable}
use Rattle.run_model.specs.Slice.{Reason, is_read, packed_because}
use Rattle.run_model.specs.declared.first_reasons.Why.{Why}

abbrev pub has_name : BTreeMap (String Global) (Unit {0}) → List ℕ → Bool
has_name names name = is_some (get_by_text names name)

abbrev pub reason_from : Why → Reason
reason_from why = record { statement = why.statement; rule = why.rule }

abbrev pub row_reason : BTreeMap ℕ Why → ℕ → Option Reason
row_reason rows row = option_map reason_from (get nat_cmp rows row)

abbrev pub reason_among : Option (BTreeMap ℕ Why) → ℕ → Option Reason
reason_among rows row = option_and_then (λ rows. row_reason rows row) rows

abbrev pub reason_at : BTreeMap (String Global) (BTreeMap ℕ Why) → List ℕ → ℕ → Option Reason
reason_at reasons table row = reason_among (get_by_text reasons table) row

abbrev pub reason_of_row : ℕ → Why → ℕ → Option Reason
reason_of_row needed why row = if needed == row then Some (reason_from why) else None

abbrev pub reason_of_named : List ℕ → ℕ → Why → List ℕ → ℕ → Option Reason
reason_of_named named needed why table row =
    if same_text named table && needed == row then Some (reason_from why) else None

abbrev pub reason_of_read : ℕ → Need → List ℕ → ℕ → Option Reason
reason_of_read statement need table row = if is_read table row need
    then Some (record { statement = statement; rule = need.rule }) else None

abbrev pub row_because : (ℕ → Option Reason) → TableRow → Option PackedRow
row_because reason row = option_map (packed_because row) (reason row.number)

abbrev pub table_because : (List ℕ → ℕ → Option Reason) → Table → PackedTable
table_because reason table = record {
  name = table.name;
  schema = table.schema;
  next = table.next;
  rows = filter_map (row_because (reason table.name)) table.rows;
}

abbrev pub tables_because : (List ℕ → ℕ → Option Reason) → (List ℕ → Bool) → List Table → List PackedTable
tables_because reason is_named tables =
    map (table_because reason) (filter (λ table. is_named table.name) tables)
