-- Initial rows in the events of a run, and in its graph.
use Rattle.std.specs.Prelude.{◌≡◌, ℕ, ◌==◌, List, Bool, true, false, not, ◌&&◌, is_some, Some}
use Rattle.std.specs.List.{list_any}
use Rattle.script_parse.specs.declared.script.Instr.{Instr}
use Rattle.sql_model.specs.Scope.{same_text}
use Rattle.sql_model.specs.Tables.{tables_test}
use Rattle.sql_model.specs.declared.need.Member.{Member}
use Rattle.sql_model.specs.declared.table.Table.{Table}
use Rattle.run_model.specs.declared.event.Event.{Event}
use Rattle.run_model.specs.declared.package.PackedTable.{PackedTable}
use Rattle.run_model.specs.declared.world.World.{World}
use Rattle.run_model.specs.Slice.{first_reason, is_table_needed}
use Rattle.run_model.specs.Start.{start_script}
use Rattle.run_model.specs.WorldRun.{events_by}
use Rattle.trace_graph.specs.declared.node.Node.TheVariants.{Row}
use Rattle.trace_graph.specs.Graph.{Parts, same_node}
use Rattle.trace_graph.specs.GraphLaws.{leads}
use Rattle.trace_graph.specs.VersionLaws.{has_version, makes_version, is_statement}

-- a table has a row of this number at first
abbrev pub is_row_of : List Table → List ℕ → ℕ → Bool
is_row_of tables table row =
    list_any (λ t. same_text t.name table && list_any (λ r. r.number == row) t.rows) tables

-- the row as it was at first
abbrev pub at_first : List ℕ → ℕ → Member
at_first table row = record { table = table; row = row; version = 0 }

-- an event reads the version, makes it, or makes another of it
abbrev pub is_seen : Member → List Event → Bool
is_seen version events = list_any (λ e. has_version version e.act) events

-- an event makes the version
abbrev pub is_made : Member → List Event → Bool
is_made version events = list_any (λ e. makes_version version e.act) events

-- what the events of a run that began with these tables say of rows
pub record ReadsInitialRows (events : List Event) (tables : List Table) : Type 0 where
  -- no statement makes an initial row
  pub unmade : (table : List ℕ) (row : ℕ) → is_row_of tables table row ≡ true
      → is_made (at_first table row) events ≡ false
  -- an initial row that a statement needs is seen as it was at first, and the other way round
  pub at_first_seen : (table : List ℕ) (row : ℕ) → is_row_of tables table row ≡ true
      → is_some (first_reason table row events) ≡ is_seen (at_first table row) events
  -- every other row that is seen in its first version is made by a statement
  pub others_made : (table : List ℕ) (row : ℕ) → is_row_of tables table row ≡ false
      → is_seen (at_first table row) events ≡ true
      → is_made (at_first table row) events ≡ true
  -- a statement that needs a row names its table
  pub named : (table : List ℕ) (row : ℕ) → is_some (first_reason table row events) ≡ true
      → is_table_needed events table ≡ true

-- the events of a run read each initial row first as it was at first, and make none of them
abbrev pub InitialRowsLaw : Type 0
InitialRowsLaw = (n : ℕ) (picks : List ℕ) (w : World) (script : List Instr) → start_script w ≡ Some script
    → tables_test w.tables ≡ true
    → ReadsInitialRows (events_by n picks w) w.tables

-- the graph has the row as it was at first, and no statement made it
abbrev pub is_initial_node : Parts → Member → Bool
is_initial_node graph version = version.version == 0
    && (list_any (same_node (Row version)) graph.nodes && not (leads is_statement (Row version) graph))

-- packed rows have it
abbrev pub is_packed : List PackedTable → Member → Bool
is_packed tables version = version.version == 0
    && list_any (λ t. same_text t.name version.table && list_any (λ r. r.number == version.row) t.rows) tables
