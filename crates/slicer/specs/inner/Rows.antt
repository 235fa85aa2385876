-- Sets of rows, and the reasons for the rows of a set.
use Rattle.std.specs.Prelude.{ℕ, ◌/◌, ◌%◌, ◌==◌, List, [], ◌∷◌, Bool, true, false, not, ◌&&◌}
use Rattle.std.specs.Prelude.{Option, Some, None, unwrap_or, String}
use Rattle.std.specs.List.{list_all, list_any}
use Rattle.std.specs.Option.{option_or}
use Rattle.std.specs.declared.alloc.Global.{Global}
use Rattle.std.specs.BTreeMap.{BTreeMap, get, get_by_text}
use Rattle.std.specs.Ordering.{nat_cmp}
use Rattle.lanes.specs.Sets.{member}
use Rattle.ldv_value.specs.Options.{only_if}
use Rattle.sql_model.specs.Scope.{same_text}
use Rattle.sql_model.specs.declared.need.Need.{Need}
use Rattle.sql_model.specs.declared.table.Table.{Table}
use Rattle.run_model.specs.declared.event.Event.{Event}
use Rattle.run_model.specs.declared.package.PackedTable.{PackedTable}
use Rattle.run_model.specs.Slice.{Reason, first_reason, is_read, is_table_needed}
use Rattle.trace_graph.specs.declared.node.Node.{Node}
use Rattle.trace_graph.specs.declared.node.Node.TheVariants.{Row}
use Rattle.trace_graph.specs.declared.edge.Edge.{Edge}
use Rattle.trace_graph.specs.Graph.{Parts, same_node}
use Rattle.trace_graph.specs.GraphLaws.{passes_at}
use Rattle.trace_graph.specs.VersionLaws.{is_statement}
use Rattle.run_model.specs.declared.first_reasons.Why.{Why}
use Rattle.slicer.specs.InitialRows.{at_first, is_initial_node}
use Rattle.run_model.specs.Packing.{reason_at, tables_because}

-- ---- sets of rows

abbrev pub words_at : BTreeMap ℕ (List ℕ) → ℕ → List ℕ
words_at numbers block = unwrap_or (get nat_cmp numbers block) []

-- 4,096 numbers are in a block
abbrev pub has_number : BTreeMap ℕ (List ℕ) → ℕ → Bool
has_number numbers number = member (words_at numbers (number / 4096)) (number % 4096)

abbrev pub has_among : Option (BTreeMap ℕ (List ℕ)) → ℕ → Bool
has_among None number = false
has_among (Some numbers) number = has_number numbers number

abbrev pub has_row : BTreeMap (String Global) (BTreeMap ℕ (List ℕ)) → List ℕ → ℕ → Bool
has_row rows table row = has_among (get_by_text rows table) row

-- the words of a block of a table; none where it isn't there
abbrev pub words_among : Option (BTreeMap ℕ (List ℕ)) → ℕ → List ℕ
words_among None block = []
words_among (Some numbers) block = words_at numbers block

abbrev pub words_in : BTreeMap (String Global) (BTreeMap ℕ (List ℕ)) → List ℕ → ℕ → List ℕ
words_in rows table block = words_among (get_by_text rows table) block

-- a number of a block is among the words
abbrev pub is_in : ℕ → List ℕ → ℕ → Bool
is_in block words number = block == number / 4096 && member words (number % 4096)

-- one row is another
abbrev pub is_row : List ℕ → ℕ → List ℕ → ℕ → Bool
is_row table row other_table other_row = same_text table other_table && row == other_row

-- ---- rows of a graph

-- an edge goes from a statement to the row as it was at first
abbrev pub is_led : List Node → List ℕ → ℕ → Edge → Bool
is_led nodes table row edge = passes_at is_statement nodes edge.source
    && passes_at (same_node (Row (at_first table row))) nodes edge.target

-- ---- reads

-- one of the reads is of the row
abbrev pub asks : List ℕ → ℕ → List Need → Bool
asks table row needs = list_any (is_read table row) needs

-- a read is of the block of another
abbrev pub is_of_block : Need → Need → Bool
is_of_block head need =
    same_text head.member.table need.member.table && head.member.row / 4096 == need.member.row / 4096

-- all reads are of one block
abbrev pub are_of_block : List Need → Bool
are_of_block [] = true
are_of_block (head ∷ others) = list_all (is_of_block head) others

-- ---- reasons

-- the reason for a row that has one, and a later one for an initial row that wasn't needed yet
abbrev pub reason_due : BTreeMap (String Global) (BTreeMap ℕ Why)
    → BTreeMap (String Global) (BTreeMap ℕ (List ℕ))
    → BTreeMap (String Global) (BTreeMap ℕ (List ℕ)) → List ℕ → ℕ → Option Reason → Option Reason
reason_due reasons initial needed table row later = option_or (reason_at reasons table row)
    (only_if (has_row initial table row && not (has_row needed table row)) later)

-- of an initial row of the graph, the first reason
abbrev pub graph_reason : List Event → Parts → List ℕ → ℕ → Option Reason
graph_reason events graph table row =
    only_if (is_initial_node graph (at_first table row)) (first_reason table row events)

-- the tables that statements ask, with the initial rows of the graph
abbrev pub tables_from : List Event → Parts → List Table → List PackedTable
tables_from events graph tables = tables_because (graph_reason events graph) (is_table_needed events) tables
