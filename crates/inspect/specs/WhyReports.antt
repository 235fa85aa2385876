-- `inspect why`: why a row is in a package.
use Rattle.std.specs.Prelude.{ℕ, ◌==◌, List, [], ◌++◌, codes, find, Bool, false, bytes_eq}
use Rattle.std.specs.Prelude.{Option, Some, None, option_map, option_and_then}
use Rattle.std.specs.Fmt.{decimal}
use Rattle.inspect.specs.Types.{Act, Event, PackedRow, PackedTable, NamedProcess}
use Rattle.run_model.specs.declared.event.Act.TheVariants as acts
use Rattle.run_model.specs.OutcomeText.{line}
use Rattle.inspect.specs.ProcessNames.{processes_of, name_in}
use Rattle.inspect.specs.RowReports.{rule_text}

-- ---- the row of a table

abbrev pub table_named : List ℕ → List PackedTable → Option PackedTable
table_named name tables = find (λ table. bytes_eq table.name name) tables

abbrev pub row_numbered : ℕ → List PackedRow → Option PackedRow
row_numbered number rows = find (λ row. row.number == number) rows

abbrev pub row_in : List PackedTable → List ℕ → ℕ → Option PackedRow
row_in tables name number =
    option_and_then (λ table. row_numbered number table.rows) (table_named name tables)

-- ---- the event in which a statement was asked

abbrev pub asks : ℕ → Act → Bool
asks statement (acts.Started path) = false
asks statement (acts.Spawned path) = false
asks statement (acts.Unspawned path found) = false
asks statement (acts.OpenedRead path) = false
asks statement (acts.OpenedWrite path) = false
asks statement (acts.OpenedAppend path found) = false
asks statement (acts.OpenedNew path) = false
asks statement (acts.Unopened path found) = false
asks statement (acts.Read path) = false
asks statement (acts.Wrote path) = false
asks statement (acts.Removed path) = false
asks statement (acts.Tested path found) = false
asks statement (acts.Waited child) = false
asks statement (acts.Ended status) = false
asks statement (acts.Asked asked tables reads made) = asked == statement

abbrev pub asked_in : List Event → ℕ → Option Event
asked_in events statement = find (λ e. asks statement e.act) events

-- ---- the report

-- `statement S process NAME step T rule R`
abbrev pub reason_line : List NamedProcess → PackedRow → Event → List ℕ
reason_line processes row e =
    line (codes "statement " ++ decimal row.statement ++ codes " process " ++ name_in processes e.process
    ++ codes " step " ++ decimal e.step ++ codes " rule " ++ rule_text row.rule)

-- by the event of the statement, which a valid package has
abbrev pub reason_text : List Event → PackedRow → Option Event → List ℕ
reason_text events row None = []
reason_text events row (Some e) = reason_line (processes_of events) row e

abbrev pub reason_of : List Event → PackedRow → List ℕ
reason_of events row = reason_text events row (asked_in events row.statement)

-- of a row of a table; none where there is no such row
abbrev pub why_report : List Event → List PackedTable → List ℕ → ℕ → Option (List ℕ)
why_report events tables name number = option_map (reason_of events) (row_in tables name number)
