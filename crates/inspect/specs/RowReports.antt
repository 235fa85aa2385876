-- `inspect rows`: the rows of a package, each with the first statement that needed it, and the rule.
use Rattle.std.specs.Prelude.{ℕ, List, ◌++◌, codes}
use Rattle.std.specs.List.{flat_map}
use Rattle.std.specs.Fmt.{decimal}
use Rattle.inspect.specs.Types.{PackedRow, PackedTable, Rule, L, H, K, P, C}
use Rattle.run_model.specs.OutcomeText.{line}

abbrev pub rule_text : Rule → List ℕ
rule_text L = codes "L"
rule_text H = codes "H"
rule_text K = codes "K"
rule_text P = codes "P"
rule_text C = codes "C"

-- `TABLE ROW STATEMENT RULE`
abbrev pub row_line : List ℕ → PackedRow → List ℕ
row_line table row =
    line (table ++ codes " " ++ decimal row.number ++ codes " " ++ decimal row.statement ++ codes " "
    ++ rule_text row.rule)

abbrev pub table_lines : PackedTable → List ℕ
table_lines table = flat_map (row_line table.name) table.rows

-- tables are sorted by name, and their rows by number
abbrev pub rows_report : List PackedTable → List ℕ
rows_report tables = flat_map table_lines tables
