-- The laws of lineages as sets: the steps of evaluation that keep answers and needs the same.
use Rattle.std.specs.Prelude.{◌≡◌, ℕ, List, take, drop, ◌&&◌}
use Rattle.std.specs.List.{list_any}
use Rattle.sql_model.specs.QueryAnswer.{Origin, AnswerRow, SortKey, lineage_of, has_values, merged_row, merge}
use Rattle.sql_model.specs.QueryAnswer.{sort_rows}
use Rattle.sql_model.specs.Needs.{sorted_needs}
use Rattle.sql_model.specs.Origins.{has_origin, SameSet, SameRows, RuleOrigins, rows_by_rules, SameRuleOrigins}
use Rattle.sql_laws.specs.Types.{Value}

-- merging rows of the same values unites their lineages, and no row is lost
abbrev pub MergeLaw : Type 0
MergeLaw = (rows : List AnswerRow) → SameSet (lineage_of (merge rows)) (lineage_of rows)

-- the row that is merged from the rows of some values comes from the rows that one of them comes from
abbrev pub UnitesLaw : Type 0
UnitesLaw = (rows : List AnswerRow) (values : List Value) (o : Origin)
    → has_origin o (merged_row rows values).lineage
    ≡ list_any (λ row. has_values values row && has_origin o row.lineage) rows

-- it looks at lineages as sets
abbrev pub MergeSetsLaw : Type 0
MergeSetsLaw = (a b : List AnswerRow) → SameRows a b → SameRows (merge a) (merge b)

-- sorting loses no row, and looks at no lineage
abbrev pub SortLaw : Type 0
SortLaw = (keys : List SortKey) (rows : List AnswerRow)
    → SameSet (lineage_of (sort_rows keys rows)) (lineage_of rows)

abbrev pub SortSetsLaw : Type 0
SortSetsLaw = (keys : List SortKey) (a b : List AnswerRow) → SameRows a b
    → SameRows (sort_rows keys a) (sort_rows keys b)

-- so are the first rows, and the others
abbrev pub CutSetsLaw : Type 0
CutSetsLaw = (n : ℕ) (a b : List AnswerRow) → SameRows a b
    → SameRows (take n a) (take n b) × SameRows (drop n a) (drop n b)

-- a list of needed rows is sorted, each row once with its first rule: it looks at lineages as sets
abbrev pub NeedsLaw : Type 0
NeedsLaw =
    (a b : List RuleOrigins) → SameRuleOrigins a b
    → sorted_needs (rows_by_rules a) ≡ sorted_needs (rows_by_rules b)
