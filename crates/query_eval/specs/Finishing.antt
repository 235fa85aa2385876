-- ORDER BY and LIMIT.
use Rattle.std.specs.Prelude.{◌≡◌, ℕ, List, [], ◌∷◌, map, Bool, Option}
use Rattle.std.specs.declared.cmp.Ordering.{Ordering}
use Rattle.lineage.specs.Rows.{kept_origins, AnswersStandFor}
use Rattle.lineage.specs.StandsFor.{StandsFor}
use Rattle.lineage.specs.declared.answer.Answer.{Answer}
use Rattle.predicates.specs.Checking.{IsChecked}
use Rattle.query_eval.specs.Merging.{lineage_of_answers}
use Rattle.query_eval.specs.Types.{Catalog, Checked, Order, Query}
use Rattle.query_eval.specs.declared.order_limit.Finished.{Finished}
use Rattle.query_eval.specs.declared.sort.SortColumn.{SortColumn}
use Rattle.sql_model.specs.Needs.{Versions}
use Rattle.sql_model.specs.QueryAnswer.{AnswerRow, SortKey, lineage_of, sort_key, order_by, sort_rows}
use Rattle.sql_model.specs.QueryAnswer.{limit_of, first_rows, other_rows}
use Rattle.sql_model.specs.Refusals.{answer_columns}

-- ---- columns to sort by

abbrev pub as_key : SortColumn → SortKey
as_key column = record { place = column.place; descending = column.descending }

-- each place with the direction of its part of ORDER BY
abbrev pub sort_columns : List ℕ → List Order → List SortColumn
sort_columns [] parts = []
sort_columns (place ∷ places) [] = []
sort_columns (place ∷ places) (part ∷ parts) =
    record { place = place; descending = part.descending } ∷ sort_columns places parts

abbrev pub by_columns : List SortColumn → Answer → Answer → Ordering
by_columns columns a b = order_by (map as_key columns) a.values b.values

-- ---- the first answers, and the others

-- the first answers, and the union of the lineages of the others
pub record IsLimited (limit : Option ℕ) (answers : List Answer) (finished : Finished) : Type 0 where
  pub first : finished.answers ≡ first_rows limit answers
  pub cut : finished.cut ≡ lineage_of_answers (other_rows limit answers)

-- ---- what is finished

-- the rows of a query's cores, sorted
abbrev pub rows_in_order : Query → Catalog → List AnswerRow → List AnswerRow
rows_in_order query catalog rows = sort_rows
    (map (sort_key (answer_columns catalog query.cores)) query.order) rows

-- the answers that LIMIT keeps of the sorted rows, and the lineage of those that it cuts
abbrev pub IsFinished : Checked → List Answer → Finished → Type 0
IsFinished checked answers finished =
    (query : Query) (catalog : Catalog) (names : List (List ℕ)) (versions : Versions) (keep : Bool)
    (rows : List AnswerRow)
    → IsChecked checked query catalog
    → AnswersStandFor names versions keep answers rows
    → AnswersStandFor names versions keep finished.answers
    (first_rows (limit_of query.limit) (rows_in_order query catalog rows))
    × StandsFor names versions finished.cut
    (kept_origins keep (lineage_of (other_rows (limit_of query.limit) (rows_in_order query catalog rows))))
