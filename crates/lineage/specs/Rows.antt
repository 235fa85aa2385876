-- When picked combinations and answers stand for lists of answer rows.
--
-- Their values are equal, and a lineage stands for the lineage of its row as a set. If no lineage is kept, it
-- stands for the empty one.
use Rattle.std.specs.Prelude.{◌≡◌, ℕ, List, [], ◌∷◌, Bool, true, false}
use Rattle.ldv_value.specs.declared.value.Value.{Value}
use Rattle.lineage.specs.Lineage.{Lineage, union_of}
use Rattle.lineage.specs.StandsFor.{StandsFor}
use Rattle.lineage.specs.declared.answer.Answer.{Answer}
use Rattle.lineage.specs.declared.answer.Pick.{Pick}
use Rattle.sql_model.specs.Needs.{Versions}
use Rattle.sql_model.specs.QueryAnswer.{Origin, AnswerRow, Combination, joined_values, combination_rows}
use Rattle.sql_model.specs.declared.statement.FromItem.{FromItem}

-- the lineage that is kept
abbrev pub kept_origins : Bool → List Origin → List Origin
kept_origins true origins = origins
kept_origins false origins = []

-- the values and the lineage of a row
pub record IsRow (names : List (List ℕ)) (versions : Versions) (keep : Bool) (values : List Value)
    (lineage : Lineage)
    (row : AnswerRow) : Type 0 where
  pub same : values ≡ row.values
  pub stands : StandsFor names versions lineage (kept_origins keep row.lineage)

-- one by one
abbrev pub AnswersStandFor : List (List ℕ) → Versions → Bool → List Answer → List AnswerRow → Type 0
AnswersStandFor names versions keep [] [] = Unit {0}
AnswersStandFor names versions keep [] (row ∷ rows) = ⊥
AnswersStandFor names versions keep (answer ∷ answers) [] = ⊥
AnswersStandFor names versions keep (answer ∷ answers) (row ∷ rows) =
    IsRow names versions keep answer.values answer.lineage row
    × AnswersStandFor names versions keep answers rows

abbrev pub PicksStandFor : List (List ℕ) → Versions → Bool → List Pick → List AnswerRow → Type 0
PicksStandFor names versions keep [] [] = Unit {0}
PicksStandFor names versions keep [] (row ∷ rows) = ⊥
PicksStandFor names versions keep (pick ∷ picks) [] = ⊥
PicksStandFor names versions keep (pick ∷ picks) (row ∷ rows) =
    IsRow names versions keep pick.values pick.lineage row × PicksStandFor names versions keep picks rows

-- a combination as a row: the values of the joined row, from the rows that it joins
abbrev pub joined_row : List FromItem → Combination → AnswerRow
joined_row from rows = record { values = joined_values rows; lineage = combination_rows from rows }

-- an answer with the lineage of another too
abbrev pub with_more : Answer → Answer → Answer
with_more answer other =
    record { values = answer.values; lineage = union_of answer.lineage other.lineage }
