-- Rows that stand for answer rows.
use Rattle.std.proofs.Common.{◌≡◌, sym, subst, refl, ℕ, List, [], ◌∷◌, ◌++◌, map, Bool, true, false}
use Rattle.lineage.specs.Lineage.{Lineage, IsUnion}
use Rattle.lineage.specs.Rows.{kept_origins, AnswersStandFor}
use Rattle.lineage.specs.StandsFor.{StandsFor}
use Rattle.lineage.specs.declared.answer.Answer.{Answer}
use Rattle.lineage.proofs.Origins.{stands-union}
use Rattle.sql_model.specs.Needs.{Versions}
use Rattle.sql_model.specs.QueryAnswer.{Origin, AnswerRow, answer_values}

-- what is kept of two lineages
pub kept_origins-append : (keep : Bool) (a b : List Origin) → kept_origins keep (a ++ b) ≡ kept_origins keep a ++ kept_origins keep b
kept_origins-append true a b = refl
kept_origins-append false a b = refl

module _ (names : List (List ℕ)) (versions : Versions) (keep : Bool) where
  -- a union stands for what is kept of both lineages
  pub kept_origins-union : (one other both : Lineage) (a b : List Origin) → IsUnion one other both
      → StandsFor names versions one (kept_origins keep a) → StandsFor names versions other (kept_origins keep b)
      → StandsFor names versions both (kept_origins keep (a ++ b))
  kept_origins-union one other both a b is first second =
      subst (StandsFor names versions both) (sym (kept_origins-append keep a b))
      (stands-union names versions one other both (kept_origins keep a) (kept_origins keep b) is first second)

  -- the values are those of the rows
  pub answers-values : (answers : List Answer) (rows : List AnswerRow) → AnswersStandFor names versions keep answers rows
      → map (λ answer. answer.values) answers ≡ map answer_values rows
  answers-values [] [] stand = refl
  answers-values [] (row ∷ rows) stand = absurd stand
  answers-values (answer ∷ answers) [] stand = absurd stand
  answers-values (answer ∷ answers) (row ∷ rows) stand = λ j. stand.0.same j ∷ answers-values answers rows stand.1 j

  -- more rows at the end
  pub answers-append : (one other : List Answer) (rows more : List AnswerRow) → AnswersStandFor names versions keep one rows
      → AnswersStandFor names versions keep other more → AnswersStandFor names versions keep (one ++ other) (rows ++ more)
  answers-append [] other [] more first second = second
  answers-append [] other (row ∷ rows) more first second = absurd first
  answers-append (answer ∷ answers) other [] more first second = absurd first
  answers-append (answer ∷ answers) other (row ∷ rows) more first second = (first.0, answers-append answers other rows more first.1 second)
