-- Answers by their values.
use Rattle.std.proofs.Common.{◌≡◌, ◌∙◌, sym, ap, subst, refl, ℕ, Bool, true, false, List, [], ◌∷◌, map, inl, inr}
use Rattle.std.specs.Prelude.{filter}
use Rattle.std.proofs.lemmas.Bool.{cases_Bool}
use Rattle.std.specs.FinMap.{empty}
use Rattle.lineage.specs.Rows.{kept_origins, AnswersStandFor}
use Rattle.lineage.specs.StandsFor.{StandsFor}
use Rattle.lineage.specs.declared.answer.Answer.{Answer}
use Rattle.lineage.proofs.Origins.{stands-empty}
use Rattle.lineage.proofs.RowLaws.{kept_origins-union, answers-values}
use Rattle.lineage.proofs.Unions.{version_union}
use Rattle.query_eval.specs.Merging.{lineage_of_answers, own_values, with_values, merged_answer}
use Rattle.query_eval.specs.Types.{Value}
use Rattle.sql_model.specs.Keys.{same_values}
use Rattle.sql_model.specs.Needs.{Versions}
use Rattle.sql_model.specs.QueryAnswer.{AnswerRow, answer_values, lineage_of, has_values, merged_row, distinct_values, merge}

-- ---- merged answers stand for merged rows

module _ (names : List (List ℕ)) (versions : Versions) (keep : Bool) where
  kept_origins-none : (k : Bool) → [] ≡ kept_origins k []
  kept_origins-none true = refl
  kept_origins-none false = refl

  -- the union stands for all lineages
  pub lineage_of_answers-stands : (answers : List Answer) (rows : List AnswerRow) → AnswersStandFor names versions keep answers rows
      → StandsFor names versions (lineage_of_answers answers) (kept_origins keep (lineage_of rows))
  lineage_of_answers-stands [] [] stand = subst (StandsFor names versions empty) (kept_origins-none keep) (stands-empty names versions)
  lineage_of_answers-stands [] (row ∷ rows) stand = absurd stand
  lineage_of_answers-stands (answer ∷ answers) [] stand = absurd stand
  lineage_of_answers-stands (answer ∷ answers) (row ∷ rows) stand =
      kept_origins-union names versions keep answer.lineage (lineage_of_answers answers) (lineage_of_answers (answer ∷ answers)) row.lineage (lineage_of rows)
      (version_union answer.lineage (lineage_of_answers answers)) stand.0.stands (lineage_of_answers-stands answers rows stand.1)

  filter-stands : (v : List Value) (answers : List Answer) (rows : List AnswerRow) → AnswersStandFor names versions keep answers rows
      → AnswersStandFor names versions keep (filter (with_values v) answers) (filter (has_values v) rows)
  filter-stands v [] [] stand = stand
  filter-stands v [] (row ∷ rows) stand = absurd stand
  filter-stands v (answer ∷ answers) [] stand = absurd stand
  filter-stands v (answer ∷ answers) (row ∷ rows) stand =
      let same : has_values v row ≡ with_values v answer = ap (λ (vs : List Value). same_values vs v) (sym stand.0.same) in
      let rest = filter-stands v answers rows stand.1 in
      elim (cases_Bool (with_values v answer)) [
        | inl hit ↦ let there : has_values v row ≡ true = same ∙ hit in rw (hit, there) (stand.0, rest)
        | inr miss ↦ let gone : has_values v row ≡ false = same ∙ miss in rw (miss, gone) rest
      ]

  under : (answers : List Answer) (rows : List AnswerRow) → AnswersStandFor names versions keep answers rows → (vs : List (List Value))
      → AnswersStandFor names versions keep (map (merged_answer answers) vs) (map (merged_row rows) vs)
  under answers rows stand [] = tt
  under answers rows stand (v ∷ vs) = (
    record {
      same = refl;
      stands = lineage_of_answers-stands (filter (with_values v) answers) (filter (has_values v) rows) (filter-stands v answers rows stand);
    },
    under answers rows stand vs,
  )

  pub merged_stand : (answers made : List Answer) (rows : List AnswerRow) → made ≡ map (merged_answer answers) (distinct_values (map own_values answers))
      → AnswersStandFor names versions keep answers rows → AnswersStandFor names versions keep made (merge rows)
  merged_stand answers made rows is stand =
      subst (λ (made : List Answer). AnswersStandFor names versions keep made (merge rows)) (sym is)
      (subst (λ (vs : List (List Value)). AnswersStandFor names versions keep (map (merged_answer answers) (distinct_values vs)) (merge rows))
      (sym (answers-values names versions keep answers rows stand))
      (under answers rows stand (distinct_values (map answer_values rows))))
