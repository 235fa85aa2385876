-- Merging answers of the same values.
use Rattle.std.specs.Prelude.{◌≡◌, ℕ, suc, List, [], ◌∷◌, filter, Bool, Option, Some, None, if◌then◌else◌}
use Rattle.std.specs.BTreeMap as tree
use Rattle.std.specs.BTreeMap.{BTreeMap}
use Rattle.std.specs.Option.{option_map}
use Rattle.std.specs.FinMap.{empty}
use Rattle.lineage.specs.Lineage.{Lineage, union_of}
use Rattle.lineage.specs.Rows.{with_more}
use Rattle.lineage.specs.declared.answer.Answer.{Answer}
use Rattle.ldv_value.specs.Order.{values_order}
use Rattle.query_eval.specs.Types.{Value}
use Rattle.sql_model.specs.Keys.{same_values}

-- the union of the lineages of answers
abbrev pub lineage_of_answers : List Answer → Lineage
lineage_of_answers [] = empty
lineage_of_answers (answer ∷ answers) = union_of answer.lineage (lineage_of_answers answers)

abbrev pub own_values : Answer → List Value
own_values answer = answer.values

abbrev pub with_values : List Value → Answer → Bool
with_values values answer = same_values answer.values values

-- the answer of some values, from all answers of these
abbrev pub merged_answer : List Answer → List Value → Answer
merged_answer answers values = record {
  values = values;
  lineage = lineage_of_answers (filter (with_values values) answers);
}

-- ---- steps

-- the place of the answer of some values
abbrev pub place_of : List Value → List Answer → Option ℕ
place_of values [] = None
place_of values (answer ∷ answers) =
    if same_values answer.values values then Some 0 else option_map suc (place_of values answers)

-- answers of different values, and one more
abbrev pub with_answer : List Answer → Answer → List Answer
with_answer [] other = other ∷ []
with_answer (answer ∷ answers) other = if same_values answer.values other.values
    then with_more answer other ∷ answers else answer ∷ with_answer answers other

abbrev pub merged_onto : List Answer → List Answer → List Answer
merged_onto made [] = made
merged_onto made (answer ∷ answers) = merged_onto (with_answer made answer) answers

-- a map has the place of each answer, by its values
abbrev pub IsIndex : BTreeMap (List Value) ℕ → List Answer → Type 0
IsIndex places answers = (values : List Value) → tree.get values_order places values ≡ place_of values answers
