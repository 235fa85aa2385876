-- The meaning of expressions over a group of picks.
use Rattle.std.specs.Prelude.{List, [], ◌∷◌, map}
use Rattle.lineage.specs.declared.answer.Pick.{Pick}
use Rattle.group_eval.specs.Types.{Expr, Value}
use Rattle.sql_model.specs.Meaning.{Environment, Meaning, eval}
use Rattle.sql_model.specs.Scope.{InScope, environment}

-- the values of the first pick
abbrev pub first_row : List Pick → List Value
first_row [] = []
first_row (pick ∷ picks) = pick.values

abbrev pub pick_environment : List InScope → Pick → Environment
pick_environment scope pick = environment scope pick.values

abbrev pub pick_environments : List InScope → List Pick → List Environment
pick_environments scope picks = map (pick_environment scope) picks

-- over one pick
abbrev pub value_over : List InScope → Expr → Pick → Value
value_over scope expr pick = (eval expr (pick_environment scope pick ∷ [])).value

-- over the whole group
abbrev pub group_meaning : List InScope → List Pick → Expr → Meaning
group_meaning scope picks expr = eval expr (pick_environments scope picks)
