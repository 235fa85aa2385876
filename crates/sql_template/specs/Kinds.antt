-- Ways to fill a statement with values of the same kinds.
use Rattle.std.specs.Prelude.{◌≡◌, true}
use Rattle.sql_model.specs.Kinds.{kind_of_value}
use Rattle.sql_model.specs.Refusals.{is_limit}
use Rattle.sql_template.specs.Filling.{filled_limit}
use Rattle.sql_template.specs.Types.{Value, Statement, TheQuery, TheInsert, TheUpdate, TheDelete}

abbrev pub SameKinds : (Value → Value) → (Value → Value) → Type 0
SameKinds f g = (v : Value) → kind_of_value (f v) ≡ kind_of_value (g v)

-- LIMIT is one with the one and with the other, or with neither
abbrev pub SameLimit : (Value → Value) → (Value → Value) → Statement → Type 0
SameLimit f g (TheQuery query) =
    is_limit (filled_limit f query.limit) ≡ is_limit (filled_limit g query.limit)
SameLimit f g (TheInsert insert) = Unit {0}
SameLimit f g (TheUpdate update) = Unit {0}
SameLimit f g (TheDelete delete) = Unit {0}

-- LIMIT, if there is one, is a number of rows
abbrev pub FitsLimit : (Value → Value) → Statement → Type 0
FitsLimit f (TheQuery query) = is_limit (filled_limit f query.limit) ≡ true
FitsLimit f (TheInsert insert) = Unit {0}
FitsLimit f (TheUpdate update) = Unit {0}
FitsLimit f (TheDelete delete) = Unit {0}
