-- Statements of a text whose parameters are put in afterwards.
use Rattle.std.specs.Prelude.{ℕ, ℤ, pos, negsuc, List, [], ◌∷◌, map, length, Option, Some, None, ◌≡◌}
use Rattle.std.specs.List.{range_with_len}
use Rattle.ldv_value.specs.Cells.{value_at}
use Rattle.sql_model.specs.Texts.{statement_of}
use Rattle.sql_template.specs.Types.{Value, Null, Int, Text, Statement}

-- what stands for the parameter at a place: a number below 0, which no text can write as a constant
abbrev pub marker : ℕ → Value
marker place = Int (negsuc place)

abbrev pub markers : ℕ → List Value
markers count = map marker (range_with_len 0 count)

-- the place of the parameter for which a number stands
abbrev pub open_place : ℤ → Option ℕ
open_place (pos n) = None
open_place (negsuc place) = Some place

abbrev pub given_at : List Value → Option ℕ → ℤ → Value
given_at params None z = Int z
given_at params (Some place) z = value_at params place

-- the parameter for which a value stands, or the value itself
abbrev pub given_in : List Value → Value → Value
given_in params Null = Null
given_in params (Int z) = given_at params (open_place z) z
given_in params (Text t) = Text t

-- the statement of a text whose parameters are open
abbrev pub IsTemplate : List ℕ → ℕ → Statement → Type 0
IsTemplate text count template = statement_of text (markers count) ≡ Some template
