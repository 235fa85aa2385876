-- The first row whose key was seen before, by a test of the seen keys.
use Rattle.std.specs.Prelude.{ℕ, List, [], ◌∷◌, Bool, true, false, if◌then◌else◌, Option, Some, None}
use Rattle.sql_model.specs.Keys.{same_values, values_at}
use Rattle.joined_data.specs.Types.{TableRow, Value}

abbrev pub unseen : List Value → Bool
unseen key = false

abbrev pub seen_after : List Value → (List Value → Bool) → List Value → Bool
seen_after key seen other = if same_values key other then true else seen other

abbrev pub first_taken_row : List ℕ → (List Value → Bool) → List TableRow → Option ℕ
first_taken_row places seen [] = None
first_taken_row places seen (row ∷ rows) =
    if seen (values_at places row.values) then Some row.number
    else first_taken_row places (seen_after (values_at places row.values) seen) rows
