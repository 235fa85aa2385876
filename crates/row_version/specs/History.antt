-- The history of a row: its values at each time, as the list of its changes.
use Rattle.std.specs.Prelude.{ℕ, ◌-◌, ◌<◌, List, [], ◌∷◌, Option, Some, None, length, filter, nat_le}
use Rattle.std.specs.List.{last_or}
use Rattle.std.specs.Option.{option_and_then, option_map_or}
use Rattle.ldv_value.specs.declared.value.Value.{Value}

-- from the time on the row has these values, or it is deleted
pub record Change : Type 0 where
  pub time : ℕ
  pub values : Option (List Value)

-- the changes, sorted by time, and the number of values for which there is room
pub record History : Type 0 where
  pub changes : List Change
  pub spare : ℕ

abbrev pub write_at : ℕ → List Value → Change
write_at time values = record { time = time; values = Some values }

abbrev pub delete_at : ℕ → Change
delete_at time = record { time = time; values = None }

abbrev pub last_change : List Change → Option Change
last_change changes = last_or None changes

-- the current values: those of the last change
abbrev pub current_values : List Change → Option (List Value)
current_values changes = option_and_then (λ change. change.values) (last_change changes)

-- the values as of a time: those of the last change whose time is at most that time
abbrev pub as_of : List Change → ℕ → Option (List Value)
as_of changes time = current_values (filter (λ change. nat_le change.time time) changes)

-- the time of the last change
abbrev pub last_time : List Change → ℕ
last_time changes = option_map_or (λ change. change.time) (last_change changes) 0

-- the number of changes after the first
abbrev pub version : List Change → ℕ
version changes = length changes - 1

abbrev pub IsSortedFrom : ℕ → List Change → Type 0
IsSortedFrom time [] = Unit {0}
IsSortedFrom time (change ∷ rest) = (time < change.time) × IsSortedFrom change.time rest

-- each change is later than the one before it
abbrev pub IsSorted : List Change → Type 0
IsSorted [] = Unit {0}
IsSorted (change ∷ rest) = IsSortedFrom change.time rest
