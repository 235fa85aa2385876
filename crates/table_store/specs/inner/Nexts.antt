-- The numbers of a table's next row, as they are stored.
use Rattle.std.specs.Prelude.{ℕ, ◌≤◌, List, [], ◌∷◌, map}
use Rattle.table_store.specs.Histories.{NextSince as Since}
use Rattle.table_store.specs.declared.nexts.NextSince.{NextSince}

abbrev pub since_of : NextSince → Since
since_of held = record { time = held.time; next = held.next }

abbrev pub nexts_of : List NextSince → List Since
nexts_of held = map since_of held

-- none is earlier than the one before it, and the first isn't earlier than a time
abbrev pub AreInTimeFrom : ℕ → List Since → Type 0
AreInTimeFrom time [] = Unit {0}
AreInTimeFrom time (since ∷ rest) = (time ≤ since.time) × AreInTimeFrom since.time rest

-- none is earlier than the one before it
abbrev pub AreInTime : List Since → Type 0
AreInTime nexts = AreInTimeFrom 0 nexts
