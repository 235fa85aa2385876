-- The meaning of a chain's parts.
use Rattle.std.specs.Prelude.{ℕ, ◌-◌, ◌<◌, ◌≤◌, ◌^◌, List, [], ◌∷◌, ◌++◌, Option, Some, None, length, map}
use Rattle.std.specs.Prelude.{vec_len, vec_capacity, Bool, false, nat_le}
use Rattle.row_version.specs.History.{Change, History, write_at, delete_at, IsSorted}
use Rattle.row_version.specs.declared.versions.Version.{Version}
use Rattle.row_version.specs.declared.chain.Chain.TheInside.{Inside}

abbrev pub change_of : Version → Change
change_of version = write_at version.time version.values

-- the changes that the versions make
abbrev pub changes_of : List Version → List Change
changes_of versions = map change_of versions

-- the change that an end makes, where there is one
abbrev pub end_of : Option ℕ → List Change
end_of None = []
end_of (Some time) = delete_at time ∷ []

abbrev pub history_of : Inside → History
history_of a = record {
  changes = changes_of a.held.items ++ end_of a.ended;
  spare = vec_capacity a.held - vec_len a.held;
}

pub record IsChain (a : Inside) : Type 0 where
  pub begun : 0 < vec_len a.held
  pub counted : length (history_of a).changes ≤ 2 ^ 32
  pub sorted : IsSorted (history_of a).changes

-- whether the row has ended by a time
abbrev pub ended_by : Option ℕ → ℕ → Bool
ended_by None time = false
ended_by (Some end) time = nat_le end time
