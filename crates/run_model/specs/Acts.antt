-- What an act says: whether it made a child, and the path that it names.
use Rattle.std.specs.Prelude.{ℕ, List, Bool, true, false, if◌then◌else◌, Option, Some, None}
use Rattle.run_model.specs.Types.{Act, Started, Spawned, Unspawned, OpenedRead, OpenedWrite, OpenedAppend}
use Rattle.run_model.specs.Types.{OpenedNew, Unopened, Read, Wrote, Removed, Tested, Waited, Ended, Asked}

-- whether a child was made
abbrev pub is_spawn : Act → Bool
is_spawn (Started path) = false
is_spawn (Spawned path) = true
is_spawn (Unspawned path found) = false
is_spawn (OpenedRead path) = false
is_spawn (OpenedWrite path) = false
is_spawn (OpenedAppend path found) = false
is_spawn (OpenedNew path) = false
is_spawn (Unopened path found) = false
is_spawn (Read path) = false
is_spawn (Wrote path) = false
is_spawn (Removed path) = false
is_spawn (Tested path found) = false
is_spawn (Waited child) = false
is_spawn (Ended status) = false
is_spawn (Asked statement tables reads made) = false

-- how many children were made
abbrev pub spawned_by : Act → ℕ
spawned_by act = if is_spawn act then 1 else 0

-- the path that an act names
abbrev pub named_path : Act → Option (List ℕ)
named_path (Started path) = Some path
named_path (Spawned path) = Some path
named_path (Unspawned path found) = Some path
named_path (OpenedRead path) = Some path
named_path (OpenedWrite path) = Some path
named_path (OpenedAppend path found) = Some path
named_path (OpenedNew path) = Some path
named_path (Unopened path found) = Some path
named_path (Read path) = Some path
named_path (Wrote path) = Some path
named_path (Removed path) = Some path
named_path (Tested path found) = Some path
named_path (Waited child) = None
named_path (Ended status) = None
named_path (Asked statement tables reads made) = None
