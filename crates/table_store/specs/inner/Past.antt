-- The log of a table: versions of rows that others replaced, in the order in which that happened, and when
-- rows ended.
use Rattle.std.specs.Prelude.{◌≡◌, ◌==◌, ℕ, ◌+◌, ◌-◌, ◌<◌, ◌≤◌, Bool, List, [], ◌∷◌, filter, length, map}
use Rattle.std.specs.Prelude.{take, slice_index_or, vec_len, vec_capacity, zero, suc}
use Rattle.row_version.specs.History.{Change, write_at}
use Rattle.table_store.specs.declared.rows.logged.Logged.{Logged}
use Rattle.table_store.specs.declared.rows.version_log.VersionLog.TheInside.{Inside}

-- the versions, for how many more there is room, in how many slots rows can get one, and when the row of each
-- slot ended
pub record LogView : Type 0 where
  pub versions : List Logged
  pub spare : ℕ
  pub slots : ℕ
  pub ends : List ℕ

abbrev pub no_version : Logged
no_version = record { slot = 0; since = 0; before = 0; count = 0; values = [] }

abbrev pub is_of_slot : ℕ → Logged → Bool
is_of_slot slot version = version.slot == slot

-- the versions of the row in a slot, the oldest first
abbrev pub versions_of : List Logged → ℕ → List Logged
versions_of versions slot = filter (is_of_slot slot) versions

abbrev pub write_of : Logged → Change
write_of version = write_at version.since version.values

-- what was written to the row in a slot before its last values
abbrev pub past : List Logged → ℕ → List Change
past versions slot = map write_of (versions_of versions slot)

-- when the row in a slot ended; 0: it stands
abbrev pub end_in : List ℕ → ℕ → ℕ
end_in ends slot = slice_index_or ends slot 0

-- A link of a slot among the first versions: one more than the place of the last one of the slot, and 0 if
-- there is none.
pub record IsLink (versions : List Logged) (bound slot link : ℕ) : Type 0 where
  pub within : link ≤ bound
  pub same : versions_of (take bound versions) slot ≡ versions_of (take link versions) slot
  pub own : 0 < link → (slice_index_or versions (link - 1) no_version).slot ≡ slot

-- how many versions of its row there are up to the one to which a link leads
abbrev pub count_at : List Logged → ℕ → ℕ
count_at versions zero = 0
count_at versions (suc place) = (slice_index_or versions place no_version).count

-- each version leads to the one before it, and `last` to the last one of each slot
pub record AreLinked (versions : List Logged) (last : List ℕ) : Type 0 where
  pub links : (p : ℕ) → p < length versions → IsLink versions p
      (slice_index_or versions p no_version).slot (slice_index_or versions p no_version).before
  pub counts : (p : ℕ) → p < length versions → (slice_index_or versions p no_version).count
      ≡ length (versions_of (take (suc p) versions) (slice_index_or versions p no_version).slot)
  pub heads : (slot : ℕ) → IsLink versions (length versions) slot (slice_index_or last slot 0)

abbrev pub seen_log : Inside → LogView
seen_log a = record {
  versions = a.held.items;
  spare = vec_capacity a.held - vec_len a.held;
  slots = length a.last.items;
  ends = a.ends.items;
}

abbrev pub IsLog : Inside → Type 0
IsLog a = AreLinked a.held.items a.last.items
