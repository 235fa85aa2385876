-- Rows through time, as they are stored: the last values of each row in columns, and a log of what they were
-- before.
use Rattle.std.specs.Prelude.{◌≡◌, ◌==◌, ℕ, zero, suc, ◌+◌, ◌<◌, ◌≤◌, ◌^◌, Bool, false, List, [], ◌∷◌, ◌++◌}
use Rattle.std.specs.Prelude.{length, nat_le, slice_index_or}
use Rattle.row_version.specs.History.{Change, write_at, delete_at}
use Rattle.table_store.specs.inner.Grid.{Slot, no_slot}
use Rattle.table_store.specs.inner.Past.{past, end_in}
use Rattle.table_store.specs.Histories.{RowHistory}
use Rattle.table_store.specs.declared.rows.Rows.TheInside.{Inside}

-- the rows through time, which columns are of texts, and the number of the next row
pub record RowsHistory : Type 0 where
  pub slots : List RowHistory
  pub kinds : List Bool
  pub next : ℕ

-- what was written to the row in each slot before its last values
abbrev pub Past : Type 0
Past = ℕ → List Change

-- when the row in each slot ended; 0: it stands
abbrev pub Ends : Type 0
Ends = ℕ → ℕ

abbrev pub end_of : ℕ → List Change
end_of zero = []
end_of (suc time) = delete_at (suc time) ∷ []

-- whether a row that ended then had ended by a time; 0: it stands
abbrev pub is_ended : ℕ → ℕ → Bool
is_ended zero time = false
is_ended (suc end) time = nat_le (suc end) time

-- the earlier values, the last ones and the end
abbrev pub changes_at : List Change → ℕ → Slot → List Change
changes_at earlier ended slot = earlier ++ (write_at slot.since slot.values ∷ end_of ended)

abbrev pub history_of : List Change → ℕ → Slot → RowHistory
history_of earlier ended slot = record { number = slot.number; changes = changes_at earlier ended slot }

-- the rows in slots
abbrev pub histories_of : Past → Ends → List Slot → List RowHistory
histories_of earlier ends [] = []
histories_of earlier ends (slot ∷ slots) = history_of (earlier 0) (ends 0) slot
    ∷ histories_of (λ k. earlier (suc k)) (λ k. ends (suc k)) slots

abbrev pub past_of : Inside → Past
past_of a = λ slot. past a.log.versions slot

abbrev pub ends_of : Inside → Ends
ends_of a = λ slot. end_in a.log.ends slot

abbrev pub seen_histories : Inside → RowsHistory
seen_histories a = record {
  slots = histories_of (past_of a) (ends_of a) a.grid.slots;
  kinds = a.grid.kinds;
  next = a.grid.next;
}

-- rows stand if they haven't ended, each change has a time of its own, and of slots that are still to come
-- there is nothing
pub record AreKept (earlier : Past) (ends : Ends) (slots : List Slot) : Type 0 where
  pub stands : (k : ℕ) → k < length slots → (slice_index_or slots k no_slot).stands ≡ (ends k == 0)
  pub few : (k : ℕ) → k < length slots
      → length (changes_at (earlier k) (ends k) (slice_index_or slots k no_slot)) ≤ 2 ^ 32
  pub fresh : (k : ℕ) → length slots ≤ k → earlier k ≡ []
  pub open_ended : (k : ℕ) → length slots ≤ k → ends k ≡ 0

abbrev pub IsRows : Inside → Type 0
IsRows a = AreKept (past_of a) (ends_of a) a.grid.slots
