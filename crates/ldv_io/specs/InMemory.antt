-- Sources and sinks in memory, whose calls are numbered and fail where their number is listed.
use Rattle.std.specs.Prelude.{◌≡◌, ℕ, ◌+◌, ◌-◌, ◌^◌, ◌<◌, ◌⊎◌, List, length, drop, ◌++◌, Contains}
use Rattle.ldv_io.specs.Causes.{next_count}

-- What a source in memory is: the bytes left, the most that a read returns, the numbers of the calls
-- that fail, the calls made and the faults, both up to the last number of 64 bits.
pub record Reader : Type 0 where
  pub left : List ℕ
  pub piece : ℕ
  pub failing : List ℕ
  pub calls : ℕ
  pub faults : ℕ

-- What a sink in memory is: the bytes taken, the room that is left, and the rest as above.
pub record Writer : Type 0 where
  pub taken : List ℕ
  pub room : ℕ
  pub piece : ℕ
  pub failing : List ℕ
  pub calls : ℕ
  pub faults : ℕ

-- What a source that never fails is: the bytes left, and the most that a read returns.
pub record SteadyView : Type 0 where
  pub left : List ℕ
  pub piece : ℕ

-- Calls are numbered from 1 to 2^64 - 1. The call after a number of calls is listed.
abbrev pub IsListed : List ℕ → ℕ → Type 0
IsListed failing calls = (calls + 1 < 2 ^ 64) × Contains failing (calls + 1)

-- the source after a read that failed, and after one that returned n bytes
abbrev pub read_failed : Reader → Reader
read_failed r = record r { calls = next_count r.calls; faults = next_count r.faults }

abbrev pub read_gave : ℕ → Reader → Reader
read_gave n r = record r { left = drop n r.left; calls = next_count r.calls }

-- the sink after a write that failed, and after one that took these bytes
abbrev pub write_failed : Writer → Writer
write_failed w = record w { calls = next_count w.calls; faults = next_count w.faults }

abbrev pub write_took : List ℕ → Writer → Writer
write_took bytes w = record w {
  taken = w.taken ++ bytes;
  room = w.room - length bytes;
  calls = next_count w.calls;
}

-- a write of these bytes fails
abbrev pub IsRefused : Writer → List ℕ → Type 0
IsRefused w bytes = IsListed w.failing w.calls ⊎ ((0 < length bytes) × (w.room ≡ 0))
