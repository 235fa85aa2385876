-- The bytes that a sink took from a call that writes some bytes and may fail.
use Rattle.std.specs.Prelude.{ℕ, ◌<◌, ◌≤◌, List, length, take, Option, Result, Ok, Err, ⊤, OnErr}
use Rattle.std.specs.Io.KnownBytes.{Appends}
use Rattle.ldv_io.specs.Causes.{Rose}
use Rattle.ldv_io.specs.declared.whole.WriteStop.{WriteStop}

-- a proper prefix was taken
abbrev pub AppendsPart : Option (List ℕ) → Option (List ℕ) → List ℕ → Type 0
AppendsPart old new bytes = (n : ℕ) × (n < length bytes) × Appends old new (take n bytes)

-- all was taken, or where it failed a proper prefix
abbrev pub Wrote : Option (List ℕ) → Option (List ℕ) → List ℕ → Result ⊤ WriteStop → Type 0
Wrote old new bytes (Ok done) = Appends old new bytes
Wrote old new bytes (Err stop) = AppendsPart old new bytes

-- What a call makes of a sink to which it writes bytes, and its result. Of a sink these are known: the bytes
-- that it has taken, where they are reported, and the count of its faults.
pub record Writes {Writer : Type 0}
    (taken : Writer → Option (List ℕ)) (faults : Writer → ℕ)
    (sink after : Writer) (bytes : List ℕ) (result : Result ⊤ WriteStop)
    : Type 0 where
  pub written : Wrote (taken sink) (taken after) bytes result
  -- a fault comes only where the sink's count of faults increased, and it never decreases
  pub later : faults sink ≤ faults after
  pub fault : OnErr result (Rose (faults sink) (faults after))
