-- The result of reading a whole input if no read failed.
use Rattle.std.specs.Prelude.{◌≡◌, ℕ, ◌<◌, ◌≤◌, List, length, Result, Ok, Err}
use Rattle.ldv_io.specs.declared.whole.ReadStop.{ReadStop}
use Rattle.ldv_io.specs.declared.whole.ReadStop.TheVariants.{Fault, TooLong, NoMemory}

-- all bytes where the limit allows them, and too long exactly where it doesn't, or out of memory
abbrev pub ReadsWhole : Result (List ℕ) ReadStop → List ℕ → ℕ → Type 0
ReadsWhole (Ok got) bytes limit = (got ≡ bytes) × (length bytes ≤ limit)
ReadsWhole (Err Fault) bytes limit = ⊥
ReadsWhole (Err TooLong) bytes limit = limit < length bytes
ReadsWhole (Err NoMemory) bytes limit = Unit {0}
