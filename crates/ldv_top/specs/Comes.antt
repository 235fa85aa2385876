-- Which exits, with which bytes written, are allowed for a given due output.
use Rattle.std.specs.Prelude.{◌≡◌, ◌≢◌, ◌⊎◌, ℕ, List, Bool, IsTrue, Option, Some}
use Rattle.std.specs.Io.KnownBytes.{Appends}
use Rattle.ldv_io.specs.Causes.{Rose}
use Rattle.ldv_top.specs.Due.{DueOutput}
use Rattle.ldv_top.specs.Written.{AppendsPart}
use Rattle.ldv_top.specs.declared.exit.Exit.{Exit}
use Rattle.ldv_top.specs.declared.exit.Exit.TheVariants.{Done, Usage, ReadFault, WriteFault, TooLong}
use Rattle.ldv_top.specs.declared.exit.Exit.TheVariants.{NotWorld, NotEnded, Damaged, Diverged, NoSuch}
use Rattle.ldv_top.specs.declared.exit.Exit.TheVariants.{NoMemory, PackageTooLong, NotPrivate, NotProv, Clash}

-- the input is what the source has, where the command reads
abbrev pub IsInput : Bool → Option (List ℕ) → List ℕ → Type 0
IsInput reading left input = IsTrue reading → left ≡ Some input

-- The exit is the one that is due. A fault or out of memory may come in its place.
abbrev pub Comes : DueOutput → Exit → Option (List ℕ) → Option (List ℕ) → Type 0
Comes d Done old new = (d.exit ≡ Done) × Appends old new d.bytes
Comes d WriteFault old new = (d.exit ≡ Done) × AppendsPart old new d.bytes
Comes d ReadFault old new = Unit {0}
Comes d NoMemory old new = Unit {0}
Comes d Usage old new = d.exit ≡ Usage
Comes d TooLong old new = d.exit ≡ TooLong
Comes d (NotWorld fault) old new = d.exit ≡ NotWorld fault
Comes d (NotEnded steps) old new = d.exit ≡ NotEnded steps
Comes d (Damaged kind) old new = d.exit ≡ Damaged kind
Comes d (Diverged process index) old new = d.exit ≡ Diverged process index
Comes d NoSuch old new = d.exit ≡ NoSuch
Comes d (Clash clash) old new = d.exit ≡ Clash clash
Comes d PackageTooLong old new = d.exit ≡ PackageTooLong
Comes d NotPrivate old new = d.exit ≡ NotPrivate
Comes d NotProv old new = d.exit ≡ NotProv

-- an exit after which nothing is written
abbrev pub IsQuiet : Exit → Type 0
IsQuiet exit = (exit ≢ Done) × (exit ≢ WriteFault)

-- what is reported of an exit: its line, or a proper prefix where the count of faults increased
abbrev pub Tells : ℕ → ℕ → Option (List ℕ) → Option (List ℕ) → List ℕ → Type 0
Tells before now old new line = Appends old new line ⊎ (Rose before now × AppendsPart old new line)
