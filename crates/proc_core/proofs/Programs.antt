-- The program at a path.
use Rattle.std.proofs.Common.{◌≡◌, ℕ, List}
use Rattle.std.specs.Prelude.{Some}
use Rattle.ldv_value.specs.FileState.{content_at}
use Rattle.proc_core.specs.declared.machine.Machine.{Machine}
use Rattle.proc_core.specs.declared.spawn.program.Program.{Program}
use Rattle.proc_core.specs.declared.spawn.program.Program.TheVariants.{Absent, Refused, Known, New}
use Rattle.proc_core.specs.inner.SlotSpawn.{IsProgramOf, IsProgram}

-- of the bytes of the file there
pub program_there : (m : Machine) (path bytes : List ℕ) → content_at m.tree path ≡ Some bytes
    → (program : Program) → IsProgramOf m bytes program → IsProgram m path program
program_there m path bytes is Absent of = absurd of
program_there m path bytes is Refused of = (bytes, is, of)
program_there m path bytes is (Known index) of = (bytes, is, of)
program_there m path bytes is (New code) of = (bytes, is, of)
