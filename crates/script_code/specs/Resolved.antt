-- Resolved scripts: each name has a slot, its index among the names of its kind.
use Rattle.std.specs.Prelude.{◌≡◌, ℕ, List, [], ◌∷◌, map, Option, Some, None}
use Rattle.script_parse.specs.Script.{script_of}
use Rattle.script_parse.specs.declared.script.Instr.TheVariants as instr
use Rattle.script_parse.specs.declared.script.Operand.{Operand}
use Rattle.script_parse.specs.declared.script.Operand.TheVariants as operand
use Rattle.script_parse.specs.declared.script.Instr.{Instr}
pub use Rattle.script_code.specs.Names.{AreDistinct, slot_of, HasName, IsSlot, Extends}
use Rattle.script_code.specs.declared.code.SlotInstr.{SlotInstr}
use Rattle.script_code.specs.declared.code.SlotInstr.TheVariants.{Own, OnFiles, Spawn, Wait, Sql}
use Rattle.script_code.specs.declared.code.OwnInstr.TheVariants as own
use Rattle.script_code.specs.declared.code.FileInstr.TheVariants as on_files
use Rattle.script_code.specs.declared.code.SlotOperand.{SlotOperand}
use Rattle.script_code.specs.declared.code.SlotOperand.TheVariants.{Constant, Slot}
use Rattle.script_code.specs.declared.code.Scope.{Scope}
use Rattle.script_code.specs.declared.code.Code.{Code}

-- ---- operands

abbrev pub slot_operand : List (List ℕ) → Operand → SlotOperand
slot_operand names (operand.Constant v) = Constant v
slot_operand names (operand.Variable name) = Slot (slot_of names name)

abbrev pub HasOperand : List (List ℕ) → Operand → Type 0
HasOperand names (operand.Constant v) = Unit {0}
HasOperand names (operand.Variable name) = HasName names name

abbrev pub HasOperands : List (List ℕ) → List Operand → Type 0
HasOperands names [] = Unit {0}
HasOperands names (o ∷ os) = HasOperand names o × HasOperands names os

abbrev pub HasNames : List (List ℕ) → List (List ℕ) → Type 0
HasNames names [] = Unit {0}
HasNames names (n ∷ ns) = HasName names n × HasNames names ns

abbrev pub IsOperand : List (List ℕ) → Operand → SlotOperand → Type 0
IsOperand names o slotted = (slotted ≡ slot_operand names o) × HasOperand names o

abbrev pub IsOperands : List (List ℕ) → List Operand → List SlotOperand → Type 0
IsOperands names os slotted = (slotted ≡ map (slot_operand names) os) × HasOperands names os

pub record AreSlots (names ns : List (List ℕ)) (slots : List ℕ) : Type 0 where
  pub same : slots ≡ map (slot_of names) ns
  pub has : HasNames names ns

-- ---- instructions

abbrev pub slot_instr : Scope → Instr → SlotInstr
slot_instr s (instr.Let to value) = Own (own.Let (slot_of s.variables to) (slot_operand s.variables value))
slot_instr s (instr.Calc to op left right) =
    Own (own.Calc (slot_of s.variables to) op (slot_operand s.variables left)
    (slot_operand s.variables right))
slot_instr s (instr.Glue to left right) =
    Own (own.Glue (slot_of s.variables to) (slot_operand s.variables left) (slot_operand s.variables right))
slot_instr s (instr.ToInt to value) =
    Own (own.ToInt (slot_of s.variables to) (slot_operand s.variables value))
slot_instr s (instr.Cut before after by) =
    Own (own.Cut (slot_of s.variables before) (slot_of s.variables after) (slot_operand s.variables by))
slot_instr s (instr.Jump place) = Own (own.Jump place)
slot_instr s (instr.JumpIf op left right place) =
    Own (own.JumpIf op (slot_operand s.variables left) (slot_operand s.variables right) place)
slot_instr s (instr.Print operands) = Own (own.Print (map (slot_operand s.variables) operands))
slot_instr s (instr.Exit status) = Own (own.Exit (slot_operand s.variables status))
slot_instr s (instr.OpenPath file mode path place) =
    OnFiles (on_files.OpenPath (slot_of s.files file) mode (slot_operand s.variables path) place)
slot_instr s (instr.ReadLine to file place) =
    OnFiles (on_files.ReadLine (slot_of s.variables to) (slot_of s.files file) place)
slot_instr s (instr.WriteLine file operands) =
    OnFiles (on_files.WriteLine (slot_of s.files file) (map (slot_operand s.variables) operands))
slot_instr s (instr.CopyRest source target) =
    OnFiles (on_files.CopyRest (slot_of s.files source) (slot_of s.files target))
slot_instr s (instr.Close file) = Own (own.Close (slot_of s.files file))
slot_instr s (instr.Remove path place) = OnFiles (on_files.Remove (slot_operand s.variables path) place)
slot_instr s (instr.Exists to path) =
    OnFiles (on_files.Exists (slot_of s.variables to) (slot_operand s.variables path))
slot_instr s (instr.Spawn child path arguments place) =
    Spawn (slot_of s.children child) (slot_operand s.variables path)
    (map (slot_operand s.variables) arguments) place
slot_instr s (instr.Wait to child) = Wait (slot_of s.variables to) (slot_of s.children child)
slot_instr s (instr.Sql cursor text params) =
    Sql (slot_of s.cursors cursor) (slot_operand s.variables text) (map (slot_operand s.variables) params)
slot_instr s (instr.Fetch cursor to place) =
    Own (own.Fetch (slot_of s.cursors cursor) (map (slot_of s.variables) to) place)
slot_instr s (instr.Count to cursor) = Own (own.Count (slot_of s.variables to) (slot_of s.cursors cursor))
slot_instr s (instr.Status to cursor) = Own (own.Status (slot_of s.variables to) (slot_of s.cursors cursor))

-- the scope has all names of an instruction
abbrev pub HasAll : Scope → Instr → Type 0
HasAll s (instr.Let to value) = HasName s.variables to × HasOperand s.variables value
HasAll s (instr.Calc to op left right) =
    HasName s.variables to × HasOperand s.variables left × HasOperand s.variables right
HasAll s (instr.Glue to left right) =
    HasName s.variables to × HasOperand s.variables left × HasOperand s.variables right
HasAll s (instr.ToInt to value) = HasName s.variables to × HasOperand s.variables value
HasAll s (instr.Cut before after by) =
    HasName s.variables before × HasName s.variables after × HasOperand s.variables by
HasAll s (instr.Jump place) = Unit {0}
HasAll s (instr.JumpIf op left right place) = HasOperand s.variables left × HasOperand s.variables right
HasAll s (instr.Print operands) = HasOperands s.variables operands
HasAll s (instr.Exit status) = HasOperand s.variables status
HasAll s (instr.OpenPath file mode path place) = HasName s.files file × HasOperand s.variables path
HasAll s (instr.ReadLine to file place) = HasName s.variables to × HasName s.files file
HasAll s (instr.WriteLine file operands) = HasName s.files file × HasOperands s.variables operands
HasAll s (instr.CopyRest source target) = HasName s.files source × HasName s.files target
HasAll s (instr.Close file) = HasName s.files file
HasAll s (instr.Remove path place) = HasOperand s.variables path
HasAll s (instr.Exists to path) = HasName s.variables to × HasOperand s.variables path
HasAll s (instr.Spawn child path arguments place) =
    HasName s.children child × HasOperand s.variables path × HasOperands s.variables arguments
HasAll s (instr.Wait to child) = HasName s.variables to × HasName s.children child
HasAll s (instr.Sql cursor text params) =
    HasName s.cursors cursor × HasOperand s.variables text × HasOperands s.variables params
HasAll s (instr.Fetch cursor to place) = HasName s.cursors cursor × HasNames s.variables to
HasAll s (instr.Count to cursor) = HasName s.variables to × HasName s.cursors cursor
HasAll s (instr.Status to cursor) = HasName s.variables to × HasName s.cursors cursor

-- each name of one scope has the same slot in another
pub record KeepsAll (s more : Scope) : Type 0 where
  pub variables : Extends s.variables more.variables
  pub files : Extends s.files more.files
  pub cursors : Extends s.cursors more.cursors
  pub children : Extends s.children more.children

abbrev pub Resolves : Scope → Instr → SlotInstr → Type 0
Resolves s i slotted = (slotted ≡ slot_instr s i) × HasAll s i

-- ---- scripts

abbrev pub ResolvesAll : Scope → List Instr → List SlotInstr → Type 0
ResolvesAll s [] [] = Unit {0}
ResolvesAll s [] (slotted ∷ more) = ⊥
ResolvesAll s (i ∷ is) [] = ⊥
ResolvesAll s (i ∷ is) (slotted ∷ more) = Resolves s i slotted × ResolvesAll s is more

pub record IsScope (s : Scope) : Type 0 where
  pub variables : AreDistinct s.variables
  pub files : AreDistinct s.files
  pub cursors : AreDistinct s.cursors
  pub children : AreDistinct s.children

-- the resolved form of a script, with the bytes that it was read from
pub record IsCode (code : Code) (script : List Instr) : Type 0 where
  pub source : script_of code.source ≡ Some script
  pub scope : IsScope code.scope
  pub instructions : ResolvesAll code.scope script code.instructions

-- what bytes were read as: the resolved form of a script, or no script
abbrev pub IsRead : List ℕ → Option Code → Type 0
IsRead bytes None = script_of bytes ≡ None
IsRead bytes (Some code) = (script : List Instr) × (script_of bytes ≡ Some script) × IsCode code script
