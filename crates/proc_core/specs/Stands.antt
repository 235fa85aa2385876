-- When a machine in memory represents a state of the model.
use Rattle.std.specs.Prelude.{◌≡◌, ℕ, List, [], ◌∷◌, ◌++◌, slice_get, Bool, IsTrue, Some, None}
use Rattle.std.specs.Prelude.{option_and_then, map, Option, option_map}
use Rattle.ldv_value.specs.FileState.{FileState, content_at}
use Rattle.script_parse.specs.Script.{script_of}
use Rattle.proc_core.specs.Types.{Instr, Event, Value}
use Rattle.run_model.specs.Core.{Process, Core, NameBinding, lookup, Cursor}
use Rattle.run_model.specs.State.{State}
use Rattle.run_model.specs.Outcome.{entry_reply}
use Rattle.script_code.specs.declared.code.Code.{Code}
use Rattle.script_code.specs.Resolved.{IsCode}
use Rattle.script_code.specs.declared.code.Scope.{Scope}
use Rattle.proc_core.specs.declared.machine.Machine.{Machine}
use Rattle.proc_core.specs.declared.process.SlotProcess.{SlotProcess}
use Rattle.proc_core.specs.declared.process.SlotCursor.{SlotCursor}
use Rattle.sql_model.specs.Meaning.{or_null}
use Rattle.sql_model.specs.declared.reply.Reply.{Reply}

abbrev pub value_held : List (NameBinding Value) → List ℕ → Value
value_held bindings name = or_null (lookup name bindings)

abbrev pub bound_value : {X : Type 0} → List (NameBinding X) → List ℕ → Option X
bound_value bindings name = lookup name bindings

-- what a cursor means, among the replies of its process
abbrev pub cursor_at : List Reply → SlotCursor → Option Cursor
cursor_at replies cursor =
    option_map (λ reply. record { reply = reply; fetched = cursor.fetched }) (slice_get replies cursor.reply)

abbrev pub cursor_in : List Reply → Option SlotCursor → Option Cursor
cursor_in replies slotted = option_and_then (cursor_at replies) slotted

-- each cursor means a reply
abbrev pub HasReply : List Reply → Option SlotCursor → Type 0
HasReply replies None = Unit {0}
HasReply replies (Some cursor) = (reply : Reply) × (slice_get replies cursor.reply ≡ Some reply)

abbrev pub HaveReplies : List Reply → List (Option SlotCursor) → Type 0
HaveReplies replies [] = Unit {0}
HaveReplies replies (c ∷ cs) = HasReply replies c × HaveReplies replies cs

-- r holds what a process is, for the names of a scope; it runs a script, whose resolved form has an index
pub record Holds (s : Scope) (index : ℕ) (script : List Instr) (r : SlotProcess) (p : Process) : Type 0 where
  pub code : r.code ≡ index
  pub runs : p.script ≡ script
  pub name : r.name ≡ p.name
  pub place : r.place ≡ p.place
  pub variables : r.variables ≡ map (value_held p.variables) s.variables
  pub files : r.files ≡ map (bound_value p.files) s.files
  pub cursors : map (cursor_in r.replies) r.cursors ≡ map (bound_value p.cursors) s.cursors
  pub replied : HaveReplies r.replies r.cursors
  pub children : r.children ≡ map (bound_value p.children) s.children
  pub spawned : r.spawned ≡ p.spawned
  pub printed : r.printed ≡ p.printed
  pub replies : r.replies ≡ map entry_reply p.entries
  pub status : r.status ≡ p.status

-- a process by slots, whose resolved script is one of these
abbrev pub IsProcess : List Code → SlotProcess → Process → Type 0
IsProcess codes r p =
    (index : ℕ) × (script : List Instr) × (code : Code) × (slice_get codes index ≡ Some code)
    × IsCode code script × Holds code.scope index script r p

abbrev pub AreProcesses : List Code → List SlotProcess → List Process → Type 0
AreProcesses codes [] [] = Unit {0}
AreProcesses codes [] (p ∷ ps) = ⊥
AreProcesses codes (r ∷ rs) [] = ⊥
AreProcesses codes (r ∷ rs) (p ∷ ps) = IsProcess codes r p × AreProcesses codes rs ps

pub record IsCore (m : Machine) (c : Core) : Type 0 where
  pub files : m.tree ≡ c.files
  pub processes : AreProcesses m.codes m.processes.items c.processes
  pub seed : m.seed ≡ c.seed
  pub last : m.last ≡ c.last
  pub generator : m.generator ≡ c.x
  pub asked : m.asked ≡ c.asked
  pub going : c.diverged ≡ None

-- the machine is in the core of a state, and the database is that of the state
abbrev pub IsState : {Db : Type 0} → Machine → Db → State Db → Type 0
IsState m db s = IsCore m s.core × (db ≡ s.db)

-- the script of the file at the first start word
abbrev pub IsStartScript : List (List ℕ) → FileState → List Instr → Type 0
IsStartScript [] files script = ⊥
IsStartScript (path ∷ words) files script = option_and_then script_of (content_at files path) ≡ Some script

-- the file at the first start word is a script
abbrev pub HasStartScript : List (List ℕ) → FileState → Type 0
HasStartScript start files = (script : List Instr) × IsStartScript start files script

-- a tracer that keeps events noted these
abbrev pub AppendsEvents : Bool → List Event → List Event → List Event → Type 0
AppendsEvents keeps old new events = IsTrue keeps → new ≡ old ++ events
