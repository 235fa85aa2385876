-- The statement that a step asks, and its result after the reply, over slots. `StepReplies` of `run_model`
-- defines `sql` by names.
use Rattle.std.specs.Prelude.{ℕ, List, [], ◌∷◌, ◌++◌, length, slice_get, slice_set, Option, Some}
use Rattle.std.specs.Prelude.{None}
use Rattle.sql_model.specs.declared.reply.Reply.{Reply}
use Rattle.proc_core.specs.Types.{Value, Null, Int, Text}
use Rattle.run_model.specs.Database.{Question}
use Rattle.script_code.specs.declared.code.Code.{Code}
use Rattle.script_code.specs.declared.code.SlotInstr.{SlotInstr}
use Rattle.script_code.specs.declared.code.SlotInstr.TheVariants.{Own, OnFiles, Spawn, Wait, Sql}
use Rattle.proc_core.specs.declared.instructions.ask.Statement.{Statement}
use Rattle.proc_core.specs.declared.machine.Machine.{Machine}
use Rattle.proc_core.specs.declared.process.SlotProcess.{SlotProcess}
use Rattle.proc_core.specs.inner.Slots.{slot_value, slot_values, slot_went_on}
use Rattle.proc_core.specs.inner.SlotStep.{next_slot_instr}

-- what isn't a text isn't asked
abbrev pub text_statement : ℕ → Value → List Value → Option Statement
text_statement cursor Null params = None
text_statement cursor (Int n) params = None
text_statement cursor (Text text) params = Some (record { cursor = cursor; text = text; params = params })

abbrev pub slot_ask : Option SlotInstr → SlotProcess → Option Statement
slot_ask None r = None
slot_ask (Some (Own o)) r = None
slot_ask (Some (OnFiles f)) r = None
slot_ask (Some (Spawn child path arguments place)) r = None
slot_ask (Some (Wait to child)) r = None
slot_ask (Some (Sql cursor text params)) r = text_statement cursor (slot_value r text) (slot_values r params)

abbrev pub slot_ask_in : List Code → Option SlotProcess → Option Statement
slot_ask_in codes None = None
slot_ask_in codes (Some r) = slot_ask (next_slot_instr codes (Some r)) r

abbrev pub slot_ask_at : Machine → ℕ → Option Statement
slot_ask_at m number = slot_ask_in m.codes (slice_get m.processes.items number)

-- the cursor means the reply, of which no row was fetched
abbrev pub slot_replied : ℕ → Reply → SlotProcess → SlotProcess
slot_replied cursor reply r = slot_went_on (record r {
  cursors = slice_set r.cursors cursor (Some (record { reply = length r.replies; fetched = 0 }));
  replies = r.replies ++ reply ∷ [];
})

-- a process asks a statement with its name
abbrev pub question_of : SlotProcess → Statement → Question
question_of r statement = record { process = r.name; text = statement.text; params = statement.params }
