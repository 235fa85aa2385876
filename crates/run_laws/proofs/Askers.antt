-- A question names the process that asks it.
use Rattle.std.proofs.Common.{◌≡◌, ℕ, List, refl, sym, ap}
use Rattle.std.specs.Prelude.{Option, Some, None, slice_get}
use Rattle.ldv_value.proofs.Options.{same-some}
use Rattle.script_parse.specs.declared.script.Instr.TheVariants as instr
use Rattle.run_laws.specs.Types.{Value, Null, Int, Text, Instr}
use Rattle.run_model.specs.Core.{Process}
use Rattle.run_model.specs.Step.{Ask, ask, asked_by, ask_of_instr, ask_of_process}
use Rattle.run_model.specs.StepBase.{operand_value, operand_values}

ask_named : (cursor : List ℕ) (v : Value) (params : List Value) (p : Process) (a : Ask)
    → ask cursor v params p ≡ Some a → a.question.process ≡ p.name
ask_named cursor Null params p a is = cc
ask_named cursor (Int n) params p a is = cc
ask_named cursor (Text text) params p a is = ap (λ (b : Ask). b.question.process) (sym (same-some _ a is))

asked_named : (i : Instr) (p : Process) (a : Ask) → asked_by i p ≡ Some a → a.question.process ≡ p.name
asked_named (instr.Sql cursor text params) p a is =
    ask_named cursor (operand_value p text) (operand_values p params) p a is
asked_named other p a is = cc

pub next_named : (i : Option Instr) (p : Process) (a : Ask) → ask_of_instr i p ≡ Some a → a.question.process ≡ p.name
next_named None p a is = cc
next_named (Some i) p a is = asked_named i p a is

pub asker : (o : Option Process) (a : Ask) → ask_of_process o ≡ Some a
    → (p : Process) × (o ≡ Some p) × (a.question.process ≡ p.name)
asker None a is = absurd cc
asker (Some p) a is = (p, refl, next_named (slice_get p.script p.place) p a is)
