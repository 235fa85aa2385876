-- Two look-ups that find the same for each name give the same instructions.
use Rattle.std.proofs.Common.{◌≡◌, ℕ, List, subst}
use Rattle.std.specs.Prelude.{Option, Result}
use Rattle.script_parse.specs.declared.line.Entry.{Entry}
use Rattle.script_parse.specs.declared.line.Definition.{Definition}
use Rattle.script_parse.specs.declared.parse.ScriptStop.{ScriptStop}
use Rattle.script_parse.specs.declared.script.Instr.{Instr}
use Rattle.script_parse.specs.Script.{Answers, instructions_of, first_unresolved_line}

pub results_same : (look found : List ℕ → Option Definition) (es : List Entry) (r : Result (List Instr) ScriptStop) → ((name : List ℕ) → look name ≡ found name)
    → Answers r (instructions_of look es) (first_unresolved_line look es) → Answers r (instructions_of found es) (first_unresolved_line found es)
results_same look found es r same h =
    let e : look ≡ found = λ i name. same name i in
    subst (λ (f : List ℕ → Option Definition). Answers r (instructions_of f es) (first_unresolved_line f es)) e h
