use Rattle.std.proofs.Common.{◌∙◌, sym}
use Rattle.std.proofs.lemmas.Result.{IfOk-weaker}
use Rattle.script_parse.specs.declared.script.Script.{Script}
use Rattle.proc_core.proofs.Begun.{parted}
use Rattle.proc_core.proofs.Starts.{first_found, first_there}
use Rattle.proc_core.proofs.start.start_script.Goals as goal

pub script_at-requires : goal.script_at-requires
script_at-requires c =
    first_there _ _ c.args.start.now c.args.tree.now
    (sym c.items.ensures ∙ parted c.items.result.now c.path-item.result c.in-len1-up.len_at_least c.path-item.is)
    c.requires.script

pub returns : goal.returns
returns c =
    let is = sym c.items.ensures ∙ parted c.items.result.now c.path-item.result c.in-len1-up.len_at_least c.path-item.is in
    IfOk-weaker c.script_at.result _ _
    (λ (script : Script) found. first_found _ _ c.args.start.now c.args.tree.now script.instructions is found)
    c.script_at.ensures
