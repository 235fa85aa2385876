use Rattle.std.proofs.Common.{ap, ◌∙◌}
use Rattle.std.proofs.lemmas.Result.{IfOk-weaker}
use Rattle.ldv_value.specs.FileState.{content_at}
use Rattle.script_parse.specs.declared.script.Script.{Script}
use Rattle.proc_core.proofs.Starts.{script_there}
use Rattle.proc_core.proofs.start.script_at.Goals as goal

pub returns : goal.returns
returns c =
    let at = c.in-Some.ensures.content ∙ ap (content_at c.args.tree.now) c.as_str.ensures in
    IfOk-weaker c.known_script.result _ _
    (λ (script : Script) is. script_there c.in-Some.bytes.now (content_at c.args.tree.now c.args.path.now) script.instructions at is)
    c.known_script.ensures
