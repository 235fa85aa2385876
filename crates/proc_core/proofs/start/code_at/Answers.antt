use Rattle.std.proofs.Common.{ap, ◌∙◌}
use Rattle.std.proofs.lemmas.Result.{IfOk-weaker}
use Rattle.ldv_value.specs.FileState.{content_at}
use Rattle.script_code.specs.declared.code.Code.{Code}
use Rattle.proc_core.proofs.Starts.{code_due, parsed_absent, parsed_there}
use Rattle.proc_core.proofs.start.code_at.Goals as goal

pub unreachable-requires : goal.unreachable-requires
unreachable-requires c =
    parsed_absent (content_at c.args.tree.now c.args.path.now) c.args.script.now.instructions
    (c.in-None.ensures.content ∙ ap (content_at c.args.tree.now) c.as_str.ensures) c.requires

pub code_of-requires : goal.code_of-requires
code_of-requires c =
    parsed_there c.in-Some.bytes.now (content_at c.args.tree.now c.args.path.now) c.args.script.now.instructions
    (c.in-Some.ensures.content ∙ ap (content_at c.args.tree.now) c.as_str.ensures) c.requires

pub returns : goal.returns
returns c =
    IfOk-weaker c.code_of.result _ _
    (λ (code : Code) coded due is. code_due (content_at c.args.tree.now c.args.path.now) c.args.script.now.instructions code due coded c.requires is)
    c.code_of.ensures
