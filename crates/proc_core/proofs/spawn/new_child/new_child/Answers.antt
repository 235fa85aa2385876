use Rattle.std.proofs.Common.{◌≡◌, List, get_or, ap, ◌∙◌}
use Rattle.script_code.specs.declared.code.Code.{Code}
use Rattle.proc_core.proofs.AtNumber.{item_same}
use Rattle.proc_core.proofs.Launching.{holds_so}
use Rattle.proc_core.proofs.spawn.new_child.new_child.Goals as goal

pub returns : goal.returns
returns c = λ code script at.
    let codes = c.args.codes.now in
    let k = c.index-items-index.result in
    let is : k ≡ get_or codes c.args.index k = c.index-items-index.is ∙ ap (λ (l : List Code). get_or l c.args.index k) c.items.ensures in
    holds_so c.args.index k code script c.in_ok-new_process.field-0 _ _ _ _ (item_same codes c.args.index k c.requires is code at)
    c.in_ok-name.ensures c.items-2.ensures (c.in_ok-new_process.ensures script)
