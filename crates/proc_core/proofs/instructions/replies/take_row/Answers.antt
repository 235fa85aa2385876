use Rattle.std.proofs.Common.{◌≡◌, ap, ◌∙◌, arith}
use Rattle.proc_core.specs.declared.process.SlotProcess.{SlotProcess}
use Rattle.proc_core.proofs.FetchedValues.{same_place}
use Rattle.proc_core.proofs.instructions.replies.take_row.Goals as goal

pub go_on-requires : goal.go_on-requires
go_on-requires c =
    let same : c.set_values.new.process.place ≡ c.args.process.now.place =
    ap (λ (r : SlotProcess). r.place) c.in_ok-set_values.ensures ∙ same_place c.items.result.now c.args.row c.one_more.new.process ∙ ap (λ (r : SlotProcess). r.place) c.one_more.ensures in
    omega arith
