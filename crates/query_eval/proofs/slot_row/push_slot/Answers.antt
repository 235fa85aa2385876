use Rattle.std.proofs.Common.{◌≡◌, ◌∙◌, length, rules}
use Rattle.query_eval.proofs.SlotLevels.{slot_pushed}
use Rattle.query_eval.proofs.slot_row.push_slot.Goals as goal

pub returns : goal.returns
returns c = λ rows row others before.
    let long : c.len.result ≡ length c.args.slots.now.items = search rules in
    slot_pushed rows c.args.slots.now.items c.push.new.self.items c.in_ok-slot.slot row others c.in_ok-push.ensures.items (c.in_ok-slot.ensures ∙ long) before
