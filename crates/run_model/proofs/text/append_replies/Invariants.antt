use Rattle.std.proofs.Common.{◌≡◌, ◌++◌, take}
use Rattle.std.specs.List.{flat_map}
use Rattle.run_model.specs.OutcomeText.{reply_text}
use Rattle.run_model.proofs.text.append_replies.Given as goal

abbrev pub invariant-loop-reply : goal.invariant-loop-reply
invariant-loop-reply l = l.to ≡ l.fn.to ++ flat_map reply_text (take l.reply-index l.replies)
