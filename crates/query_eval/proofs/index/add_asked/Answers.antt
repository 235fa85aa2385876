use Rattle.std.proofs.Common.{◌∙◌, sym}
use Rattle.std.proofs.lemmas.Result.{on_ok_weaker}
use Rattle.query_eval.proofs.Asks.{not_asked}
use Rattle.query_eval.specs.inner.Slots.{slots_listed}
use Rattle.query_eval.proofs.index.add_asked.Goals as goal

pub returns-then-is_asked : goal.returns-then-is_asked
returns-then-is_asked c = on_ok_weaker c.add.result (λ added other asked. added other) c.add.ensures.ok

pub returns-else-is_asked : goal.returns-else-is_asked
returns-else-is_asked c = λ other asked. not_asked c.args.asked.now c.args.key other (sym c.is_asked.ensures ∙ c.if-is_asked.false) asked c.args.slot.now (slots_listed c.args.map.now other)
