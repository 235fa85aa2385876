use Rattle.std.proofs.Common.{◌∷◌, ◌++◌, ap}
use Rattle.query_eval.specs.inner.Slots.{slots_with}
use Rattle.query_eval.proofs.index.index_of.Goals as goal

pub loop-slot-init : goal.loop-slot-init
loop-slot-init c = λ key asked. ap (λ l. l ++ slots_with c.args.ties.now (key.0 ∷ key.1) c.args.rows.now c.args.slots.now) (c.new-map.ensures key)
