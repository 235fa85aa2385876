use Rattle.std.proofs.Common.{◌≡◌, drop, true, ◌∷◌, ◌++◌}
use Rattle.query_eval.specs.inner.Asked.{is_asked}
use Rattle.query_eval.specs.inner.Joining.{TieValues}
use Rattle.query_eval.specs.inner.Slots.{slots_listed, slots_with}
use Rattle.query_eval.proofs.index.index_of.Given as goal

abbrev pub invariant-loop-slot : goal.invariant-loop-slot
invariant-loop-slot l = (key : TieValues) → is_asked l.asked key ≡ true
    → slots_listed l.map key ++ slots_with l.ties (key.0 ∷ key.1) l.rows (drop l.slot-index l.slots) ≡ slots_with l.ties (key.0 ∷ key.1) l.rows l.slots
