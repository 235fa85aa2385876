use Rattle.std.proofs.Common.{◌≡◌, ◌+◌, ◌∙◌, ℕ, ap, sym, arith}
use Rattle.std.specs.Prelude.{Option, Some}
use Rattle.ready_set.proofs.NumberLaws.{number_there, find_next}
use Rattle.ready_set.proofs.set.ReadySet.find_above.Goals as goal

pub overflow_add-result : goal.overflow_add-result
overflow_add-result c = omega (arith, c.has_next.ensures.few c.if-has_next.true)

pub returns-then-has_next : goal.returns-then-has_next
returns-then-has_next c =
    let last = c.args.last in
    let flags = c.args.self.now.flags in
    let same : 0 + (last + 1) ≡ last + 1 = omega arith in
    sym (find_next last flags ∙ number_there 0 flags (last + 1) (c.has_next.ensures.there c.if-has_next.true) ∙ ap {B = Option ℕ} Some same)
