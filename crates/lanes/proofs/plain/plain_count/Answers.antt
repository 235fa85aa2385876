use Rattle.std.proofs.Common.{◌≡◌, ◌*◌, ◌∙◌, ℕ, length, arith, ap, Bool, cond}
use Rattle.std.specs.Prelude.{count_by}
use Rattle.std.specs.List.{range_with_len}
use Rattle.lanes.specs.Sets.{member}
use Rattle.lanes.proofs.CountLaws.{count_next, count_bound, byte_is}
use Rattle.lanes.proofs.MaskLaws.{byte_of_test}
use Rattle.lanes.proofs.plain.plain_count.Goals as goal

pub overflow_add-total : goal.overflow_add-total
overflow_add-total c = record { fits = omega (arith, count_bound (member c.args.a.now) c.loop-number.number, c.loop-number.invariant, c.from-total.ensures, byte_of_test c.is_member.result) }

pub loop-number-preserved : goal.loop-number-preserved
loop-number-preserved c = omega (arith, count_next (member c.args.a.now) c.loop-number.number, c.loop-number.invariant, c.from-total.ensures, byte_is c.is_member.result, ap {B = ℕ} (λ (b : Bool). cond b 1 0) c.is_member.ensures)

pub returns : goal.returns
returns c =
    let whole : c.loop-number.number ≡ 64 * length c.args.a.now = omega arith in
    c.loop-number.invariant ∙ ap (λ (k : ℕ). count_by (member c.args.a.now) (range_with_len 0 k)) whole
