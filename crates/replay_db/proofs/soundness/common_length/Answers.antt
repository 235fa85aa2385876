use Rattle.std.proofs.Common.{◌≡◌, ◌≤◌, ◌+◌, ◌-◌, ℕ, length, drop, arith}
use Rattle.std.specs.Prelude.{nat_eq}
use Rattle.std.specs.List.{common_prefix_len}
use Rattle.std.proofs.lemmas.List.{length-drop}
use Rattle.std.proofs.lemmas.List.Sums.{common_prefix_len-le}
use Rattle.replay_db.proofs.soundness.common_length.Goals as goal

pub returns-else-at-due : goal.returns-else-at-due
returns-else-at-due c =
    let at : ℕ = c.loop-at.at in
    let rest : ℕ = common_prefix_len nat_eq (drop at c.args.bytes.now) (drop at c.args.due.now) in
    let few : rest ≤ length (drop at c.args.due.now) = (common_prefix_len-le nat_eq (drop at c.args.bytes.now) (drop at c.args.due.now)).1 in
    let left : length (drop at c.args.due.now) ≡ length c.args.due.now - at = length-drop at c.args.due.now in
    let end : length c.args.due.now ≤ at = c.if-at-due.false in
    omega (arith, few, left, end, c.loop-at.invariant.same)
