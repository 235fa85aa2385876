use Rattle.std.proofs.Common.{◌≡◌, length, ◌<◌, take, get_or, sym, ap, ◌∙◌, arith}
use Rattle.package_codec.specs.Groups.{add, groups}
use Rattle.package_codec.proofs.Groups.{groups_more}
use Rattle.package_codec.proofs.trace.group.groups_of.Goals as goal

pub loop-item-preserved : goal.loop-item-preserved
loop-item-preserved g c =
    let table_of = g.X.GroupedRow.table_of in
    let part_of = g.X.GroupedRow.part_of in
    let xs = c.args.items.now in
    let i = c.loop-item.item-index in
    let x = c.item-item.result in
    let lt : i < length xs = omega (arith, ap length c.items-item-items.ensures) in
    let is : get_or xs i x ≡ x = ap (λ l. get_or l i x) (sym c.items-item-items.ensures) ∙ sym c.item-item.is in
    c.in_ok-add.ensures ∙ ap (λ l. add table_of part_of l x) c.loop-item.invariant ∙ ap (add table_of part_of (groups table_of part_of (take i xs))) (sym is) ∙ sym (groups_more table_of part_of xs i x lt)
