use Rattle.std.proofs.Common.{◌≡◌, ◌∙◌, length, rules, sym}
use Rattle.group_eval.proofs.GroupLaws.{with_pick_first, index_first}
use Rattle.group_eval.proofs.groups.add_first.Goals as goal

pub returns-clause-index : goal.returns-clause-index
returns-clause-index c =
    let last : c.len-number.result ≡ length c.args.made.now.items = search rules in
    index_first c.args.places.now c.args.numbers.now c.insert.new.self c.args.made.now.items c.push_alone.new.made.items c.args.pick.now c.of.result c.len-number.result
    c.requires.index c.requires.none c.of.ensures last c.in_ok-insert.ensures.updates.0 c.in_ok-push_alone.ensures

pub returns-clause-made : goal.returns-clause-made
returns-clause-made c = c.in_ok-push_alone.ensures ∙ sym (with_pick_first c.args.places.now c.args.made.now.items c.args.pick.now c.requires.none)
