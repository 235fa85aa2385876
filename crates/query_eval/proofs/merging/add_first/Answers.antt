use Rattle.std.proofs.Common.{◌≡◌, ◌∙◌, length, rules, sym}
use Rattle.query_eval.proofs.Absorbs.{absorbed_first, index_first}
use Rattle.query_eval.proofs.merging.add_first.Goals as goal

pub returns-clause-index : goal.returns-clause-index
returns-clause-index c =
    let last : c.len-place.result ≡ length c.args.made.now.items = search rules in
    index_first c.args.places.now c.insert.new.self c.args.made.now.items c.push_copy.new.made.items c.args.answer.now c.of.result c.len-place.result
    c.requires.index c.requires.none c.of.ensures last c.in_ok-insert.ensures.updates.0 c.in_ok-push_copy.ensures

pub returns-clause-made : goal.returns-clause-made
returns-clause-made c = c.in_ok-push_copy.ensures ∙ sym (absorbed_first c.args.made.now.items c.args.answer.now c.requires.none)
