use Rattle.std.proofs.Common.{◌∙◌, sym}
use Rattle.std.proofs.lemmas.Result.{on_ok_weaker}
use Rattle.group_eval.specs.inner.Grouping.{key_of}
use Rattle.group_eval.proofs.groups.add_pick.Goals as goal

pub returns-in-Some-clause-index : goal.returns-in-Some-clause-index
returns-in-Some-clause-index c = on_ok_weaker c.add_again.result (λ same v. c.requires v ∙ sym (same v)) c.add_again.ensures.numbers

pub add_again-requires : goal.add_again-requires
add_again-requires c = sym (c.requires (key_of c.args.places.now c.args.pick.now)) ∙ sym c.in-Some.ensures

pub add_first-requires-clause-none : goal.add_first-requires-clause-none
add_first-requires-clause-none c = sym (c.requires (key_of c.args.places.now c.args.pick.now)) ∙ sym c.in-None.ensures
