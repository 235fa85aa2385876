use Rattle.std.proofs.Common.{◌≡◌, ap, ◌∙◌, subst, sym, rules}
use Rattle.ldv_top.specs.DueOfJoins.{PairReadsAs, pair_in, pair_reading}
use Rattle.ldv_top.proofs.commands.join.read_pair.Goals as goal

pub returns-in-Some-clause-due : goal.returns-in-Some-clause-due
returns-in-Some-clause-due c =
    let same : c.as_slice.result.now ≡ c.args.input = search rules in
    subst (PairReadsAs c.read_both.result) (ap pair_reading (c.in-Some.ensures ∙ ap pair_in same)) c.read_both.ensures.due

pub returns-clause-due : goal.returns-clause-due
returns-clause-due c =
    let same : c.as_slice.result.now ≡ c.args.input = search rules in
    sym (ap pair_reading (c.in-None.ensures ∙ ap pair_in same))
