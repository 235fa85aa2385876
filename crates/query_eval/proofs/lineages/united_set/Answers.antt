use Rattle.std.proofs.Common.{◌≡◌, ◌∙◌, ap, [], sym, drop, arith}
use Rattle.std.proofs.lemmas.List.{drop_all}
use Rattle.lineage.specs.Lineage.{union_of}
use Rattle.query_eval.specs.Merging.{lineage_of_answers}
use Rattle.lineage.proofs.Unions.{none_union, union_none}
use Rattle.query_eval.proofs.lineages.united_set.Goals as goal

pub loop-answer-init : goal.loop-answer-init
loop-answer-init c = ap (λ s. union_of s (lineage_of_answers c.args.answers.now)) c.empty-lineage.ensures ∙ union_none (lineage_of_answers c.args.answers.now)

pub returns : goal.returns
returns c =
    let done : drop c.loop-answer.answer-index c.args.answers.now ≡ [] = drop_all c.loop-answer.answer-index c.args.answers.now (omega (arith, c.loop-answer-test.false)) in
    sym (none_union c.loop-answer.lineage) ∙ ap (λ l. union_of c.loop-answer.lineage (lineage_of_answers l)) (sym done) ∙ c.loop-answer.invariant
