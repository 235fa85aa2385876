use Rattle.std.proofs.Common.{◌≡◌, drop}
use Rattle.lineage.specs.Lineage.{union_of}
use Rattle.query_eval.specs.Merging.{lineage_of_answers}
use Rattle.query_eval.proofs.lineages.united_set.Given as goal

abbrev pub invariant-loop-answer : goal.invariant-loop-answer
invariant-loop-answer l = union_of l.lineage (lineage_of_answers (drop l.answer-index l.answers)) ≡ lineage_of_answers l.answers
