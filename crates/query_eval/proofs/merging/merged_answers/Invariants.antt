use Rattle.std.proofs.Common.{◌≡◌, [], drop}
use Rattle.query_eval.specs.Merging.{merged_onto, IsIndex}
use Rattle.query_eval.proofs.merging.merged_answers.Given as goal

abbrev pub invariant-loop-answer : goal.invariant-loop-answer
invariant-loop-answer l = IsIndex l.places l.made.items × (merged_onto l.made.items (drop l.answer-index l.answers) ≡ merged_onto [] l.answers)
