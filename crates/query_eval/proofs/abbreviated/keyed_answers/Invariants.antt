use Rattle.std.proofs.Common.{◌≡◌, ◌++◌, map}
use Rattle.query_eval.specs.inner.Abbreviating.{with_key}
use Rattle.query_eval.proofs.abbreviated.keyed_answers.Given as goal

abbrev pub invariant-loop-answer : goal.invariant-loop-answer
invariant-loop-answer l = l.made.items ++ map (with_key l.columns) l.answer-iterator.rest.items ≡ map (with_key l.fn.columns) l.fn.answers
