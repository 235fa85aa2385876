use Rattle.std.proofs.Common.{◌≡◌, ◌++◌, map}
use Rattle.sql_engine.specs.inner.Answering.{values_of}
use Rattle.sql_engine.proofs.answer.values_of.Given as goal

abbrev pub invariant-loop-answer : goal.invariant-loop-answer
invariant-loop-answer l = l.rows ++ map values_of l.answer-iterator.rest.items ≡ map values_of l.fn.answers
