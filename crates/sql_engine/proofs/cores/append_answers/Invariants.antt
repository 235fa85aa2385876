use Rattle.std.proofs.Common.{◌≡◌, ◌++◌}
use Rattle.sql_engine.proofs.cores.append_answers.Given as goal

abbrev pub invariant-loop-answer : goal.invariant-loop-answer
invariant-loop-answer l = l.made ++ l.answer-iterator.rest.items ≡ l.fn.answers ++ l.fn.more
