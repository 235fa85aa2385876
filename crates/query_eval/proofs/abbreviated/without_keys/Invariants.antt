use Rattle.std.proofs.Common.{◌≡◌, ◌++◌, map}
use Rattle.query_eval.specs.declared.abbreviated.KeyedAnswer.{KeyedAnswer}
use Rattle.query_eval.proofs.abbreviated.without_keys.Given as goal

abbrev pub invariant-loop-each : goal.invariant-loop-each
invariant-loop-each l = l.made ++ map (λ (each : KeyedAnswer). each.answer) l.each-iterator.rest.items ≡ map (λ (each : KeyedAnswer). each.answer) l.fn.keyed.items
