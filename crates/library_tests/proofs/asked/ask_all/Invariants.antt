use Rattle.std.proofs.Common.{◌≤◌}
use Rattle.library_tests.proofs.asked.ask_all.Given as goal

abbrev pub invariant-loop-case : goal.invariant-loop-case
invariant-loop-case g l = l.engine.time ≤ l.step
