use Rattle.std.proofs.Common.{◌≡◌, ◌-◌}
use Rattle.sql_model.specs.Reader.{repeat}
use Rattle.sql_parse.proofs.steps.all_steps.Given as goal

abbrev pub invariant-loop-count : goal.invariant-loop-count
invariant-loop-count g l = repeat g.S.Steps.reads (l.most - l._count) l.made l.reader ≡ repeat g.S.Steps.reads l.most l.fn.first l.fn.reader
