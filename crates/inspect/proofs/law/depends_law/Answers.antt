use Rattle.inspect.proofs.DependsLaws.{lists_sources}
use Rattle.inspect.proofs.law.depends_law.Goals as goal

pub returns : goal.returns
returns c = lists_sources c.reach_law.ensures.depends
