use Rattle.reach.proofs.DependsLaws.{depends_law}
use Rattle.reach.proofs.TrailLaws.{trails_law}
use Rattle.reach.proofs.law.reach_law.Goals as goal

pub returns-clause-trails : goal.returns-clause-trails
returns-clause-trails c = trails_law c.graph_law.ensures.intervals

pub returns-clause-depends : goal.returns-clause-depends
returns-clause-depends c = depends_law
