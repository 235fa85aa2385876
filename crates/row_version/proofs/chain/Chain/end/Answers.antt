use Rattle.row_version.proofs.Parts.{closed}
use Rattle.row_version.proofs.chain.Chain.end.Goals as goal

pub invariant_of-self : goal.invariant_of-self
invariant_of-self c = (closed c.self.inside c.args.self.now c.args.time c.self.view_is c.self.invariant c.requires.live c.requires.few c.requires.later).1

pub returns-clause-changes : goal.returns-clause-changes
returns-clause-changes c = (closed c.self.inside c.args.self.now c.args.time c.self.view_is c.self.invariant c.requires.live c.requires.few c.requires.later).0
