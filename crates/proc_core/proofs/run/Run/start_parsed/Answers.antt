use Rattle.std.proofs.Common.{◌∙◌, sym}
use Rattle.proc_core.proofs.Begun.{begins, parted}
use Rattle.proc_core.proofs.Starts.{first_parsed}
use Rattle.proc_core.proofs.run.Run.start_parsed.Goals as goal

pub machine_at-requires : goal.machine_at-requires
machine_at-requires g c =
    first_parsed _ _ c.args.start.now c.args.tree c.args.script.now.instructions
    (sym c.items.ensures ∙ parted c.items.result.now c.path-item.result c.in-len1-up.len_at_least c.path-item.is)
    c.requires.script

pub returns-clause-state : goal.returns-clause-state
returns-clause-state g c =
    begins c.in_ok-machine-in-len1-up.machine (g.D.Database.seen c.args.db) _ _ c.args.seed c.args.tree
    c.in_ok-machine-in-len1-up.ensures.core c.in_ok-machine-in-len1-up.ensures.ready c.args.start.now
    (sym c.items.ensures ∙ parted c.items.result.now c.path-item.result c.in-len1-up.len_at_least c.path-item.is)
