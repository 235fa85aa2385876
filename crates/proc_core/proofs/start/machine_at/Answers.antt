use Rattle.std.proofs.Common.{refl, rules, ap, [], length}
use Rattle.proc_core.proofs.Counts.{fewer_first}
use Rattle.proc_core.proofs.Starts.{started_core}
use Rattle.proc_core.proofs.start.machine_at.Goals as goal

pub returns-clause-core : goal.returns-clause-core
returns-clause-core c = λ script files same is.
    started_core _ c.args.path.now c.args.words.now c.args.seed files script c.in_ok-code.code c.in_ok-process.process
    (search rules) (search rules) (c.in_ok-code.ensures script (search rules)) (c.in_ok-process.ensures script) same refl refl refl refl

pub returns-clause-counted : goal.returns-clause-counted
returns-clause-counted c =
    fewer_first _ c.in_ok-process.process refl (search rules) (ap length (c.in_ok-process.ensures []).replies) (c.in_ok-process.ensures []).spawned
    c.in_ok-ready.ensures
