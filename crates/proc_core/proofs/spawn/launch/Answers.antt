use Rattle.std.proofs.Common.{arith}
use Rattle.proc_core.proofs.Counts.{may_spawn}
use Rattle.proc_core.proofs.Growing.{child_again}
use Rattle.proc_core.proofs.spawn.launch.Goals as goal

pub returns-clause-made : goal.returns-clause-made
returns-clause-made g c = λ r code at there.
    child_again _ c.args.who.number c.args.slot c.args.index code r c.args.arguments.now c.make_child.new.machine c.note_runner.new.machine
    c.in_ok-note_runner.ensures (c.in_ok-make_child.ensures r code at there)

pub make_child-requires-clause-spawns : goal.make_child-requires-clause-spawns
make_child-requires-clause-spawns g c =
    may_spawn c.args.machine.now c.args.who.number c.args.who.step c.requires.counted (omega arith)

pub make_child-requires-clause-flags : goal.make_child-requires-clause-flags
make_child-requires-clause-flags g c = c.requires.counted.flags
