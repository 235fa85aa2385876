use Rattle.proc_core.proofs.Launching.{counted_coded, launched_new}
use Rattle.proc_core.proofs.spawn.launch_new.Goals as goal

pub returns-clause-made : goal.returns-clause-made
returns-clause-made g c =
    launched_new c.args.machine.now c.add_code.new.machine c.launch.new.machine c.args.who.number c.args.slot c.len-index.result c.args.code c.args.arguments.now
    c.in_ok-add_code.ensures c.len-index.ensures c.in_ok-launch.ensures.made

pub launch-requires-clause-counted : goal.launch-requires-clause-counted
launch-requires-clause-counted g c =
    counted_coded c.args.machine.now c.add_code.new.machine c.args.code c.args.who.step c.in_ok-add_code.ensures c.requires.counted
