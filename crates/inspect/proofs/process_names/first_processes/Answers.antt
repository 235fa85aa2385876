use Rattle.inspect.proofs.PlaceLaws.{first_after, first_named}
use Rattle.inspect.proofs.process_names.first_processes.Goals as goal

pub invariant_of-result : goal.invariant_of-result
invariant_of-result c = first_after c.in_ok-made.made.items c.in_ok-made.ensures

pub returns : goal.returns
returns c = first_named c.in_ok-made.made.items c.in_ok-made.ensures
