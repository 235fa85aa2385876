use Rattle.package_codec.proofs.Groups.{add_last}
use Rattle.package_codec.proofs.trace.group.add.Goals as goal

pub returns-in-Some : goal.returns-in-Some
returns-in-Some g c = rw (c.in-Some.ensures.items, add_last g.X.GroupedRow.table_of g.X.GroupedRow.part_of c.pop.new.self.items c.in-Some.last c.args.item.now) c.add_after.ensures
