use Rattle.std.proofs.Common.{Ok, ap}
use Rattle.package_codec.specs.CompactPackages.{expanded_package}
use Rattle.ldv_top.specs.DueOfJoins.{both_read}
use Rattle.ldv_top.proofs.commands.join.read_second.Goals as goal

pub returns-in-Ok-clause-due : goal.returns-in-Ok-clause-due
returns-in-Ok-clause-due c = ap (both_read (Ok (expanded_package c.args.a))) c.in-Ok.ensures.reading
