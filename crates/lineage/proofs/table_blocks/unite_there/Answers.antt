use Rattle.std.proofs.Common.{rules, sym}
use Rattle.lineage.proofs.RoomLaws.{united_kept, united_stays, united_here, there_written}
use Rattle.lineage.proofs.table_blocks.unite_there.Goals as goal

pub returns-in-Some-clause-kept : goal.returns-in-Some-clause-kept
returns-in-Some-clause-kept c = united_kept c.args.blocks.now (c.get_mut.follows.lender c.unite_in.new.block) c.args.place c.in-Some.block.now c.unite_in.new.block c.args.other.now (sym c.in-Some.ensures.value) ((c.get_mut.follows.holds c.unite_in.new.block).3 (search rules)) c.unite_in.ensures.words c.unite_in.ensures.versions c.requires.kept c.requires.also_kept c.unite_in.ensures.long

pub returns-in-Some-clause-stays : goal.returns-in-Some-clause-stays
returns-in-Some-clause-stays c = united_stays c.args.blocks.now (c.get_mut.follows.lender c.unite_in.new.block) c.args.place c.in-Some.block.now c.unite_in.new.block c.args.other.now (sym c.in-Some.ensures.value) ((c.get_mut.follows.holds c.unite_in.new.block).3 (search rules)) c.unite_in.ensures.words c.unite_in.ensures.versions c.unite_in.ensures.stays

pub returns-in-Some-clause-here : goal.returns-in-Some-clause-here
returns-in-Some-clause-here c = united_here c.args.blocks.now (c.get_mut.follows.lender c.unite_in.new.block) c.args.place c.in-Some.block.now c.unite_in.new.block c.args.other.now (sym c.in-Some.ensures.value) ((c.get_mut.follows.holds c.unite_in.new.block).3 (search rules)) c.unite_in.ensures.words c.unite_in.ensures.versions

pub returns-in-Some-clause-there : goal.returns-in-Some-clause-there
returns-in-Some-clause-there c = λ p k miss. there_written c.args.blocks.now (c.get_mut.follows.lender c.unite_in.new.block) c.args.place c.unite_in.new.block ((c.get_mut.follows.holds c.unite_in.new.block).3 (search rules)) p k miss
