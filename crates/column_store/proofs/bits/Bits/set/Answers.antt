use Rattle.column_store.proofs.FlagLaws.{flags_set_seen}
use Rattle.column_store.proofs.bits.Bits.set.Goals as goal

pub returns-clause-items : goal.returns-clause-items
returns-clause-items c = flags_set_seen c.self.inside.words.items c.put.new.words.items c.self.inside.len c.args.slot c.args.bit c.args.self.now _ c.self.view_is c.requires c.put.ensures.bits
