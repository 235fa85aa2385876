use Rattle.column_store.proofs.FlagLaws.{flags_more_seen}
use Rattle.column_store.proofs.bits.Bits.push.Goals as goal

pub returns-clause-ok : goal.returns-clause-ok
returns-clause-ok c = flags_more_seen c.self.inside.words.items c.widen.new.words.items c.put.new.words.items c.self.inside.len c.args.bit c.args.self.now _ c.self.view_is c.widen.ensures.bits c.put.ensures.bits
