use Rattle.std.proofs.Common.{◌∙◌}
use Rattle.table_store.proofs.KeyMapLaws.{taken_over}
use Rattle.table_store.proofs.keys.key_map.KeyMap.set_all.Goals as goal

pub loop-key-preserved : goal.loop-key-preserved
loop-key-preserved g c = λ q.
    taken_over g.K.Ord.cmp g.met.K.Ord.total c.loop-key.left c.pop_first.new.self c.loop-key.self.held c.set.new.self.held c.in-Some.key c.in-Some.number c.in-Some.ensures.value c.in-Some.ensures.updates.0 c.set.ensures q
    ∙ c.loop-key.invariant q
