use Rattle.std.proofs.Common.{◌∙◌}
use Rattle.std.specs.Map.Iter.{deref_pair}
use Rattle.std.proofs.lemmas.Map.Iter.{rest_more}
use Rattle.table_store.proofs.KeyMapLaws.{all_left, fewer_left}
use Rattle.table_store.proofs.keys.key_map.KeyMap.open_all.Goals as goal

pub loop-key-init : goal.loop-key-init
loop-key-init g c = (
  λ q n is. is,
  all_left g.K.Ord.cmp g.met.K.Ord.total c.args.other.now.held c.args.self.now.held c.into_iter-key-iterator.result (c.into_iter-key-iterator.ensures.into_iter_gives ∙ c.iter-key-items.ensures.rest),
)

pub loop-key-preserved : goal.loop-key-preserved
loop-key-preserved g c =
    let split = rest_more deref_pair c.loop-key.key-iterator c.next.new.self c.next.result (c.in-Some.key, c.in-Some.number) c.in-Some.is c.next.ensures.steps in (
      λ q n is. c.open.ensures.kept q n (c.loop-key.invariant.0 q n is),
      fewer_left g.K.Ord.cmp g.met.K.Ord.total c.args.other.now.held c.loop-key.self.held c.open.new.self.held c.in-Some.key.now c.in-Some.number.now c.loop-key.key-iterator c.next.new.self split c.open.ensures.kept c.in-Ok.ensures.ok c.loop-key.invariant.1,
    )
