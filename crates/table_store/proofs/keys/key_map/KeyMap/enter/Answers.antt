use Rattle.std.proofs.Common.{◌≡◌, ◌∙◌, None}
use Rattle.std.specs.BTreeMap.{get}
use Rattle.table_store.proofs.KeyMapLaws.{entered_one, entered_others, still_fewer}
use Rattle.table_store.proofs.keys.key_map.KeyMap.enter.Goals as goal

pub loop-key-preserved : goal.loop-key-preserved
loop-key-preserved g c =
    let cmp = g.K.Ord.cmp in
    let inv = c.loop-key.invariant in
    record {
      fewer = still_fewer cmp g.met.K.Ord.total c.args.places c.loop-key.left c.pop_first.new.self c.in-Some.key c.in-Some.ensures.updates.0 inv.fewer;
      others = λ q none. entered_others cmp g.met.K.Ord.total c.args.places c.loop-key.left c.loop-key.self.held c.put.new.self.held c.in-Some.key c.in-Some.place c.args.next c.in-Some.ensures.value inv.fewer c.in-Ok.ensures.ok q none ∙ inv.others q none;
      same = λ q. entered_one cmp g.met.K.Ord.total c.loop-key.left c.pop_first.new.self c.loop-key.self.held c.put.new.self.held c.in-Some.key c.in-Some.place c.args.next c.in-Some.ensures.value c.in-Some.ensures.updates.0 c.in-Ok.ensures.ok q ∙ inv.same q;
    }
