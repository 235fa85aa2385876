use Rattle.std.proofs.Common.{rules}
use Rattle.table_store.proofs.KeyMapLaws.{set_some, set_none}
use Rattle.table_store.proofs.keys.key_map.KeyMap.set.Goals as goal

pub returns-in-Some : goal.returns-in-Some
returns-in-Some g c =
    let old = c.args.self.now.held in
    let new = c.get_mut.follows.lender c.args.number in
    set_some g.K.Ord.cmp g.met.K.Ord.total old new c.args.key.now c.args.number c.in-Some.held.now c.in-Some.ensures.value ((c.get_mut.follows.holds c.args.number).3 (search rules)).0

pub returns-in-None : goal.returns-in-None
returns-in-None g c =
    set_none g.K.Ord.cmp g.met.K.Ord.total c.args.self.now.held c.get_mut.follows.lender-at-none c.args.key.now c.args.number c.get_mut.follows.holds-at-none c.in-None.ensures.value
