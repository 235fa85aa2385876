use Rattle.std.proofs.Common.{◌≡◌}
use Rattle.std.specs.BTreeMap.{get, btree_map_len}
use Rattle.table_store.specs.KeyIndex.{in_place}
use Rattle.table_store.proofs.keys.key_map.KeyMap.set_all.Given as goal

abbrev pub invariant-loop-key : goal.invariant-loop-key
invariant-loop-key g l =
    (q : g.row.K.Denot) → in_place (get g.K.Ord.cmp l.left q) (get g.K.Ord.cmp l.self.held q) ≡ in_place (get g.K.Ord.cmp l.fn.other.held q) (get g.K.Ord.cmp l.fn.self.held q)

abbrev pub decreases-loop-key : goal.decreases-loop-key
decreases-loop-key g l = btree_map_len l.left
