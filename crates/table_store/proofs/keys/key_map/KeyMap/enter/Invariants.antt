use Rattle.std.proofs.Common.{◌≡◌, ℕ, Some, None}
use Rattle.std.specs.BTreeMap.{get, btree_map_len}
use Rattle.table_store.proofs.KeyMapLaws.{entered}
use Rattle.table_store.proofs.keys.key_map.KeyMap.enter.Given as goal

abbrev pub invariant-loop-key : goal.invariant-loop-key
invariant-loop-key g l = record {
  fewer : (q : g.row.K.Denot) (n : ℕ) → get g.K.Ord.cmp l.left q ≡ Some n → get g.K.Ord.cmp l.fn.places q ≡ Some n;
  others : (q : g.row.K.Denot) → get g.K.Ord.cmp l.fn.places q ≡ None → get g.K.Ord.cmp l.self.held q ≡ get g.K.Ord.cmp l.fn.self.held q;
  same : (q : g.row.K.Denot) → entered l.next (get g.K.Ord.cmp l.left q) (get g.K.Ord.cmp l.self.held q) ≡ entered l.next (get g.K.Ord.cmp l.fn.places q) (get g.K.Ord.cmp l.fn.self.held q);
}

abbrev pub decreases-loop-key : goal.decreases-loop-key
decreases-loop-key g l = btree_map_len l.left
