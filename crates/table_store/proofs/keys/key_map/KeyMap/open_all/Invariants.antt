use Rattle.std.proofs.Common.{◌≡◌, ℕ, Some}
use Rattle.std.specs.BTreeMap.{get}
use Rattle.table_store.proofs.KeyMapLaws.{NumbersLeft}
use Rattle.table_store.proofs.keys.key_map.KeyMap.open_all.Given as goal

abbrev pub invariant-loop-key : goal.invariant-loop-key
invariant-loop-key g l =
    ((q : g.row.K.Denot) (n : ℕ) → get g.K.Ord.cmp l.fn.self.held q ≡ Some n → get g.K.Ord.cmp l.self.held q ≡ Some n)
    × NumbersLeft g.K.Ord.cmp l.other.held l.key-iterator l.self.held
