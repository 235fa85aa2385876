-- Items under keys, by the order of the keys.
use Rattle.std.specs.Prelude.{List, [], ◌∷◌, ◌++◌, cond, unwrap_or}
use Rattle.std.specs.BTreeMap as tree
use Rattle.std.specs.Ordering.{is_eq}
use Rattle.std.specs.declared.cmp.Ordering.{Ordering}
use Rattle.ldv_value.specs.declared.refs_by.RefsBy.{RefsBy}

module _ {K X : Type 0} (cmp : K → K → Ordering) where
  -- the items under a key, in their order
  abbrev pub listed : RefsBy K X → K → List X
  listed refs key = unwrap_or (tree.get cmp refs.map key) []

  -- those under a key, after one item more under its own
  abbrev pub item_added : K → X → K → List X → List X
  item_added own item key items = cond (is_eq (cmp own key)) (items ++ item ∷ []) items
