-- Tables of names. The slot of a name is its index.
use Rattle.std.specs.Prelude.{◌≡◌, ◌<◌, ℕ, suc, List, [], ◌∷◌, length, bytes_eq, false, if◌then◌else◌}
use Rattle.std.specs.Prelude.{Option, Some, None}
use Rattle.std.specs.List.{list_any}
use Rattle.std.specs.BTreeMap.{BTreeMap, get_by_text}
use Rattle.std.specs.declared.alloc.Global.{Global}
use Rattle.std.specs.Prelude.{String}

-- no name is there twice
abbrev pub AreDistinct : List (List ℕ) → Type 0
AreDistinct [] = Unit {0}
AreDistinct (name ∷ names) = (list_any (bytes_eq name) names ≡ false) × AreDistinct names

-- the index of a name, or how many names there are
abbrev pub slot_of : List (List ℕ) → List ℕ → ℕ
slot_of [] name = 0
slot_of (n ∷ ns) name = if bytes_eq name n then 0 else suc (slot_of ns name)

abbrev pub HasName : List (List ℕ) → List ℕ → Type 0
HasName names name = slot_of names name < length names

abbrev pub IsSlot : List (List ℕ) → List ℕ → ℕ → Type 0
IsSlot names name slot = (slot ≡ slot_of names name) × HasName names name

-- each name of one table has the same slot in another, where none is twice if none was
pub record Extends (names more : List (List ℕ)) : Type 0 where
  pub at : (name : List ℕ) (slot : ℕ) → IsSlot names name slot → IsSlot more name slot
  pub distinct : AreDistinct names → AreDistinct more

-- what a name's look-up finds: its slot, or that it isn't there
abbrev pub IsFound : List (List ℕ) → List ℕ → Option ℕ → Type 0
IsFound names name None = list_any (bytes_eq name) names ≡ false
IsFound names name (Some slot) = IsSlot names name slot

-- names, none of them twice, with a map of their slots
pub record IsNamed (names : List (List ℕ)) (slots : BTreeMap (String Global) ℕ) : Type 0 where
  pub distinct : AreDistinct names
  pub found : (name : List ℕ) → IsFound names name (get_by_text slots name)
