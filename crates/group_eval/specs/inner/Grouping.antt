-- Picked combinations by their values at some places.
use Rattle.std.specs.Prelude.{◌≡◌, ℕ, suc, List, [], ◌∷◌, ◌++◌, map, filter, length, ◌==◌, Bool}
use Rattle.std.specs.Prelude.{if◌then◌else◌, Option, Some, None}
use Rattle.std.specs.BTreeMap as tree
use Rattle.std.specs.BTreeMap.{BTreeMap}
use Rattle.std.specs.Option.{option_map}
use Rattle.lineage.specs.declared.answer.Pick.{Pick}
use Rattle.ldv_value.specs.Order.{values_order}
use Rattle.group_eval.specs.Types.{Value}
use Rattle.group_eval.specs.declared.groups.KeyedGroup.{KeyedGroup}
use Rattle.sql_model.specs.Keys.{same_values, values_at}
use Rattle.sql_model.specs.QueryAnswer.{distinct_values}

-- the values of a pick at some places
abbrev pub key_of : List ℕ → Pick → List Value
key_of places pick = values_at places pick.values

abbrev pub is_under : List ℕ → List Value → Pick → Bool
is_under places key pick = same_values (key_of places pick) key

abbrev pub picks_under : List ℕ → List Pick → List Value → List Pick
picks_under places picks key = filter (is_under places key) picks

-- those of the same values, in order of first appearance
abbrev pub keyed_groups : List ℕ → List Pick → List (List Pick)
keyed_groups places picks = map (picks_under places picks) (distinct_values (map (key_of places) picks))

-- without a place there is one group, also of no pick
abbrev pub pick_groups : List ℕ → List Pick → List (List Pick)
pick_groups places picks = if length places == 0 then picks ∷ [] else keyed_groups places picks

-- ---- steps

abbrev pub own_picks : KeyedGroup → List Pick
own_picks group = group.picks

abbrev pub group_of : List Value → List Pick → KeyedGroup
group_of key picks = record { key = key; picks = picks }

-- the number of the group of some values
abbrev pub number_of : List Value → List KeyedGroup → Option ℕ
number_of key [] = None
number_of key (group ∷ groups) =
    if same_values group.key key then Some 0 else option_map suc (number_of key groups)

-- a group with a pick more
abbrev pub with_pick : KeyedGroup → Pick → KeyedGroup
with_pick group pick = group_of group.key (group.picks ++ pick ∷ [])

-- groups of different values, and one pick more
abbrev pub groups_with_pick : List ℕ → List KeyedGroup → Pick → List KeyedGroup
groups_with_pick places [] pick = group_of (key_of places pick) (pick ∷ []) ∷ []
groups_with_pick places (group ∷ groups) pick = if same_values group.key (key_of places pick)
    then with_pick group pick ∷ groups else group ∷ groups_with_pick places groups pick

abbrev pub grouped_onto : List ℕ → List KeyedGroup → List Pick → List KeyedGroup
grouped_onto places made [] = made
grouped_onto places made (pick ∷ picks) = grouped_onto places (groups_with_pick places made pick) picks

-- a map has the number of each group, by its values
abbrev pub IsIndex : BTreeMap (List Value) ℕ → List KeyedGroup → Type 0
IsIndex numbers groups = (key : List Value) → tree.get values_order numbers key ≡ number_of key groups
