-- Unions of lineages.
use Rattle.std.specs.Prelude.{List, [], ◌∷◌}
use Rattle.std.specs.FinMap.{empty}
use Rattle.lineage.specs.Lineage.{Lineage, union_of}
use Rattle.lineage.specs.declared.answer.Pick.{Pick}

-- the union of the lineages of picks
abbrev pub lineage_of_picks : List Pick → Lineage
lineage_of_picks [] = empty
lineage_of_picks (pick ∷ picks) = union_of pick.lineage (lineage_of_picks picks)

-- those of the picks of some groups
abbrev pub lineage_of_groups : List (List Pick) → Lineage
lineage_of_groups [] = empty
lineage_of_groups (group ∷ groups) = union_of (lineage_of_picks group) (lineage_of_groups groups)
