-- Worlds between a slice and its world, by their contents.
use Rattle.std.specs.Prelude.{◌↔◌, List, IsTrue}
use Rattle.replay_db.specs.Types.{Event, World}
use Rattle.run_model.specs.Between.{LiesBetween, CutOf}
use Rattle.replay_db.specs.Worlds.{world_rules}

-- of worlds that meet the rules: what is in them says the same as what was cut
abbrev pub MembershipLaw : Type 0
MembershipLaw = (events : List Event) (v w : World) → IsTrue (world_rules v) → IsTrue (world_rules w)
    → LiesBetween events v w ↔ CutOf events v w
