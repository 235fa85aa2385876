-- When a set of rows at versions stands for a lineage, which is a list of rows of tables by their names.
use Rattle.std.specs.Prelude.{◌≡◌, ℕ, List, length, ◌&&◌, nat_lt, if◌then◌else◌, Option, Some, None}
use Rattle.lineage.specs.Lineage.{Row, Lineage, version_at, name_at}
use Rattle.sql_model.specs.QueryAnswer.{Origin}
use Rattle.sql_model.specs.Needs.{Versions}
use Rattle.sql_model.specs.Origins.{has_origin}

-- a row, with the name of its table
abbrev pub origin_at : List (List ℕ) → Row → Origin
origin_at names row = record { table = name_at names row.0; row = row.1 }

-- the version that a row has where it is in the lineage
abbrev pub version_in : List (List ℕ) → Versions → List Origin → Row → Option ℕ
version_in names versions origins row =
    if nat_lt row.0 (length names) && has_origin (origin_at names row) origins
    then Some (versions (name_at names row.0) row.1)
    else None

-- the set has each row of the lineage at its version, and no other
abbrev pub StandsFor : List (List ℕ) → Versions → Lineage → List Origin → Type 0
StandsFor names versions set origins =
    (row : Row) → version_at set row ≡ version_in names versions origins row
