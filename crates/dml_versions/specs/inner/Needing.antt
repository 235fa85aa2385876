-- The rows that a change needs and the versions that it makes, computed from the rows that it matches.
use Rattle.std.specs.Prelude.{◌≡◌, ℕ, ◌+◌, ◌==◌, map, nat_lt, List, [], ◌∷◌, true, Option, Some, None}
use Rattle.std.specs.Prelude.{if◌then◌else◌}
use Rattle.std.specs.Option.{option_map}
use Rattle.lineage.specs.Needing.{need_by, needs_in_order, union_of_needs}
use Rattle.sql_model.specs.Needs.{Versions, needed_by, needed_row, read_of}
use Rattle.sql_model.specs.Scope.{table_at}
use Rattle.table_store.specs.Histories.{tables_now}
use Rattle.table_store.specs.Referring.{parents_in_db}
use Rattle.table_store.specs.Stops.{has_number}
use Rattle.dml_versions.specs.inner.Finding.{version_of}
use Rattle.dml_versions.specs.Types.{Member, Need, L, K, P, C, RowHistory, StoreHistory, Table, TableRow}
use Rattle.dml_versions.specs.Versions.{versions_now}
use Rattle.dml_versions.specs.declared.found.Found.{Found}

-- ---- matched rows

abbrev pub member_at : List ℕ → ℕ → ℕ → Member
member_at name number version = record { table = name; row = number; version = version }

abbrev pub need_found : List ℕ → Found → Need
need_found name found = record { member = member_at name found.number found.version; rule = L }

abbrev pub updated_member : List ℕ → Found → Member
updated_member name found = member_at name found.number (found.version + 1)

abbrev pub number_found : Found → ℕ
number_found found = found.number

-- ---- new rows

abbrev pub inserted_member : List ℕ → TableRow → Member
inserted_member name row = member_at name row.number 0

-- ---- the rows of a refused key

abbrev pub key_need : List ℕ → List RowHistory → ℕ → Need
key_need name slots number = record { member = member_at name number (version_of slots number); rule = K }

-- in its place by the number, unless that row is there
abbrev pub put_need : Need → List Need → List Need
put_need n [] = n ∷ []
put_need n (m ∷ ms) =
    if n.member.row == m.member.row then m ∷ ms
    else if nat_lt n.member.row m.member.row then n ∷ m ∷ ms
    else m ∷ put_need n ms

abbrev pub put_some : Option Need → List Need → List Need
put_some None needs = needs
put_some (Some need) needs = put_need need needs

-- the two rows of a refused key, as far as they stood before
abbrev pub with_key_rows : List ℕ → List RowHistory → Option ℕ → Option ℕ → List Need → List Need
with_key_rows name slots earlier later needs =
    put_some (option_map (key_need name slots) earlier)
    (put_some (option_map (key_need name slots) later) needs)

-- ---- the parents of new rows, and a child row

-- needs, and the parent rows, in any order, that are needed beside them
abbrev pub with_parent_rows : List Member → List Need → List Need
with_parent_rows parents needs = union_of_needs needs (needs_in_order (map (need_by P) parents))

-- the needs of the parents of rows of a table, once these are put
abbrev pub parent_needs : StoreHistory → List TableRow → Table → List Need
parent_needs store rows own =
    map (read_of (versions_now store)) (map (needed_by P) (parents_in_db rows (tables_now store) own))

-- a table has a row of a number
pub record IsRowThere (db : List Table) (name : List ℕ) (number : ℕ) : Type 0 where
  pub table : Table
  pub found : table_at name db ≡ Some table
  pub has : has_number table number ≡ true

abbrev pub child_need : Versions → List ℕ → ℕ → Need
child_need versions table row = read_of versions (needed_row C table row)

-- needs, and the child row that is needed beside them
abbrev pub with_child_row : Versions → List ℕ → ℕ → List Need → List Need
with_child_row versions table row needs = union_of_needs needs (child_need versions table row ∷ [])
