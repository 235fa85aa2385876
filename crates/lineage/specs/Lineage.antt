-- Lineage: the rows of tables that an answer row comes from, each at one version.
use Rattle.std.specs.Prelude.{◌≡◌, ℕ, ◌<◌, List, [], ◌++◌, map, length, Bool, if◌then◌else◌, Option, is_some}
use Rattle.std.specs.Prelude.{IsTrue, unwrap_or, slice_get}
use Rattle.std.specs.Option.{option_or}
use Rattle.std.specs.Coded.{Coded, coded×, coded_ℕ}
use Rattle.std.specs.declared.cmp.Ordering.{Ordering}
use Rattle.std.specs.Ordering.{nat_cmp, ordering_then}
use Rattle.std.specs.FinMap as finmap
use Rattle.sql_model.specs.declared.need.Member.{Member}

-- a row: the place of its table among the names of all tables, and its number
abbrev pub Row : Type 0
Row = ℕ × ℕ

-- by table, then by number
abbrev pub row_cmp : Row → Row → Ordering
row_cmp a b = ordering_then (nat_cmp a.0 b.0) (nat_cmp a.1 b.1)

-- a finite set of rows, each at one version
abbrev pub Lineage : Type 0
Lineage = finmap.FinMap row_cmp ℕ

abbrev pub lineage_code : Coded Lineage
lineage_code = finmap.code (coded× coded_ℕ coded_ℕ) coded_ℕ

-- the version of a row, where the row is in the set
abbrev pub version_at : Lineage → Row → Option ℕ
version_at set row = finmap.get set row

abbrev pub has_row : Lineage → Row → Bool
has_row set row = is_some (version_at set row)

-- the set with a row at a version. A row that is in it stays as it is
abbrev pub with_version : Lineage → Row → ℕ → Lineage
with_version set row version = if has_row set row then set else finmap.insert set row version

-- each row of the two sets and no other: at each, the version of the one or else of the other
abbrev pub IsUnion : Lineage → Lineage → Lineage → Type 0
IsUnion one other both =
    (row : Row) → version_at both row ≡ option_or (version_at one row) (version_at other row)

-- the union of two sets; a row that is in both has the version of the first
abbrev pub union_of : Lineage → Lineage → Lineage
union_of one other = finmap.from_entries (finmap.entries one ++ finmap.entries other)

-- the table of each row of a set has a name
abbrev pub IsNamed : List (List ℕ) → Lineage → Type 0
IsNamed names set = (row : Row) → IsTrue (has_row set row) → row.0 < length names

-- ---- members, with the names of their tables

-- the name at a place
abbrev pub name_at : List (List ℕ) → ℕ → List ℕ
name_at names place = unwrap_or (slice_get names place) []

abbrev pub member : List (List ℕ) → Row × ℕ → Member
member names entry = record { table = name_at names entry.0.0; row = entry.0.1; version = entry.1 }

-- in the order of their rows
abbrev pub members_of : List (List ℕ) → Lineage → List Member
members_of names set = map (member names) (finmap.entries set)
