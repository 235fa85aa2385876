-- Foreign keys and their parents, by the schemas of the tables alone.
use Rattle.std.specs.Prelude.{ℕ, zero, suc, List, [], ◌++◌, map, filter, length, zip, ◌==◌, Bool}
use Rattle.std.specs.Prelude.{false, not, ◌&&◌, if◌then◌else◌, Option, Some, None, slice_get}
use Rattle.std.specs.List.{flat_map, list_any, list_all}
use Rattle.sql_model.specs.Scope.{same_text, schema_at}
use Rattle.sql_model.specs.Types.{Catalog, Column, Foreign, Schema}

-- foreign keys of a table
abbrev pub max_foreign : ℕ
max_foreign = 16

-- both are there, and both are INT or both are TEXT
abbrev pub same_kind : Option Column → Option Column → Bool
same_kind None other = false
same_kind (Some column) None = false
same_kind (Some column) (Some other) = if column.text then other.text else not other.text

-- a column that refers, and the column of the parent's key to which it does
abbrev pub fits_place : List Column → List Column → ℕ × ℕ → Bool
fits_place columns parents places = same_kind (slice_get columns places.0) (slice_get parents places.1)

-- the parent has a key, of as many columns, which fit place by place
abbrev pub fits_parent : List Column → Foreign → Option Schema → Bool
fits_parent columns foreign None = false
fits_parent columns foreign (Some parent) =
    not (length parent.key == 0) && (length foreign.columns == length parent.key)
    && list_all (fits_place columns parent.columns) (zip foreign.columns parent.key)

abbrev pub has_parents : Catalog → Schema → Bool
has_parents catalog schema =
    list_all (λ foreign. fits_parent schema.columns foreign (schema_at foreign.parent catalog)) schema.foreign

-- each foreign key has a parent with a fitting key
abbrev pub have_parents : Catalog → Bool
have_parents catalog = list_all (has_parents catalog) catalog.schemas

-- ---- tables with their parents

-- a table's name and its schema
abbrev pub NamedSchema : Type 0
NamedSchema = List ℕ × Schema

abbrev pub name_of : NamedSchema → List ℕ
name_of named = named.0

abbrev pub is_among : List (List ℕ) → NamedSchema → Bool
is_among names named = list_any (same_text named.0) names

abbrev pub parent_names : List NamedSchema → List (List ℕ)
parent_names tables = flat_map (λ named. map (λ foreign. foreign.parent) named.1.foreign) tables

-- From the tables that are left those of some names are taken, then those of their parents, again and again.
-- As many turns are enough as there are tables.
abbrev pub close : ℕ → List (List ℕ) → List NamedSchema → List (List ℕ)
close zero names rest = []
close (suc n) names rest =
    map name_of (filter (is_among names) rest)
    ++ close n (parent_names (filter (is_among names) rest))
    (filter (λ named. not (is_among names named)) rest)

-- the tables of some names that are there, with all their parents
abbrev pub with_parents : List (List ℕ) → Catalog → List (List ℕ)
with_parents names catalog = close (suc (length catalog.names)) names (zip catalog.names catalog.schemas)
