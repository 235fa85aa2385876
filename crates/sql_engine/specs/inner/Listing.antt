-- The lists that are recorded of a statement: the tables that it asks, and the rows that it needs.
use Rattle.std.specs.Prelude.{ℕ, List, ◌++◌, map, filter, Bool}
use Rattle.std.specs.List.{list_any}
use Rattle.lineage.specs.Needing.{need_by, union_of_needs}
use Rattle.lineage.specs.Lineage.{Lineage, members_of}
use Rattle.sql_engine.specs.Types.{Catalog, L, H, Need, Statement}
use Rattle.sql_model.specs.ForeignKeys.{with_parents}
use Rattle.sql_model.specs.Refusals.{tables_of}
use Rattle.sql_model.specs.Scope.{same_text}

-- ---- tables

abbrev pub is_text : List ℕ → List ℕ → Bool
is_text name other = same_text name other

-- whether a statement names a table
abbrev pub names_table : Statement → List ℕ → Bool
names_table statement name = list_any (is_text name) (tables_of statement)

-- the tables that a statement names, and those of the rows that it needs
abbrev pub names_first : Statement → List Need → List (List ℕ)
names_first statement reads = tables_of statement ++ map (λ need. need.member.table) reads

abbrev pub is_in : List (List ℕ) → List ℕ → Bool
is_in names name = list_any (same_text name) names

-- the tables that a statement asks which needs these rows, sorted as the tables are
abbrev pub tables_asked : Statement → List Need → Catalog → List (List ℕ)
tables_asked statement reads catalog =
    filter (is_in (with_parents (names_first statement reads) catalog)) catalog.names

-- ---- needed rows

-- the rows of two sets: those of the first by rule L, those that are in the second alone by rule H
abbrev pub needs_of : List (List ℕ) → Lineage → Lineage → List Need
needs_of names lineage hidden =
    union_of_needs (map (need_by L) (members_of names lineage)) (map (need_by H) (members_of names hidden))
