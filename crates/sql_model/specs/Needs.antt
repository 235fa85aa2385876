-- The needs of a statement: the rows that its reply rests on, and the tables that it asks. The versions of
-- rows that it makes.
--
-- If several rules need a row, the first of them is its rule.
use Rattle.std.specs.Prelude.{ℕ, ◌+◌, List, [], ◌∷◌, ◌++◌, map, filter, Bool, false, not, ◌&&◌, ◌||◌, ◌==◌}
use Rattle.std.specs.Prelude.{if◌then◌else◌, Option, Some, None, option_map, option_to_list}
use Rattle.std.specs.List.{flat_map, list_any, list_all}
use Rattle.std.specs.Ordering.{nat_cmp, is_lt}
use Rattle.std.specs.Cmp.Lexicographic.{slice_cmp}
use Rattle.sql_model.specs.Types.{Catalog, Member, Need, Rule, L, H, K, P, C, SqlRefusal, Syntax, NoTable}
use Rattle.sql_model.specs.Types.{NoColumn, TypeClash, NotNull, KeyTaken, Full, NoParent, HasChild, Core}
use Rattle.sql_model.specs.Types.{Query, Statement, TheQuery, TheInsert, TheUpdate, TheDelete, Table}
use Rattle.sql_model.specs.Types.{TableRow}
use Rattle.sql_model.specs.QueryAnswer.{Origin, lineage_of, rejected, answer, cut}
use Rattle.sql_model.specs.Changes.{KeyClash, key_clash, table_after, matched, rows_of_insert}
pub use Rattle.sql_model.specs.Changes.{had_row}
use Rattle.sql_model.specs.ForeignKeys.{with_parents}
use Rattle.sql_model.specs.References.{Orphan, first_orphan, parents_needed}
use Rattle.sql_model.specs.Refusals.{tables_of, groups}
use Rattle.sql_model.specs.Scope.{same_text, catalog_of}
use Rattle.sql_model.specs.Statements.{target, refusal_of}

-- a row of a table by its number, and the rule by which it is needed
pub record NeededRow : Type 0 where
  pub table : List ℕ
  pub row : ℕ
  pub rule : Rule

abbrev pub needed_row : Rule → List ℕ → ℕ → NeededRow
needed_row rule table row = record { table = table; row = row; rule = rule }

abbrev pub needed_by : Rule → Origin → NeededRow
needed_by rule origin = needed_row rule origin.table origin.row

-- ---- sorted lists of needed rows

abbrev pub is_same_row : NeededRow → NeededRow → Bool
is_same_row a b = same_text a.table b.table && a.row == b.row

-- by table, then by number
abbrev pub is_earlier_row : NeededRow → NeededRow → Bool
is_earlier_row a b =
    if same_text a.table b.table
    then is_lt (nat_cmp a.row b.row)
    else is_lt (slice_cmp nat_cmp a.table b.table)

-- in its place, and in place of the same row
abbrev pub put_row : NeededRow → List NeededRow → List NeededRow
put_row n [] = n ∷ []
put_row n (m ∷ ms) =
    if is_same_row n m then n ∷ ms
    else if is_earlier_row n m then n ∷ m ∷ ms
    else m ∷ put_row n ms

-- sorted, each row once, with the first rule that it has
abbrev pub sorted_needs : List NeededRow → List NeededRow
sorted_needs [] = []
sorted_needs (n ∷ ns) = put_row n (sorted_needs ns)

-- ---- rule L: the row is in the lineage of an answer row, or is matched

abbrev pub lineage_rows : Query → List Table → List NeededRow
lineage_rows query db = map (needed_by L) (lineage_of (answer query db))

abbrev pub matched_row : Table → TableRow → NeededRow
matched_row table row = needed_row L table.name row.number

abbrev pub matched_rows : Statement → Catalog → Option Table → List NeededRow
matched_rows statement catalog None = []
matched_rows statement catalog (Some table) = map (matched_row table) (matched statement catalog table)

-- ---- rule H: the row is in the lineage of a group that HAVING rejected; or of a row that LIMIT cut,
-- where a row of the answer may stand for several

abbrev pub has_merging : List Core → Bool
has_merging [] = false
has_merging (core ∷ cores) = not (list_all (λ other. other.joined_all) cores)

-- a core groups, a core has DISTINCT, or UNION without ALL occurs
abbrev pub sums_up : List Core → Bool
sums_up cores = list_any (λ core. groups core || core.distinct) cores || has_merging cores

abbrev pub cut_rows : Query → List Table → List NeededRow
cut_rows query db = if sums_up query.cores then map (needed_by H) (lineage_of (cut query db)) else []

abbrev pub hidden_rows : Query → List Table → List NeededRow
hidden_rows query db = map (needed_by H) (flat_map (rejected db) query.cores) ++ cut_rows query db

-- ---- rule K: the row is one of the two of a refused key, where it stood before

abbrev pub clash_rows : Option KeyClash → List TableRow
clash_rows None = []
clash_rows (Some clash) = clash.earlier ∷ clash.later ∷ []

abbrev pub key_row : Table → TableRow → NeededRow
key_row table row = needed_row K table.name row.number

abbrev pub key_rows : Statement → Catalog → Option Table → List NeededRow
key_rows statement catalog None = []
key_rows statement catalog (Some table) =
    map (key_row table)
    (filter (had_row table) (clash_rows (key_clash (table_after statement catalog table))))

-- ---- rule P: the row stood before, and has after the statement a key to which an inserted or matched row
-- refers there

abbrev pub parent_rows : Statement → Catalog → Option Table → List Table → List NeededRow
parent_rows statement catalog None db = []
parent_rows statement catalog (Some table) db =
    map (needed_by P) (parents_needed statement catalog table db)

-- ---- rule C: the row is the first that would lose its parent

abbrev pub child_row : Orphan → NeededRow
child_row orphan = needed_row C orphan.table orphan.row

abbrev pub child_rows : Statement → Catalog → Option Table → List Table → List NeededRow
child_rows statement catalog None db = []
child_rows statement catalog (Some table) db =
    option_to_list (option_map child_row (first_orphan statement catalog table db))

-- ---- needs

abbrev pub accepted_needs : Statement → List Table → List NeededRow
accepted_needs (TheQuery query) db = lineage_rows query db ++ hidden_rows query db
accepted_needs (TheInsert insert) db =
    parent_rows (TheInsert insert) (catalog_of db) (target (TheInsert insert) db) db
accepted_needs (TheUpdate update) db =
    matched_rows (TheUpdate update) (catalog_of db) (target (TheUpdate update) db)
    ++ parent_rows (TheUpdate update) (catalog_of db) (target (TheUpdate update) db) db
accepted_needs (TheDelete delete) db =
    matched_rows (TheDelete delete) (catalog_of db) (target (TheDelete delete) db)

-- what the text, the schemas or the row limit refuse needs no row
abbrev pub needs_by : Option SqlRefusal → Statement → List Table → List NeededRow
needs_by None statement db = accepted_needs statement db
needs_by (Some Syntax) statement db = []
needs_by (Some NoTable) statement db = []
needs_by (Some NoColumn) statement db = []
needs_by (Some TypeClash) statement db = []
needs_by (Some NotNull) statement db = matched_rows statement (catalog_of db) (target statement db)
needs_by (Some (KeyTaken table key)) statement db =
    matched_rows statement (catalog_of db) (target statement db)
    ++ key_rows statement (catalog_of db) (target statement db)
needs_by (Some Full) statement db = []
needs_by (Some (NoParent table key)) statement db =
    matched_rows statement (catalog_of db) (target statement db)
    ++ parent_rows statement (catalog_of db) (target statement db) db
needs_by (Some (HasChild table key)) statement db =
    matched_rows statement (catalog_of db) (target statement db)
    ++ (parent_rows statement (catalog_of db) (target statement db) db
    ++ child_rows statement (catalog_of db) (target statement db) db)

abbrev pub needs_of_reading : Option Statement → List Table → List NeededRow
needs_of_reading None db = []
needs_of_reading (Some statement) db = sorted_needs (needs_by (refusal_of (Some statement) db) statement db)

-- the rows that a reading needs, sorted, each once
unfoldable pub need_of : Option Statement → List Table → List NeededRow
need_of statement db = needs_of_reading statement db

-- ---- tables

abbrev pub table_name : Table → List ℕ
table_name table = table.name

-- those that a statement names and those of the rows that it needs
abbrev pub first_names : Statement → List Table → List (List ℕ)
first_names statement db = tables_of statement ++ map (λ need. need.table) (need_of (Some statement) db)

-- and all their parents
abbrev pub asked_names : Statement → List Table → List (List ℕ)
asked_names statement db = with_parents (first_names statement db) (catalog_of db)

abbrev pub is_asked : List (List ℕ) → Table → Bool
is_asked names table = list_any (same_text table.name) names

-- the names of the tables that are there and that a statement with a reading asks, sorted as the tables are
abbrev pub asked_tables : Option Statement → List Table → List (List ℕ)
asked_tables None db = []
asked_tables (Some statement) db = map table_name (filter (is_asked (asked_names statement db)) db)

-- ---- versions

-- the version of a row of a table, by the table's name and the row's number
abbrev pub Versions : Type 0
Versions = List ℕ → ℕ → ℕ

abbrev pub new_member : Table → TableRow → Member
new_member table row = record { table = table.name; row = row.number; version = 0 }

abbrev pub next_member : Versions → Table → TableRow → Member
next_member versions table row =
    record { table = table.name; row = row.number; version = versions table.name row.number + 1 }

-- INSERT makes version 0, and UPDATE and DELETE one more than the row's version
abbrev pub members_made : Versions → Statement → Catalog → Option Table → List Member
members_made versions statement catalog None = []
members_made versions (TheQuery query) catalog (Some table) = []
members_made versions (TheInsert insert) catalog (Some table) = map
    (new_member table) (rows_of_insert insert table)
members_made versions (TheUpdate update) catalog (Some table) =
    map (next_member versions table) (matched (TheUpdate update) catalog table)
members_made versions (TheDelete delete) catalog (Some table) =
    map (next_member versions table) (matched (TheDelete delete) catalog table)

abbrev pub made_unless : Option SqlRefusal → Versions → Option Statement → List Table → List Member
made_unless (Some refusal) versions statement db = []
made_unless None versions None db = []
made_unless None versions (Some statement) db =
    members_made versions statement (catalog_of db) (target statement db)

-- the versions that a statement makes, from those that the rows have; a refused one makes none
unfoldable pub made_by : Versions → Option Statement → List Table → List Member
made_by versions statement db = made_unless (refusal_of statement db) versions statement db

abbrev pub updated_origin : Table → TableRow → Origin
updated_origin table row = record { table = table.name; row = row.number }

abbrev pub updated_in : Statement → Catalog → Option Table → List Origin
updated_in statement catalog None = []
updated_in (TheQuery query) catalog (Some table) = []
updated_in (TheInsert insert) catalog (Some table) = []
updated_in (TheUpdate update) catalog (Some table) =
    map (updated_origin table) (matched (TheUpdate update) catalog table)
updated_in (TheDelete delete) catalog (Some table) = []

abbrev pub updated_unless : Option SqlRefusal → Option Statement → List Table → List Origin
updated_unless (Some refusal) statement db = []
updated_unless None None db = []
updated_unless None (Some statement) db = updated_in statement (catalog_of db) (target statement db)

-- the rows that an accepted UPDATE matches
unfoldable pub updated_rows : Option Statement → List Table → List Origin
updated_rows statement db = updated_unless (refusal_of statement db) statement db

abbrev pub is_row_of : List ℕ → ℕ → Origin → Bool
is_row_of table row origin = same_text origin.table table && origin.row == row

-- one more for each row that was updated
abbrev pub versions_after : List Origin → Versions → Versions
versions_after updated versions = λ table row.
    if list_any (is_row_of table row) updated then versions table row + 1 else versions table row

-- a row that is needed, at its version
abbrev pub read_of : Versions → NeededRow → Need
read_of versions n = record {
  member = record { table = n.table; row = n.row; version = versions n.table n.row };
  rule = n.rule;
}
