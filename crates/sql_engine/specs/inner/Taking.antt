-- The tables that a statement asks, marked one after another.
use Rattle.std.specs.Prelude.{◌≡◌, ◌≤◌, ℕ, zero, suc, List, [], ◌∷◌, map, filter, take, drop, length, Bool}
use Rattle.std.specs.Prelude.{true, false, if◌then◌else◌, slice_get, slice_set}
use Rattle.std.specs.List.{list_any, position}
use Rattle.std.specs.Option.{option_map_or}
use Rattle.sql_engine.specs.inner.Listing.{is_in, is_text, names_table}
use Rattle.sql_engine.specs.Types.{Catalog, Need, Schema, Statement}
use Rattle.sql_engine.specs.declared.marks.Mark.{Mark}
use Rattle.sql_engine.specs.declared.marks.Mark.TheVariants.{Left, Taken, Done}
use Rattle.sql_engine.specs.declared.marks.TableMarks.{TableMarks}
use Rattle.sql_model.specs.ForeignKeys.{with_parents}
use Rattle.sql_model.specs.Scope.{same_text}
use Rattle.sql_model.specs.declared.table.Foreign.{Foreign}

-- ---- marks

abbrev pub is_taken : Mark → Bool
is_taken Left = false
is_taken Taken = true
is_taken Done = true

-- its parents aren't taken yet
abbrev pub is_waiting : Mark → Bool
is_waiting Left = false
is_waiting Taken = true
is_waiting Done = false

abbrev pub is_done : Mark → Bool
is_done Left = false
is_done Taken = false
is_done Done = true

abbrev pub taken_mark : Mark → Mark
taken_mark Left = Taken
taken_mark Taken = Taken
taken_mark Done = Done

-- at the start the tables are taken that a statement names
abbrev pub first_mark : Statement → List ℕ → Mark
first_mark statement name = if names_table statement name then Taken else Left

pub record IsFresh (statement : Statement) (names : List (List ℕ)) (taking : TableMarks) : Type 0 where
  pub names_are : taking.names ≡ names
  pub marks_are : taking.marks.items ≡ map (first_mark statement) names

-- ---- tables that are taken

abbrev pub raised_at : List Mark → ℕ → List Mark
raised_at [] place = []
raised_at (mark ∷ marks) zero = taken_mark mark ∷ marks
raised_at (mark ∷ marks) (suc place) = mark ∷ raised_at marks place

abbrev pub with_name : List (List ℕ) → List ℕ → List Mark → List Mark
with_name names name marks = option_map_or (raised_at marks) (position (is_text name) names) marks

abbrev pub with_unless : List (List ℕ) → List ℕ → List ℕ → List Mark → List Mark
with_unless names before name marks = if is_text name before then marks else with_name names name marks

-- those of rows that are needed after one of a table
abbrev pub with_more : List (List ℕ) → List ℕ → List Need → List Mark → List Mark
with_more names before [] marks = marks
with_more names before (need ∷ reads) marks =
    with_more names need.member.table reads (with_unless names before need.member.table marks)

-- those of rows that are needed
abbrev pub with_reads : List (List ℕ) → List Need → List Mark → List Mark
with_reads names [] marks = marks
with_reads names (need ∷ reads) marks =
    with_more names need.member.table reads (with_name names need.member.table marks)

-- the parents of foreign keys
abbrev pub with_parents_of : List (List ℕ) → List Foreign → List Mark → List Mark
with_parents_of names [] marks = marks
with_parents_of names (foreign ∷ foreigns) marks =
    with_parents_of names foreigns (with_name names foreign.parent marks)

abbrev pub foreigns_at : Catalog → ℕ → List Foreign
foreigns_at catalog place = option_map_or (λ schema. schema.foreign) (slice_get catalog.schemas place) []

-- the parents of the table at a place
abbrev pub marks_with_parents : Catalog → ℕ → List Mark → List Mark
marks_with_parents catalog place marks =
    with_parents_of catalog.names (foreigns_at catalog place) (slice_set marks place Done)

-- ---- what marks say

-- no two names are the same
abbrev pub AreDistinct : List (List ℕ) → Type 0
AreDistinct [] = Unit {0}
AreDistinct (name ∷ names) = (list_any (same_text name) names ≡ false) × AreDistinct names

-- each table that is taken passes a test
abbrev pub AllSound : (List ℕ → Bool) → List (List ℕ) → List Mark → Type 0
AllSound test [] marks = Unit {0}
AllSound test (name ∷ names) [] = Unit {0}
AllSound test (name ∷ names) (mark ∷ marks) =
    (is_taken mark ≡ true → test name ≡ true) × AllSound test names marks

-- each table that passes a test is taken
abbrev pub AreTaken : (List ℕ → Bool) → List (List ℕ) → List Mark → Type 0
AreTaken test [] marks = Unit {0}
AreTaken test (name ∷ names) [] = Unit {0}
AreTaken test (name ∷ names) (mark ∷ marks) =
    (test name ≡ true → is_taken mark ≡ true) × AreTaken test names marks

-- the first table of a name is taken
abbrev pub name_taken : List (List ℕ) → List Mark → List ℕ → Bool
name_taken [] marks name = false
name_taken (other ∷ names) [] name = false
name_taken (other ∷ names) (mark ∷ marks) name =
    if same_text name other then is_taken mark else name_taken names marks name

-- a table's schema refers to a table of a name
abbrev pub refers_to : Schema → List ℕ → Bool
refers_to schema name = list_any (same_text name) (map (λ foreign. foreign.parent) schema.foreign)

-- of each table that is done the parents have a property
abbrev pub AreClosed : (List ℕ → Type 0) → List Schema → List Mark → Type 0
AreClosed P [] marks = Unit {0}
AreClosed P (schema ∷ schemas) [] = Unit {0}
AreClosed P (schema ∷ schemas) (mark ∷ marks) =
    (is_done mark ≡ true → (name : List ℕ) → refers_to schema name ≡ true → P name)
    × AreClosed P schemas marks

-- a table that is there is taken
abbrev pub IsTaken : List (List ℕ) → List Mark → List ℕ → Type 0
IsTaken names marks name = is_in names name ≡ true → name_taken names marks name ≡ true

-- the tables that are taken are some of those that names ask for, the first ones among them, and with each
-- that is done its parents
pub record AreMarks (first : List (List ℕ)) (catalog : Catalog) (marks : List Mark) : Type 0 where
  pub long : length marks ≡ length catalog.names
  pub sound : AllSound (is_in (with_parents first catalog)) catalog.names marks
  pub named : AreTaken (is_in first) catalog.names marks
  pub closed : AreClosed (IsTaken catalog.names marks) catalog.schemas marks

-- ---- names in place

-- `now` began as `all`. What passes a test in the first places of `all` stands in the first places of `now`,
-- which is as it was from the place on.
pub record InPlace (test : List ℕ → Bool) (all now : List (List ℕ)) (kept place : ℕ) : Type 0 where
  pub front : take kept now ≡ filter test (take place all)
  pub rest : drop place now ≡ drop place all
  pub behind : kept ≤ place
  pub within : place ≤ length all
  pub long : length now ≡ length all
