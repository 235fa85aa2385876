-- Rows of a statement, grouped by their table: neighbouring rows of one table make a group.
use Rattle.std.specs.Prelude.{ℕ, List, [], ◌∷◌, ◌++◌, length, map, Bool, true, not, ◌&&◌, ◌==◌, if◌then◌else◌}
use Rattle.std.specs.Prelude.{Option, Some, None, bytes_eq}
use Rattle.std.specs.List.{flat_map, AllByRecursion}
use Rattle.std.specs.Str.{IsUtf8}
use Rattle.std.specs.Int.{w16, w32}
use Rattle.sql_model.specs.SqlNames.{sql_name_test}
use Rattle.package_codec.specs.declared.trace.group.Group.{Group}
use Rattle.package_codec.specs.Fields.{DecodeResult, both_at, made_at, list_at, text_at, text_spelling}
use Rattle.package_codec.specs.Fields.{list_spelling}

abbrev pub group_spelling : {P : Type 0} → (P → List ℕ) → Group P → List ℕ
group_spelling part_spelling g = text_spelling g.table ++ list_spelling w32 part_spelling g.parts

abbrev pub TypedGroup : {P : Type 0} → (P → Type 0) → Group P → Type 0
TypedGroup TypedPart g = IsUtf8 g.table × AllByRecursion TypedPart g.parts

-- ---- from rows to groups, row by row

abbrev pub group_of_one : {X P : Type 0} → (X → List ℕ) → (X → P) → X → Group P
group_of_one table_of part_of x = record { table = table_of x; parts = part_of x ∷ [] }

abbrev pub with_part : {P : Type 0} → Group P → P → Group P
with_part g part = record { table = g.table; parts = g.parts ++ part ∷ [] }

-- a group and the row after it
abbrev pub after : {X P : Type 0} → (X → List ℕ) → (X → P) → Group P → X → List (Group P)
after table_of part_of g x =
    if bytes_eq g.table (table_of x) then with_part g (part_of x) ∷ []
    else g ∷ group_of_one table_of part_of x ∷ []

abbrev pub add : {X P : Type 0} → (X → List ℕ) → (X → P) → List (Group P) → X → List (Group P)
add table_of part_of [] x = group_of_one table_of part_of x ∷ []
add table_of part_of (g ∷ []) x = after table_of part_of g x
add table_of part_of (g ∷ h ∷ gs) x = g ∷ add table_of part_of (h ∷ gs) x

abbrev pub add_all : {X P : Type 0} → (X → List ℕ) → (X → P) → List (Group P) → List X → List (Group P)
add_all table_of part_of gs [] = gs
add_all table_of part_of gs (x ∷ xs) = add_all table_of part_of (add table_of part_of gs x) xs

abbrev pub groups : {X P : Type 0} → (X → List ℕ) → (X → P) → List X → List (Group P)
groups table_of part_of xs = add_all table_of part_of [] xs

-- ---- from groups to rows

-- a group has a name and isn't empty
abbrev pub is_group : {P : Type 0} → List ℕ → List P → Bool
is_group table parts = sql_name_test table && not (length parts == 0)

abbrev pub group_of : {P : Type 0} → List ℕ × List P → Option (Group P)
group_of p = if is_group p.0 p.1 then Some (record { table = p.0; parts = p.1 }) else None

abbrev pub group_at : {P : Type 0} → (List ℕ → DecodeResult P) → List ℕ → DecodeResult (Group P)
group_at part_at = made_at group_of (both_at text_at (list_at w32 part_at))

-- no two neighbours are of one table, and the first isn't of the table before it
abbrev pub neighbours_differ : {P : Type 0} → List ℕ → List (Group P) → Bool
neighbours_differ before [] = true
neighbours_differ before (g ∷ gs) = not (bytes_eq g.table before) && neighbours_differ g.table gs

abbrev pub ungroup : {X P : Type 0} → (List ℕ → P → X) → Group P → List X
ungroup place g = map (place g.table) g.parts

abbrev pub items_of_groups : {X P : Type 0} → (List ℕ → P → X) → List (Group P) → Option (List X)
items_of_groups place gs = if neighbours_differ [] gs then Some (flat_map (ungroup place) gs) else None

abbrev pub grouped_at : {X P : Type 0} → (List ℕ → P → X)
    → (List ℕ → DecodeResult P) → List ℕ → DecodeResult (List X)
grouped_at place part_at = made_at (items_of_groups place) (list_at w16 (group_at part_at))
