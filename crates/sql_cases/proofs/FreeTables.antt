-- A table without foreign keys, alone in its database: no reference refuses a change of it, and none needs a row.
use Rattle.std.proofs.Common.{◌≡◌, ℕ, List, [], ◌∷◌, ◌++◌, map, refl, ap, ◌∙◌, Bool}
use Rattle.std.specs.Prelude.{Option, Some, None, option_map, option_to_list}
use Rattle.std.specs.List.{filter_map, flat_map}
use Rattle.sql_cases.proofs.Types.{Value, SqlRefusal, P, Catalog, Foreign, Statement, Table, TableRow}
use Rattle.sql_model.specs.Changes.{table_after, new_rows, or_else}
use Rattle.sql_model.specs.Needs.{needed_by, parent_rows, child_row, child_rows}
use Rattle.sql_model.specs.References.{reference, missing_parents, is_lost, orphan_by, orphans_of, other_rows, child_of, orphans, parents_of, first_in, tables_after, is_changed}
use Rattle.sql_model.specs.Statements.{parent_refusal, child_refusal, reference_refusal}

-- a refusal, and then none
pub else_none : (o : Option SqlRefusal) → or_else o None ≡ o
else_none None = refl
else_none (Some refusal) = refl

no_missing : (tables : List Table) (rows : List TableRow) → missing_parents tables [] rows ≡ []
no_missing tables [] = refl
no_missing tables (row ∷ rows) = no_missing tables rows

no_parents : (before after : List Table) (rows : List TableRow) → parents_of before after [] rows ≡ []
no_parents before after [] = refl
no_parents before after (row ∷ rows) = no_parents before after rows

module _ (t : Table) (free : t.schema.foreign ≡ []) where
  no_orphans_of : (target : List ℕ) (lost : List Value → Bool) (rows : List TableRow)
      → flat_map (orphans_of target lost) (map (child_of t) rows ++ []) ≡ []
  no_orphans_of target lost [] = refl
  no_orphans_of target lost (row ∷ rows) = λ j.
      filter_map (λ (f : Foreign). orphan_by target lost (child_of t row) f (reference f row.values)) (free j)
      ++ no_orphans_of target lost rows j

  no_orphans : (has : TableRow → Bool) (after : Table) → orphans has t after (t ∷ []) ≡ []
  no_orphans has after =
      no_orphans_of t.name (is_lost t.schema.key t.rows after.rows) (other_rows has t.name t)

  module _ (s : Statement) (catalog : Catalog) where
    abbrev db : List Table
    db = t ∷ []

    missing : missing_parents (tables_after s catalog db) t.schema.foreign (new_rows s catalog t) ≡ []
    missing =
        ap (λ (fs : List Foreign). missing_parents (tables_after s catalog db) fs (new_rows s catalog t)) free
        ∙ no_missing (tables_after s catalog db) (new_rows s catalog t)

    orphaned : orphans (is_changed s catalog) t (table_after s catalog t) db ≡ []
    orphaned = no_orphans (is_changed s catalog) (table_after s catalog t)

    pub no_reference : reference_refusal s catalog (Some t) db ≡ None
    no_reference = λ j.
        or_else (option_map parent_refusal (first_in (missing j))) (option_map child_refusal (first_in (orphaned j)))

    pub no_parent_rows : parent_rows s catalog (Some t) db ≡ []
    no_parent_rows =
        ap (λ (fs : List Foreign). map (needed_by P) (parents_of db (tables_after s catalog db) fs (new_rows s catalog t))) free
        ∙ ap (map (needed_by P)) (no_parents db (tables_after s catalog db) (new_rows s catalog t))

    pub no_child_rows : child_rows s catalog (Some t) db ≡ []
    no_child_rows = λ j. option_to_list (option_map child_row (first_in (orphaned j)))
