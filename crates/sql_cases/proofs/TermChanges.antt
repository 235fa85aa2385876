-- The changes of an INSERT, an UPDATE and a DELETE over terms, by a fold over terms. A function has the name
-- of the definition that it follows.
use Rattle.std.specs.Prelude.{ℕ, ◌+◌, List, [], ◌∷◌, ◌++◌, map, filter, find, zip, length, ◌==◌, Bool, false, not, ◌&&◌, ◌||◌, if◌then◌else◌, Option, Some, None, option_map, option_to_list, unwrap_or}
use Rattle.std.specs.List.{flat_map, list_all}
use Rattle.sql_cases.proofs.Types.{Value, Catalog, ColumnName, Expr-F, SqlRefusal, NoTable, NoColumn, TypeClash, Statement, Column, Table, TableRow}
use Rattle.sql_model.specs.Changes as changes
use Rattle.sql_model.specs.Changes.{numbered_rows, with_rows}
use Rattle.sql_model.specs.Keys.{repeats}
use Rattle.sql_model.specs.Refusals.{check_refusal, lacks_table, has_unresolved_name, target_columns, takes, takes_set}
use Rattle.sql_model.specs.Scope.{InScope, same_text, schema_at, columns_of, is_column, has_column, own_scope, environment}
use Rattle.sql_model.specs.Meaning.{Environment, or_null}
use Rattle.sql_cases.proofs.Terms.{Term}
use Rattle.sql_cases.proofs.TermQueries as queries
use Rattle.sql_cases.proofs.TermStatements.{TermInsert, TermUpdate, TermDelete, TermSet, TermStatement, TheInsert, TheUpdate, TheDelete, update_of, statement_of}

-- what of a change rests on its expressions: what the schemas refuse, the rows that it matches, the rows
-- that it inserts or matches as they are after it, and the table after
pub record Parts : Type 0 where
  pub check : Option SqlRefusal
  pub matched : List TableRow
  pub made : List TableRow
  pub changed : Table

abbrev pub parts_of : Statement → Catalog → Table → Parts
parts_of s catalog table = record {
  check = check_refusal s catalog;
  matched = changes.matched s catalog table;
  made = changes.new_rows s catalog table;
  changed = changes.table_after s catalog table;
}

-- the row that an UPDATE makes of a row
abbrev pub made_of : TermUpdate → Catalog → Table → TableRow → TableRow
made_of update catalog table row =
    changes.updated_row (own_scope update.table catalog) (update_of update) table.schema.columns row

module _ (fold : (A : Type 0) → (Expr-F A → A) → Term → A) where
  abbrev is_matched : List InScope → Option Term → TableRow → Bool
  is_matched scope pick row = queries.meets_all fold (option_to_list pick) (environment scope row.values)

  -- by whether a column is missing and a kind clashes
  abbrev check : TermStatement → Catalog → Bool → Bool → Option SqlRefusal
  check s catalog lacks clashes =
      if lacks_table (statement_of s) catalog then Some NoTable
      else (if lacks then Some NoColumn else (if clashes then Some TypeClash else None))

  abbrev pick_fits : List InScope → Option Term → Bool
  pick_fits scope pick = list_all (queries.is_pick fold scope false) (option_to_list pick)

  abbrev matched_in : List InScope → Option Term → Table → List TableRow
  matched_in scope pick table = filter (is_matched scope pick) table.rows

  abbrev names_of_pick : Option Term → List ColumnName
  names_of_pick pick = queries.names_of fold (option_to_list pick)

  -- ---- INSERT

  abbrev plain_value : Term → Value
  plain_value term = (queries.eval fold term (environment [] [] ∷ [])).value

  abbrev value_given : List (List ℕ × Term) → Column → Value
  value_given given column =
      or_null (option_map (λ g. plain_value g.1) (find (λ g. same_text g.0 column.name) given))

  abbrev new_values : Option (List (List ℕ)) → List Column → List Term → List Value
  new_values None columns terms = map plain_value terms
  new_values (Some names) columns terms = map (value_given (zip names terms)) columns

  abbrev inserted : TermInsert → Table → List TableRow
  inserted insert table =
      numbered_rows table.next (map (new_values insert.columns table.schema.columns) insert.rows)

  abbrev row_fits : List Column → List Term → Bool
  row_fits columns terms =
      length terms == length columns
      && list_all (λ pair. takes pair.0 (queries.kind fold [] pair.1 false)) (zip columns terms)

  abbrev insert_lacks : TermInsert → List Column → Bool
  insert_lacks insert columns =
      not (list_all (has_column columns) (unwrap_or insert.columns []))
      || has_unresolved_name [] (flat_map (queries.names_of fold) insert.rows)

  abbrev insert_clashes : TermInsert → List Column → Bool
  insert_clashes insert columns =
      repeats same_text (unwrap_or insert.columns [])
      || not (list_all (row_fits (target_columns insert.columns columns)) insert.rows)

  abbrev insert_check : TermInsert → Catalog → List Column → Option SqlRefusal
  insert_check insert catalog columns =
      check (TheInsert insert) catalog (insert_lacks insert columns) (insert_clashes insert columns)

  abbrev after_insert : TermInsert → Table → Table
  after_insert insert table =
      with_rows table (table.rows ++ inserted insert table) (table.next + length insert.rows)

  abbrev pub insert_parts : TermInsert → Catalog → Table → Parts
  insert_parts insert catalog table = record {
    check = insert_check insert catalog (columns_of (schema_at insert.table catalog));
    matched = [];
    made = inserted insert table;
    changed = after_insert insert table;
  }

  -- ---- UPDATE

  abbrev value_set : Option TermSet → Environment → Value → Value
  value_set None env old = old
  value_set (Some set) env old = (queries.eval fold set.term (env ∷ [])).value

  abbrev updated_value : List TermSet → Environment → Column × Value → Value
  updated_value sets env old = value_set (find (λ set. same_text set.column old.0.name) sets) env old.1

  abbrev updated_row : List InScope → TermUpdate → List Column → TableRow → TableRow
  updated_row scope update columns row = record {
    number = row.number;
    values = map (updated_value update.sets (environment scope row.values)) (zip columns row.values);
  }

  abbrev row_after : List InScope → TermUpdate → List Column → TableRow → TableRow
  row_after scope update columns row =
      if is_matched scope update.pick row then updated_row scope update columns row else row

  abbrev after_update : List InScope → TermUpdate → Table → Table
  after_update scope update table =
      with_rows table (map (row_after scope update table.schema.columns) table.rows) table.next

  abbrev set_fits : List Column → List InScope → TermSet → Bool
  set_fits columns scope set =
      takes_set (find (is_column set.column) columns) (queries.kind fold scope set.term false)

  abbrev update_lacks : TermUpdate → List Column → List InScope → Bool
  update_lacks update columns scope =
      not (list_all (λ set. has_column columns set.column) update.sets)
      || has_unresolved_name scope (flat_map (λ set. queries.names_in fold set.term) update.sets
      ++ names_of_pick update.pick)

  abbrev update_clashes : TermUpdate → List Column → List InScope → Bool
  update_clashes update columns scope =
      repeats same_text (map (λ set. set.column) update.sets)
      || not (list_all (set_fits columns scope) update.sets && pick_fits scope update.pick)

  abbrev update_check : TermUpdate → Catalog → List Column → List InScope → Option SqlRefusal
  update_check update catalog columns scope =
      check (TheUpdate update) catalog (update_lacks update columns scope)
      (update_clashes update columns scope)

  -- the new values by a function of their own, since the rows have to be known first
  abbrev update_in : List InScope → (TableRow → TableRow) → TermUpdate → Catalog → Table → Parts
  update_in scope made update catalog table = record {
    check = update_check update catalog (columns_of (schema_at update.table catalog)) scope;
    matched = matched_in scope update.pick table;
    made = map made (matched_in scope update.pick table);
    changed = after_update scope update table;
  }

  abbrev pub updated : TermUpdate → Catalog → Table → TableRow → TableRow
  updated update catalog table row =
      updated_row (own_scope update.table catalog) update table.schema.columns row

  abbrev pub update_parts : (TableRow → TableRow) → TermUpdate → Catalog → Table → Parts
  update_parts made update catalog table =
      update_in (own_scope update.table catalog) made update catalog table

  -- ---- DELETE

  abbrev delete_check : TermDelete → Catalog → List InScope → Option SqlRefusal
  delete_check delete catalog scope =
      check (TheDelete delete) catalog (has_unresolved_name scope (names_of_pick delete.pick))
      (not (pick_fits scope delete.pick))

  abbrev after_delete : List InScope → TermDelete → Table → Table
  after_delete scope delete table =
      with_rows table (filter (λ row. not (is_matched scope delete.pick row)) table.rows) table.next

  abbrev delete_in : List InScope → TermDelete → Catalog → Table → Parts
  delete_in scope delete catalog table = record {
    check = delete_check delete catalog scope;
    matched = matched_in scope delete.pick table;
    made = [];
    changed = after_delete scope delete table;
  }

  abbrev pub delete_parts : TermDelete → Catalog → Table → Parts
  delete_parts delete catalog table = delete_in (own_scope delete.table catalog) delete catalog table
