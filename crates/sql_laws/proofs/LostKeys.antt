-- A statement loses the same keys over a table without rows that it doesn't match. Keys are unique before it,
-- so only the left-out row itself had its key, and that key isn't lost over the whole table.
use Rattle.std.proofs.Common.{◌≡◌, List, refl, sym, ap, ◌∙◌, Bool, true, false}
use Rattle.std.specs.Prelude.{map, filter, length, not, ◌&&◌, ◌||◌, ◌==◌, if◌then◌else◌}
use Rattle.std.specs.List.{list_any, list_all}
use Rattle.ldv_value.proofs.Booleans.{or-false}
use Rattle.ldv_value.proofs.Lists.{list_any-append, filter-filter}
use Rattle.sql_model.proofs.ReferenceLists.{any_fewer, any_split, any_replaced, lost_same}
use Rattle.sql_model.proofs.UniqueRows.{apart_from}
use Rattle.sql_model.specs.Changes.{is_matched, rows_of_insert, updated_row, matched, table_after}
use Rattle.sql_model.specs.References.{has_key, is_lost}
use Rattle.sql_model.specs.Scope.{own_scope}
use Rattle.sql_model.specs.Tables.{are_keys_unique}
use Rattle.sql_model.proofs.UniqueKeys.{values_in}
use Rattle.sql_laws.specs.Types.{Value, Catalog, Statement, TheQuery, TheInsert, TheUpdate, TheDelete, Table, TableRow}
use Rattle.sql_laws.specs.QueryLaw.{Keep, stays, cut_table}
use Rattle.sql_laws.proofs.LeftRows.{KeepsNew}
use Rattle.sql_laws.proofs.QuerySorting.{filter_all}

-- ---- a statement's table

both_false : (b : Bool) → (b && not b) ≡ false
both_false true = refl
both_false false = refl

append_lost : (old new : Bool) → (old && not (old || new)) ≡ false
append_lost true new = refl
append_lost false new = refl

module _ (keep : Keep) (t : Table) (catalog : Catalog) (new : KeepsNew keep t) (keyed : (length t.schema.key == 0) ≡ false)
    (unique : are_keys_unique t.schema.key (values_in t.rows) ≡ true) where
  abbrev small : Table
  small = cut_table keep t

  abbrev lost_of : Statement → Table → List Value → Bool
  lost_of s table key = is_lost table.schema.key table.rows (table_after s catalog table).rows key

  module _ (q : TableRow → Bool) (matched_stay : list_all (stays keep t) (filter q t.rows) ≡ true) (key : List Value) where
    abbrev p : TableRow → Bool
    p = has_key t.schema.key key

    abbrev out : Bool
    out = list_any p (filter (λ row. not (q row)) t.rows)

    abbrev few : Bool
    few = list_any p (filter (λ row. not (q row)) small.rows)

    -- no row is lost among those that are matched
    matched_are : filter q small.rows ≡ filter q t.rows
    matched_are = filter-filter q (stays keep t) t.rows ∙ filter_all (stays keep t) (filter q t.rows) matched_stay

    others_are : filter (λ row. not (q row)) small.rows ≡ filter (stays keep t) (filter (λ row. not (q row)) t.rows)
    others_are = filter-filter (λ row. not (q row)) (stays keep t) t.rows

    less : few ≡ true → out ≡ true
    less is = any_fewer p (stays keep t) (filter (λ row. not (q row)) t.rows) (sym (ap (list_any p) others_are) ∙ is)

    apart : out ≡ true → list_any p (filter q t.rows) ≡ false
    apart is = apart_from t.schema.key t.rows keyed unique q key is

    updated_lost : (make : TableRow → TableRow)
        → (list_any p small.rows && not (list_any p (map (λ row. if q row then make row else row) small.rows)))
        ≡ (list_any p t.rows && not (list_any p (map (λ row. if q row then make row else row) t.rows)))
    updated_lost make =
        (λ j. any_split p q small.rows j && not (any_replaced p q make small.rows j))
        ∙ (λ j. (few || list_any p (matched_are j)) && not (few || list_any p (map make (matched_are j))))
        ∙ lost_same few out (list_any p (filter q t.rows)) (list_any p (map make (filter q t.rows))) less apart
        ∙ sym (λ j. any_split p q t.rows j && not (any_replaced p q make t.rows j))

    deleted_lost : (list_any p small.rows && not (list_any p (filter (λ row. not (q row)) small.rows)))
        ≡ (list_any p t.rows && not (list_any p (filter (λ row. not (q row)) t.rows)))
    deleted_lost =
        (λ j. any_split p q small.rows j && not (sym (or-false few) j))
        ∙ (λ j. (few || list_any p (matched_are j)) && not (few || false))
        ∙ lost_same few out (list_any p (filter q t.rows)) false less apart
        ∙ sym (λ j. any_split p q t.rows j && not (sym (or-false out) j))

  abbrev MatchedStay : Statement → Type 0
  MatchedStay s = list_all (stays keep t) (matched s catalog t) ≡ true

  pub lost_cut : (s : Statement) → MatchedStay s → (key : List Value) → lost_of s small key ≡ lost_of s t key
  lost_cut (TheQuery query) stay key = both_false (list_any (has_key t.schema.key key) small.rows) ∙ sym (both_false (list_any (has_key t.schema.key key) t.rows))
  lost_cut (TheInsert insert) stay key =
      let p : TableRow → Bool = has_key t.schema.key key in
      (λ j. list_any p small.rows && not (list_any-append p small.rows (rows_of_insert insert small) j))
      ∙ append_lost (list_any p small.rows) (list_any p (rows_of_insert insert small))
      ∙ sym (append_lost (list_any p t.rows) (list_any p (rows_of_insert insert t)))
      ∙ sym (λ j. list_any p t.rows && not (list_any-append p t.rows (rows_of_insert insert t) j))
  lost_cut (TheUpdate update) stay key =
      updated_lost (is_matched (own_scope update.table catalog) update.pick) stay key (updated_row (own_scope update.table catalog) update t.schema.columns)
  lost_cut (TheDelete delete) stay key =
      deleted_lost (is_matched (own_scope delete.table catalog) delete.pick) stay key
