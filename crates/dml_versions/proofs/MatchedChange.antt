-- The result of an accepted statement that matches rows.
use Rattle.std.proofs.Common.{◌≡◌, ◌∙◌, ap, sym, ℕ, List, map, length, Option, Some, None}
use Rattle.std.specs.List.{AllByRecursion}
use Rattle.ldv_value.proofs.Lists.{length-map}
use Rattle.sql_model.specs.Changes.{matched}
use Rattle.sql_model.specs.Needs.{next_member, members_made, made_unless, sorted_needs, needs_by, read_of}
use Rattle.sql_model.specs.Scope.{catalog_of, table_at}
use Rattle.sql_model.specs.Statements.{refusal_of, accepted_reply, matched_count}
use Rattle.table_store.specs.Histories.{tables_now, table_now, history_at, last_next_number}
use Rattle.table_store.specs.RowOrder.{AreInOrder}
use Rattle.dml_versions.proofs.AfterLaws.{change-by}
use Rattle.dml_versions.proofs.MatchLaws.{made-is}
use Rattle.dml_versions.proofs.NumberLaws.{AreSorted}
use Rattle.dml_versions.proofs.StandingLaws.{IsStanding}
use Rattle.dml_versions.proofs.TableLaws.{table-now, history-name}
use Rattle.dml_versions.specs.Changing.{IsWhole, matched_change}
use Rattle.dml_versions.specs.inner.Finding.{found_row}
use Rattle.dml_versions.specs.inner.Needing.{updated_member}
use Rattle.dml_versions.specs.Types.{Need, Statement, Changed, Table, TableRow, StoreHistory, TableHistory}
use Rattle.dml_versions.specs.Versions.{versions_now}
use Rattle.dml_versions.specs.declared.found.Found.{Found}

module _ (store : StoreHistory) (s : Statement) (name : List ℕ) (table : TableHistory) (there : history_at name store ≡ Some table) (order : AreInOrder table.slots (last_next_number table.nexts)) where
  abbrev db : List Table
  db = tables_now store

  abbrev t : Table
  t = table_now table

  -- what the definitions say of it, by the rows that it matches in the table of its name
  module _ (replies : accepted_reply s db ≡ Changed (matched_count s (catalog_of db) (table_at name db)))
      (makes : made_unless None (versions_now store) (Some s) db ≡ members_made (versions_now store) s (catalog_of db) (table_at name db))
      (members : members_made (versions_now store) s (catalog_of db) (Some t) ≡ map (next_member (versions_now store) t) (matched s (catalog_of db) t))
      (rows : List TableRow) (rows_is : matched s (catalog_of db) t ≡ rows) (sorted : AreSorted rows) (stand : AllByRecursion (λ row. IsStanding table.slots row.number) rows)
      (refused_not : refusal_of (Some s) db ≡ None) (found : List Found) (found_is : found ≡ map (found_row table.slots) rows)
      (needs : List Need) (needs_are : needs ≡ map (read_of (versions_now store)) (sorted_needs (needs_by None s db))) where
    target_is : table_at name db ≡ Some t
    target_is = table-now name store table there

    named : t.name ≡ name
    named = history-name name store table there

    reply_is : accepted_reply s db ≡ Changed (length found)
    reply_is =
        replies
        ∙ ap (λ (o : Option Table). Changed (matched_count s (catalog_of db) o)) target_is
        ∙ ap (λ (l : List TableRow). Changed (length l)) rows_is
        ∙ ap Changed (sym (length-map rows (found_row table.slots)) ∙ sym (ap length found_is))

    made_is : made_unless None (versions_now store) (Some s) db ≡ map (next_member (versions_now store) t) rows
    made_is =
        makes
        ∙ ap (members_made (versions_now store) s (catalog_of db)) target_is
        ∙ members
        ∙ ap (map (next_member (versions_now store) t)) rows_is

    pub matched-change : IsWhole s store (matched_change name found needs)
    matched-change =
        change-by s store None refused_not (matched_change name found needs)
        (sym reply_is)
        (ap (map (updated_member name)) found_is ∙ made-is store name table there order t named rows stand ∙ sym made_is)
        needs_are
