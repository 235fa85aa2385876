-- Tables of a store at the start.
use Rattle.std.proofs.Common.{◌≡◌, ℕ, zero, suc, ◌<◌, ◌≤◌, true, ◌&&◌, List, [], ◌∷◌, map, length, get_or, refl, ap, sym, subst, ◌∙◌, arith}
use Rattle.std.specs.List.{list_all}
use Rattle.ldv_value.proofs.Booleans.{and-parts}
use Rattle.ldv_value.specs.Sorted.{is_strictly_sorted, precedes_first, text_precedes}
use Rattle.sql_model.proofs.Databases.{sorted_of_database, valid_of_database}
use Rattle.sql_model.specs.Scope.{catalog_of}
use Rattle.sql_model.specs.Tables.{AreWellFormed, have_distinct_columns, is_database, is_valid_table, table_precedes}
use Rattle.table_store.specs.Types.{Catalog, Table}
use Rattle.table_store.specs.Histories.{TableHistory, table_now, last_since}
use Rattle.table_store.specs.TableView.{history_at_start}
use Rattle.table_store.specs.StoreView.{AreStored, are_sorted, no_table}
use Rattle.table_store.proofs.TableLaws.{begun_all}

first_begun : (table : Table) (tables : List Table) → precedes_first (λ (a b : TableHistory). text_precedes a.name b.name) (history_at_start table) (map history_at_start tables) ≡ precedes_first table_precedes table tables
first_begun table [] = refl
first_begun table (other ∷ tables) = refl

sorted_begun : (tables : List Table) → are_sorted (map history_at_start tables) ≡ is_strictly_sorted table_precedes tables
sorted_begun [] = refl
sorted_begun (table ∷ tables) = λ j. (first_begun table tables j && sorted_begun tables j)

timed_begun : (tables : List Table) (k : ℕ) → k < length (map history_at_start tables) → last_since (get_or (map history_at_start tables) k no_table).nexts ≤ 0
timed_begun [] k below = absurd (omega (arith, below))
timed_begun (table ∷ tables) zero below = omega arith
timed_begun (table ∷ tables) (suc k) below = timed_begun tables k (omega (arith, below))

pub valid_tables : (tables : List Table) → is_database tables ≡ true → list_all is_valid_table tables ≡ true
valid_tables tables is = valid_of_database tables is

pub stored_begun : (catalog : Catalog) (tables : List Table) (held : List TableHistory) → is_database tables ≡ true → have_distinct_columns tables ≡ true → catalog ≡ catalog_of tables → held ≡ map history_at_start tables → AreStored catalog held 0
stored_begun catalog tables held is distinct listed made =
    subst (λ (l : List TableHistory). AreStored catalog l 0) (sym made) (record {
      catalog_is = listed ∙ ap catalog_of (sym (begun_all tables));
      sorted = sorted_begun tables ∙ sorted_of_database tables is;
      formed = subst AreWellFormed (sym (begun_all tables)) (record { database = is; distinct = distinct });
      timed = timed_begun tables;
    })

pub started_now : (tables : List Table) (held : List TableHistory) → held ≡ map history_at_start tables → map table_now held ≡ tables
started_now tables held made = ap (map table_now) made ∙ begun_all tables

pub ruleset start_rules = (valid_tables, stored_begun, started_now)
