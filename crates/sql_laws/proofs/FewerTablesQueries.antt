-- A query has the same refusal, reply and needs over a database without tables that it doesn't ask.
use Rattle.std.proofs.Common.{◌≡◌, List, [], ◌∷◌, ◌++◌, refl, ◌∙◌}
use Rattle.std.specs.Prelude.{Option, Some, None, map, filter, if◌then◌else◌}
use Rattle.std.specs.List.{flat_map}
use Rattle.sql_laws.specs.Types.{L, H, Rows, SqlRefusal, Syntax, NoTable, NoColumn, TypeClash, NotNull, KeyTaken, Full, NoParent, HasChild, Core, FromItem, Query, TheQuery, Table}
use Rattle.sql_model.specs.QueryAnswer.{AnswerRow, answer_values, lineage_of, combinations, meets_all, row_environment, picked, rows_in_scope, once, core_rows, rejected_in_scope, rejected, union_answers, rows_after, union_rows, sort_key, sort_rows, sorted_rows, limit_of, first_rows, other_rows}
use Rattle.sql_model.specs.Changes.{or_else}
use Rattle.sql_model.specs.Needs.{needed_by, sums_up}
use Rattle.sql_model.specs.Refusals.{tables_of_core}
use Rattle.sql_model.specs.Scope.{rows_of}
use Rattle.sql_laws.specs.StatementLaw.{KeepTables}
use Rattle.sql_model.specs.Statements.{refusal_of}
use Rattle.sql_laws.proofs.FewerTables.{fewer, Agrees, agree_split, from_tables, scope_same, titles_same, check_same}
use Rattle.sql_laws.proofs.StatementParts.{Same, Settled, same_by}

module _ (tables : KeepTables) (db : List Table) where
  abbrev small : List Table
  small = fewer tables db

  combinations_same : (from : List FromItem) → Agrees tables db (from_tables tables from)
      → combinations from small ≡ combinations from db
  combinations_same [] k = refl
  combinations_same (item ∷ from) k = λ j. flat_map (λ row. map (λ others. row ∷ others) (combinations_same from k.1 j)) (rows_of (k.0 j))

  picked_same : (core : Core) → Agrees tables db (tables_of_core core)
      → picked core small ≡ picked core db
  picked_same core k = λ j. filter (λ rows. meets_all core.picks (row_environment (scope_same tables core.from db k j) rows)) (combinations_same core.from k j)

  core_same : (core : Core) → Agrees tables db (tables_of_core core)
      → core_rows small core ≡ core_rows db core
  core_same core k = λ j. once core.distinct (rows_in_scope (scope_same tables core.from db k j) core (picked_same core k j))

  rejected_same : (core : Core) → Agrees tables db (tables_of_core core)
      → rejected small core ≡ rejected db core
  rejected_same core k = λ j. rejected_in_scope (scope_same tables core.from db k j) core (picked_same core k j)

  abbrev Named : List Core → Type 0
  Named cores = Agrees tables db (flat_map tables_of_core cores)

  all_rejected : (cores : List Core) → Named cores
      → flat_map (rejected small) cores ≡ flat_map (rejected db) cores
  all_rejected [] k = refl
  all_rejected (core ∷ cores) k =
      let both = agree_split tables db (tables_of_core core) (flat_map tables_of_core cores) k in
      λ j. rejected_same core both.0 j ++ all_rejected cores both.1 j

  after_same : (rows : List AnswerRow) (cores : List Core) → Named cores
      → rows_after small rows cores ≡ rows_after db rows cores
  after_same rows [] k = refl
  after_same rows (core ∷ cores) k =
      let both = agree_split tables db (tables_of_core core) (flat_map tables_of_core cores) k in
      (λ j. rows_after small (union_answers core.joined_all rows (core_same core both.0 j)) cores)
      ∙ after_same (union_answers core.joined_all rows (core_rows db core)) cores both.1

  union_same : (cores : List Core) → Named cores → union_rows small cores ≡ union_rows db cores
  union_same [] k = refl
  union_same (core ∷ cores) k =
      let both = agree_split tables db (tables_of_core core) (flat_map tables_of_core cores) k in
      (λ j. rows_after small (core_same core both.0 j) cores) ∙ after_same (core_rows db core) cores both.1

  module _ (query : Query) (k : Named query.cores) where
    sorted_same : sorted_rows query small ≡ sorted_rows query db
    sorted_same = λ j. sort_rows (map (sort_key (titles_same tables query.cores db k j)) query.order) (union_same query.cores k j)

    settled : (refusal : Option SqlRefusal) → Settled (TheQuery query) small db refusal
    settled None = record {
      reply = λ j. Rows (map answer_values (first_rows (limit_of query.limit) (sorted_same j)));
      needs = λ j. map (needed_by L) (lineage_of (first_rows (limit_of query.limit) (sorted_same j))) ++ (map (needed_by H) (all_rejected query.cores k j) ++ (if sums_up query.cores then map (needed_by H) (lineage_of (other_rows (limit_of query.limit) (sorted_same j))) else []));
    }
    settled (Some Syntax) = record { reply = refl; needs = refl }
    settled (Some NoTable) = record { reply = refl; needs = refl }
    settled (Some NoColumn) = record { reply = refl; needs = refl }
    settled (Some TypeClash) = record { reply = refl; needs = refl }
    settled (Some NotNull) = record { reply = refl; needs = refl }
    settled (Some (KeyTaken name key)) = record { reply = refl; needs = refl }
    settled (Some Full) = record { reply = refl; needs = refl }
    settled (Some (NoParent name key)) = record { reply = refl; needs = refl }
    settled (Some (HasChild name key)) = record { reply = refl; needs = refl }

    pub query_fewer : Same (Some (TheQuery query)) small db
    query_fewer = same_by (TheQuery query) small db
        (λ j. or_else (or_else (check_same tables (TheQuery query) db k j) None) None)
        (settled (refusal_of (Some (TheQuery query)) db))
