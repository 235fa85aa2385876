-- A query has the same refusal, reply and needs over tables without rows that it doesn't need.
use Rattle.std.proofs.Common.{◌≡◌, ℕ, List, [], ◌∷◌, ◌++◌, refl, sym, ap, ◌∙◌, subst, Bool, true, false, inl, inr}
use Rattle.std.specs.Prelude.{Option, Some, None, map, filter, ◌||◌, if◌then◌else◌}
use Rattle.std.specs.List.{flat_map, list_all, list_any}
use Rattle.ldv_value.proofs.Cases.{cases-bool}
use Rattle.sql_laws.specs.Types.{L, H, Rows, SqlRefusal, Core, Query, TheQuery, Table}
use Rattle.sql_model.specs.QueryAnswer.{Origin, AnswerRow, answer_values, lineage_of, rejected, union_rows, SortKey, sort_key, order_by, sort_rows, sorted_rows, limit_of, first_rows, other_rows, answer, cut}
use Rattle.sql_model.specs.Needs.{NeededRow, needed_by, sorted_needs, lineage_rows, has_merging, sums_up, cut_rows, hidden_rows, accepted_needs, needs_by, need_of}
use Rattle.sql_laws.specs.QueryLaw.{Keep, cut_tables, KeepsNeeded, SameQuery, QueryLaw}
use Rattle.sql_model.specs.Refusals.{groups, answer_columns}
use Rattle.sql_model.specs.Scope.{catalog_of}
use Rattle.sql_model.specs.Statements.{refusal_of, reply_or}
use Rattle.sql_model.proofs.Equations.{reply_is, need_is, refused_needs}
use Rattle.sql_laws.proofs.QueryCombinations.{catalog_same, refusal_same}
use Rattle.sql_laws.proofs.QueryKeeps.{all_kept, kept_row, lineage_kept, needed_kept, needed_split, rising_kept}
use Rattle.sql_laws.proofs.QueryRows.{rejects_none, union_whole, union_part}
use Rattle.sql_laws.proofs.QuerySorting.{rows_total, first_part, limit_all}
use Rattle.sql_model.proofs.StableSorting.{sorted_all, sorted_part}
use Rattle.ldv_value.proofs.Booleans.{or-parts, not-false}

-- a core that sums up no rows groups none
groups_none : (cores : List Core) → list_any (λ core. groups core || core.distinct) cores ≡ false
    → list_any groups cores ≡ false
groups_none [] each = refl
groups_none (core ∷ cores) each =
    let parts = or-parts (groups core || core.distinct) (list_any (λ other. groups other || other.distinct) cores) each in
    let here : groups core ≡ false = (or-parts (groups core) core.distinct parts.0).0 in
    (λ j. here j || groups_none cores parts.1 j)

module _ (query : Query) (db : List Table) (keep : Keep) where
  abbrev small : List Table
  small = cut_tables keep db

  abbrev limit : Option ℕ
  limit = limit_of query.limit

  abbrev keys : List Table → List SortKey
  keys tables = map (sort_key (answer_columns (catalog_of tables) query.cores)) query.order

  keys_same : keys small ≡ keys db
  keys_same = λ j. map (sort_key (answer_columns (catalog_same keep db j) query.cores)) query.order

  -- all rows of a list stay
  abbrev Stay : List AnswerRow → Type 0
  Stay rows = list_all (kept_row keep) rows ≡ true

  -- ---- where a row may stand for several, all of them stay

  abbrev all_rejected : List Table → List Origin
  all_rejected tables = flat_map (rejected tables) query.cores

  abbrev SameSorted : Type 0
  SameSorted = (sorted_rows query small ≡ sorted_rows query db) × (all_rejected small ≡ all_rejected db)

  sorted_whole : Stay (answer query db) → Stay (cut query db) → all_kept keep (all_rejected db) ≡ true → SameSorted
  sorted_whole answered left gone =
      let sorted : Stay (sorted_rows query db) = limit_all (kept_row keep) limit (sorted_rows query db) answered left in
      let united : Stay (union_rows db query.cores) = sorted_all (λ (a b : AnswerRow). order_by (keys db) a.values b.values) (kept_row keep) (union_rows db query.cores) sorted in
      let same = union_whole keep db query.cores gone united in
      ((λ j. sort_rows (keys_same j) (same.0 j)), same.1)

  -- ---- where none does, the first rows stay

  union_some : (cores : List Core) → sums_up cores ≡ false
      → union_rows small cores ≡ filter (kept_row keep) (union_rows db cores)
  union_some [] each = refl
  union_some (core ∷ cores) each =
      let parts = or-parts (list_any (λ other. groups other || other.distinct) (core ∷ cores)) (has_merging (core ∷ cores)) each in
      union_part keep db core cores parts.0 (not-false (list_all (λ other. other.joined_all) cores) parts.1)

  answer_part : sums_up query.cores ≡ false → Stay (answer query db) → answer query small ≡ answer query db
  answer_part each answered =
      (λ j. first_rows limit (sort_rows (keys_same j) (union_some query.cores each j)))
      ∙ ap (first_rows limit) (sorted_part (λ (a b : AnswerRow). order_by (keys db) a.values b.values) (rows_total (keys db)) (kept_row keep) (union_rows db query.cores))
      ∙ first_part (kept_row keep) limit (sorted_rows query db) answered

  -- ---- an accepted query

  pub record SameAccepted : Type 0 where
    answered : answer query small ≡ answer query db
    gone : all_rejected small ≡ all_rejected db
    left : cut_rows query small ≡ cut_rows query db

  abbrev cut_if : Bool → List Table → List NeededRow
  cut_if b tables = if b then map (needed_by H) (lineage_of (cut query tables)) else []

  lineage_stays : (rows : List AnswerRow) → KeepsNeeded keep (map (needed_by H) (lineage_of rows)) → Stay rows
  lineage_stays rows k = sym (lineage_kept keep rows) ∙ needed_kept keep H (lineage_of rows) k

  accepted_whole : sums_up query.cores ≡ true → Stay (answer query db) → KeepsNeeded keep (cut_rows query db)
      → all_kept keep (all_rejected db) ≡ true → SameAccepted
  accepted_whole sums answered k gone =
      let is : cut_rows query db ≡ map (needed_by H) (lineage_of (cut query db)) = ap (λ (b : Bool). cut_if b db) sums in
      let left : Stay (cut query db) = lineage_stays (cut query db) (subst (KeepsNeeded keep) is k) in
      let same : SameSorted = sorted_whole answered left gone in
      record {
        answered = λ j. first_rows limit (same.0 j);
        gone = same.1;
        left = λ j. if sums_up query.cores then map (needed_by H) (lineage_of (other_rows limit (same.0 j))) else [];
      }

  accepted_part : sums_up query.cores ≡ false → Stay (answer query db) → SameAccepted
  accepted_part each answered =
      let plain : list_any groups query.cores ≡ false = groups_none query.cores (or-parts (list_any (λ core. groups core || core.distinct) query.cores) (has_merging query.cores) each).0 in
      record {
        answered = answer_part each answered;
        gone = rejects_none small query.cores plain ∙ sym (rejects_none db query.cores plain);
        left = ap (λ (b : Bool). cut_if b small) each ∙ sym (ap (λ (b : Bool). cut_if b db) each);
      }

  accepted_same : KeepsNeeded keep (accepted_needs (TheQuery query) db) → SameAccepted
  accepted_same k =
      let first = needed_split keep (lineage_rows query db) (hidden_rows query db) k in
      let second = needed_split keep (map (needed_by H) (all_rejected db)) (cut_rows query db) first.1 in
      let answered : Stay (answer query db) = sym (lineage_kept keep (answer query db)) ∙ needed_kept keep L (lineage_of (answer query db)) first.0 in
      elim (cases-bool (sums_up query.cores)) [
        | inl sums ↦ accepted_whole sums answered second.1 (needed_kept keep H (all_rejected db) second.0)
        | inr each ↦ accepted_part each answered
      ]

  -- with the refusal, or the want of one, that both databases give
  settled_same : (refusal : Option SqlRefusal) → KeepsNeeded keep (sorted_needs (needs_by refusal (TheQuery query) db))
      → (reply_or refusal (Some (TheQuery query)) small ≡ reply_or refusal (Some (TheQuery query)) db) × (needs_by refusal (TheQuery query) small ≡ needs_by refusal (TheQuery query) db)
  settled_same (Some refusal) k = (refl, refused_needs query small refusal ∙ sym (refused_needs query db refusal))
  settled_same None k =
      let same : SameAccepted = accepted_same (rising_kept keep (accepted_needs (TheQuery query) db) k) in (
        (λ j. Rows (map answer_values (same.answered j))),
        (λ j. map (needed_by L) (lineage_of (same.answered j)) ++ (map (needed_by H) (same.gone j) ++ same.left j)),
      )

  same_query : KeepsNeeded keep (need_of (Some (TheQuery query)) db) → SameQuery query small db
  same_query k =
      let refused : refusal_of (Some (TheQuery query)) small ≡ refusal_of (Some (TheQuery query)) db = refusal_same keep query db in
      let same = settled_same (refusal_of (Some (TheQuery query)) db) (subst (KeepsNeeded keep) (need_is (Some (TheQuery query)) db) k) in
      record {
        refusal = refused;
        reply =
            reply_is (Some (TheQuery query)) small
            ∙ ap (λ (r : Option SqlRefusal). reply_or r (Some (TheQuery query)) small) refused
            ∙ same.0
            ∙ sym (reply_is (Some (TheQuery query)) db);
        needs =
            need_is (Some (TheQuery query)) small
            ∙ ap (λ (r : Option SqlRefusal). sorted_needs (needs_by r (TheQuery query) small)) refused
            ∙ ap sorted_needs same.1
            ∙ sym (need_is (Some (TheQuery query)) db);
      }

pub query_law : QueryLaw
query_law query db keep k = same_query query db keep k
