-- The rows of cores and of a query represent those of the definitions.
use Rattle.std.proofs.Common.{◌≡◌, ◌∙◌, sym, ap, subst, refl, ℕ, List, [], ◌∷◌, ◌++◌, map, Bool, true, false, Option, Some, None, arith, zero, suc}
use Rattle.std.specs.Prelude.{if◌then◌else◌, not, ◌+◌, ◌<◌, ◌≤◌, drop, length, slice_get, is_some, IsTrue}
use Rattle.std.specs.List.{flat_map}
use Rattle.std.specs.FinMap.{empty}
use Rattle.std.proofs.lemmas.List.{append-nil, append_assoc}
use Rattle.predicates.proofs.Checks.{checked-is}
use Rattle.predicates.specs.Checking.{core_at, IsChecked, WasChecked}
use Rattle.dml_versions.specs.Versions.{versions_now}
use Rattle.group_eval.specs.Evaluating.{IsGrouped}
use Rattle.group_eval.specs.declared.grouping.Grouped.{Grouped}
use Rattle.lineage.specs.Lineage.{Lineage, IsUnion}
use Rattle.lineage.specs.Rows.{kept_origins, joined_row, AnswersStandFor}
use Rattle.lineage.specs.StandsFor.{StandsFor}
use Rattle.lineage.proofs.Origins.{stands-empty}
use Rattle.lineage.proofs.RowLaws.{answers-append, answers-values, kept_origins-union}
use Rattle.query_eval.specs.Finishing.{IsFinished}
use Rattle.query_eval.specs.Picking.{ArePicked}
use Rattle.query_eval.specs.Projecting.{IsProjected}
use Rattle.query_eval.specs.StoredSources.{table_names}
use Rattle.query_eval.specs.declared.order_limit.Finished.{Finished}
use Rattle.sql_engine.proofs.StoreLaws.{tell_versions}
use Rattle.sql_engine.proofs.UnionLaws.{united_once}
use Rattle.sql_engine.specs.inner.Answering.{IsKept, AreRows, IsEvaluated, IsAsked, IsCore, merges_later, AreUnited, AreAll, hidden_lineage, IsHidden, IsAnswer, IsAnswered, values_of}
use Rattle.sql_engine.specs.Types.{Answer, Checked, Core, Pick, Query, StoreHistory, Table, TheQuery}
use Rattle.sql_engine.specs.declared.answer.QueryAnswer.{QueryAnswer}
use Rattle.sql_engine.specs.declared.cores.CoreRows.{CoreRows}
use Rattle.sql_model.specs.Needs.{sums_up}
use Rattle.sql_model.specs.QueryAnswer.{Origin, AnswerRow, once, rows_in_scope, rejected_in_scope, picked, core_rows, union_rows, rejected, answer, cut, lineage_of, limit_of, merge}
use Rattle.sql_model.specs.Refusals.{groups, cores_of}
use Rattle.sql_model.specs.Scope.{catalog_of, scope_of}
use Rattle.table_store.specs.Histories.{tables_now}

-- what is kept of no lineage
kept_origins-none : (keep : Bool) → [] ≡ kept_origins keep []
kept_origins-none true = refl
kept_origins-none false = refl

-- ---- a core

module _ (checked : Checked) (place : ℕ) (picks : List Pick) (own : Core) (at : core_at checked place ≡ Some own) where
  same_core : (core : Core) → core_at checked place ≡ Some core → own ≡ core
  same_core core is = let same : Some own ≡ Some core = sym at ∙ is in cc

  pub evaluated_groups : (grouped : Grouped) → groups own ≡ true → IsGrouped checked place picks grouped
      → IsEvaluated checked place picks (record { answers = grouped.answers; rejected = grouped.rejected })
  evaluated_groups grouped is made query catalog core names versions keep all was there stand =
      made query catalog core names versions keep all was there (ap groups (sym (same_core core there)) ∙ is) stand

  none_rejected : (b : Bool) (origins : List Origin) → b ≡ false → (if b then origins else []) ≡ []
  none_rejected true origins is = cc
  none_rejected false origins is = refl

  pub evaluated_plain : (answers : List Answer) → groups own ≡ false → IsProjected checked place picks answers
      → IsEvaluated checked place picks (record { answers = answers; rejected = empty })
  evaluated_plain answers is made query catalog core names versions keep all was there stand =
      let plain : groups core ≡ false = ap groups (sym (same_core core there)) ∙ is in
      let none : rejected_in_scope (scope_of core.from catalog) core all ≡ [] = none_rejected (groups core) _ plain in (
        made query catalog core names versions keep all was there plain stand,
        subst (λ (os : List Origin). StandsFor names versions empty (kept_origins keep os)) (sym none)
            (subst (StandsFor names versions empty) (kept_origins-none keep) (stands-empty names versions)),
      )

-- rows of the same values as one
pub once_merged : (rows : CoreRows) (made : List Answer)
    → ((names : List (List ℕ)) (versions : List ℕ → ℕ → ℕ) (keep : Bool) (now : List AnswerRow)
    → AnswersStandFor names versions keep rows.answers now → AnswersStandFor names versions keep made (merge now))
    → (store : StoreHistory) (keep : Bool) (now : List AnswerRow) (hidden : List Origin) → AreRows store keep now hidden rows
    → AreRows store keep (once true now) hidden (record { answers = made; rejected = rows.rejected })
once_merged rows made merged store keep now hidden are = record {
  answers = merged (table_names store) (versions_now store) keep now are.answers;
  rejected = are.rejected;
}

pub core_is : (checked : Checked) (place : ℕ) (store : StoreHistory) (keep : Bool) (picks : List Pick) (rows made : CoreRows) (own : Core)
    → core_at checked place ≡ Some own
    → ArePicked checked place store keep picks
    → IsEvaluated checked place picks rows
    → ((store : StoreHistory) (keep : Bool) (now : List AnswerRow) (hidden : List Origin) → AreRows store keep now hidden rows
    → AreRows store keep (once own.distinct now) hidden made)
    → IsCore checked place store keep made
core_is checked place store keep picks rows made own at are evaluated merged query core asked there =
    let db = tables_now store in
    let same : Some own ≡ Some core = sym at ∙ there in
    let own_is : own ≡ core = cc in
    let scope = scope_of core.from (catalog_of db) in
    let stand = are query core (versions_now store) asked.checked_is there (tell_versions store) in
    let is = evaluated query (catalog_of db) core (table_names store) (versions_now store) keep (picked core db)
    (checked-is checked query (catalog_of db) asked.checked_is) there stand in
    let now = rows_in_scope scope core (picked core db) in
    let hidden = rejected_in_scope scope core (picked core db) in
    subst (λ (c : Core). AreRows store keep (once c.distinct now) hidden made) own_is
    (merged store keep now hidden (record { answers = is.0; rejected = is.1 }))

-- ---- cores as one

module _ (store : StoreHistory) (keep : Bool) (now after : List AnswerRow) (hidden others : List Origin) (rows more : CoreRows)
    (first : AreRows store keep now hidden rows) (second : AreRows store keep after others more) (set : Lineage)
    (is : IsUnion rows.rejected more.rejected set) where
  abbrev names : List (List ℕ)
  names = table_names store

  both_rejected : IsKept store keep set (hidden ++ others)
  both_rejected = kept_origins-union names (versions_now store) keep rows.rejected more.rejected set hidden others is first.rejected second.rejected

  appended : AnswersStandFor names (versions_now store) keep (rows.answers ++ more.answers) (now ++ after)
  appended = answers-append names (versions_now store) keep rows.answers more.answers now after first.answers second.answers

  pub united_is : (merges : Bool) (made : List Answer)
      → ((names : List (List ℕ)) (versions : List ℕ → ℕ → ℕ) (keep : Bool) (now : List AnswerRow)
      → AnswersStandFor names versions keep (rows.answers ++ more.answers) now
      → AnswersStandFor names versions keep made (once merges now))
      → AreRows store keep (once merges (now ++ after)) (hidden ++ others) (record { answers = made; rejected = set })
  united_is merges made merged = record {
    answers = merged names (versions_now store) keep (now ++ after) appended;
    rejected = both_rejected;
  }

module _ (store : StoreHistory) (keep : Bool) where
  pub united_start : (core : Core) (others : List Core) (rows : CoreRows)
      → AreRows store keep (core_rows (tables_now store) core) (rejected (tables_now store) core) rows
      → AreUnited store keep (core ∷ others) others rows
  united_start core others rows are = record {
    rows = core_rows (tables_now store) core;
    hidden = rejected (tables_now store) core;
    are = are;
    same_rows = refl;
    same_hidden = refl;
  }

  pub united_step : (all left : List Core) (core : Core) (rows more made : CoreRows) (merges : Bool) (place merged : ℕ)
      → AreUnited store keep all (core ∷ left) rows
      → AreRows store keep (core_rows (tables_now store) core) (rejected (tables_now store) core) more
      → ((store : StoreHistory) (keep : Bool) (now after : List AnswerRow) (hidden others : List Origin)
      → AreRows store keep now hidden rows → AreRows store keep after others more
      → AreRows store keep (once merges (now ++ after)) (hidden ++ others) made)
      → (merged ≤ place → merges ≡ not core.joined_all) → (place < merged → merges_later left ≡ true)
      → AreUnited store keep all left made
  united_step all left core rows more made merges place merged old are joined choice later = record {
    rows = once merges (old.rows ++ core_rows (tables_now store) core);
    hidden = old.hidden ++ rejected (tables_now store) core;
    are = joined store keep old.rows (core_rows (tables_now store) core) old.hidden (rejected (tables_now store) core) old.are are;
    same_rows = united_once (tables_now store) core left old.rows merges place merged choice later ∙ old.same_rows;
    same_hidden = append_assoc old.hidden (rejected (tables_now store) core) (flat_map (rejected (tables_now store)) left) ∙ old.same_hidden;
  }

  pub united_end : (all : List Core) (made : CoreRows) → AreUnited store keep all [] made
      → AreRows store keep (union_rows (tables_now store) all) (flat_map (rejected (tables_now store)) all) made
  united_end all made is =
      subst (λ (rows : List AnswerRow). AreRows store keep rows (flat_map (rejected (tables_now store)) all) made) is.same_rows
      (subst (λ (os : List Origin). AreRows store keep is.rows os made) (sym (append-nil is.hidden) ∙ is.same_hidden) is.are)

  pub none_are : (answers : List Answer) (set : Lineage) → answers ≡ [] → set ≡ empty
      → AreRows store keep [] [] (record { answers = answers; rejected = set })
  none_are answers set no_answers no_rows =
      subst (λ (l : List Answer). AreRows store keep [] [] (record { answers = l; rejected = set })) (sym no_answers)
      (subst (λ (s : Lineage). AreRows store keep [] [] (record { answers = []; rejected = s })) (sym no_rows)
      (record {
        answers = tt;
        rejected = subst (StandsFor (table_names store) (versions_now store) empty) (kept_origins-none keep) (stands-empty (table_names store) (versions_now store));
      }))

-- ---- the answer

module _ (checked : Checked) (store : StoreHistory) (keep : Bool) (all : CoreRows) (finished : Finished) (own : Query)
    (statement_is : checked.statement ≡ TheQuery own) (are : AreAll checked store keep all) (is : IsFinished checked all.answers finished) where
  module _ (query : Query) (asked : IsAsked checked store query) where
    abbrev db : List Table
    db = tables_now store

    checked_query : IsChecked checked query (catalog_of db)
    checked_query = checked-is checked query (catalog_of db) asked.checked_is

    same_query : own ≡ query
    same_query =
        let same : TheQuery own ≡ TheQuery query = sym statement_is ∙ ap (λ (c : Checked). c.statement) checked_query in cc

    rows : AreRows store keep (union_rows db query.cores) (flat_map (rejected db) query.cores) all
    rows = are query asked

    ends : AnswersStandFor (table_names store) (versions_now store) keep finished.answers (answer query db)
        × IsKept store keep finished.cut (lineage_of (cut query db))
    ends = is query (catalog_of db) (table_names store) (versions_now store) keep (union_rows db query.cores) checked_query rows.answers

    hidden_by : (sums : Bool) (hidden : Lineage) → IsHidden sums all.rejected finished.cut hidden
        → IsKept store keep hidden (flat_map (rejected db) query.cores ++ (if sums then lineage_of (cut query db) else []))
    hidden_by true hidden union =
        kept_origins-union (table_names store) (versions_now store) keep all.rejected finished.cut hidden (flat_map (rejected db) query.cores) (lineage_of (cut query db))
        union rows.rejected ends.1
    hidden_by false hidden same =
        subst (λ (os : List Origin). IsKept store keep hidden os) (sym (append-nil (flat_map (rejected db) query.cores)))
        (subst (λ (s : Lineage). IsKept store keep s (flat_map (rejected db) query.cores)) (sym same) rows.rejected)

  pub answered_is : (hidden lineage : Lineage) → IsHidden (sums_up own.cores) all.rejected finished.cut hidden
      → ((names : List (List ℕ)) (versions : List ℕ → ℕ → ℕ) (keep : Bool) (rows : List AnswerRow)
      → AnswersStandFor names versions keep finished.answers rows → StandsFor names versions lineage (kept_origins keep (lineage_of rows)))
      → IsAnswered checked store keep (record { rows = map values_of finished.answers; lineage = lineage; hidden = hidden })
  answered_is hidden lineage is_hidden united query asked = record {
    rows = answers-values (table_names store) (versions_now store) keep finished.answers (answer query (tables_now store)) (ends query asked).0;
    lineage = united (table_names store) (versions_now store) keep (answer query (tables_now store)) (ends query asked).0;
    hidden = hidden_by query asked (sums_up query.cores) hidden
        (subst (λ (q : Query). IsHidden (sums_up q.cores) all.rejected finished.cut hidden) (same_query query asked) is_hidden);
  }

-- the rows of the same cores
pub all_rows : (store : StoreHistory) (keep : Bool) (cores others : List Core) → cores ≡ others → (made : CoreRows)
    → AreRows store keep (union_rows (tables_now store) cores) (flat_map (rejected (tables_now store)) cores) made
    → AreRows store keep (union_rows (tables_now store) others) (flat_map (rejected (tables_now store)) others) made
all_rows store keep cores others same made are =
    subst (λ (cs : List Core). AreRows store keep (union_rows (tables_now store) cs) (flat_map (rejected (tables_now store)) cs) made) same are

-- ---- parts of lists of cores

pub no_core : (cores : List Core) → length cores < 1 → cores ≡ []
no_core [] none = refl
no_core (core ∷ cores) none = absurd (omega (arith, none))

-- what stands at a place of a list
get_dropped : {X : Type 0} (xs : List X) (i : ℕ) (x : X) (ys : List X) → drop i xs ≡ x ∷ ys → slice_get xs i ≡ Some x
get_dropped [] zero x ys is = cc
get_dropped [] (suc i) x ys is = cc
get_dropped (y ∷ xs) zero x ys is = let same : y ≡ x = cc in ap Some same
get_dropped (y ∷ xs) (suc i) x ys is = get_dropped xs i x ys is

after_one : (i : ℕ) → i + 1 ≡ suc i
after_one i = omega (arith)

pub next_core : (all others : List Core) (first core : Core) (place i : ℕ) (rest : List Core)
    → all ≡ first ∷ others → place ≡ i + 1 → drop i others ≡ core ∷ rest → slice_get all place ≡ Some core
next_core all others first core place i rest all_are place_is split =
    (λ j. slice_get (all_are j) ((place_is ∙ after_one i) j)) ∙ get_dropped others i core rest split

-- the cores of a query that was checked
pub asked_cores : (checked : Checked) (store : StoreHistory) (query : Query) → IsAsked checked store query
    → cores_of checked.statement ≡ query.cores
asked_cores checked store query asked =
    ap cores_of (ap (λ (c : Checked). c.statement) (checked-is checked query (catalog_of (tables_now store)) asked.checked_is))
