-- Sorted and cut answers stand for sorted and cut rows.
use Rattle.std.proofs.Common.{◌≡◌, ◌∙◌, sym, ap, subst, refl, ℕ, zero, suc, Bool, true, false, List, [], ◌∷◌, ◌++◌, map, length, take, drop, Option, Some, None, inl, inr}
use Rattle.std.specs.Prelude.{slice_get, unwrap_or}
use Rattle.std.specs.declared.cmp.Ordering.{Ordering}
use Rattle.std.specs.Ordering.{is_gt}
use Rattle.ldv_value.proofs.Cases.{cases-bool}
use Rattle.lineage.specs.Lineage.{Lineage}
use Rattle.lineage.specs.Rows.{kept_origins, IsRow, AnswersStandFor}
use Rattle.lineage.specs.StandsFor.{StandsFor}
use Rattle.lineage.specs.declared.answer.Answer.{Answer}
use Rattle.query_eval.proofs.Merges.{lineage_of_answers-stands}
use Rattle.predicates.specs.Checking.{places_at}
use Rattle.predicates.proofs.CorePlaces.{statement-is}
use Rattle.query_eval.specs.Finishing.{as_key, sort_columns, by_columns, IsLimited, IsFinished, rows_in_order}
use Rattle.query_eval.specs.Merging.{lineage_of_answers}
use Rattle.query_eval.specs.Types.{Checked, Order, Query, TheQuery}
use Rattle.query_eval.specs.declared.order_limit.Finished.{Finished}
use Rattle.query_eval.specs.declared.sort.SortColumn.{SortColumn}
use Rattle.sql_model.specs.Needs.{Versions}
use Rattle.sql_model.specs.Places.{core_places, order_places}
use Rattle.sql_model.specs.QueryAnswer.{AnswerRow, SortKey, lineage_of, sort_key, order_by, sort_rows, limit_of, first_rows, other_rows}
use Rattle.sql_model.specs.Refusals.{answer_columns}
use Rattle.sql_model.specs.Sorting.{put_sorted, sorted_by}

-- ---- the columns to sort by

columns-are : (titles : List (Option (List ℕ))) (parts : List Order) → map as_key (sort_columns (order_places titles parts) parts) ≡ map (sort_key titles) parts
columns-are titles [] = refl
columns-are titles (part ∷ parts) = ap (λ keys. sort_key titles part ∷ keys) (columns-are titles parts)

got-last : {A B : Type 0} (f : A → B) (xs : List A) (last : B) → slice_get (map f xs ++ last ∷ []) (length xs) ≡ Some last
got-last f [] last = refl
got-last f (x ∷ xs) last = got-last f xs last

-- ---- standing for rows

module _ (names : List (List ℕ)) (versions : Versions) (keep : Bool) where
  module _ (columns : List SortColumn) where
    abbrev rows-by : AnswerRow → AnswerRow → Ordering
    rows-by a b = order_by (map as_key columns) a.values b.values

    put-stands : (answer : Answer) (row : AnswerRow) → IsRow names versions keep answer.values answer.lineage row → (answers : List Answer) (rows : List AnswerRow)
        → AnswersStandFor names versions keep answers rows → AnswersStandFor names versions keep (put_sorted (by_columns columns) answer answers) (put_sorted rows-by row rows)
    put-stands answer row is [] [] stand = (is, tt)
    put-stands answer row is [] (s ∷ rows) stand = absurd stand
    put-stands answer row is (b ∷ answers) [] stand = absurd stand
    put-stands answer row is (b ∷ answers) (s ∷ rows) stand =
        let same : is_gt (rows-by row s) ≡ is_gt (by_columns columns answer b) = λ j. is_gt (order_by (map as_key columns) (sym is.same j) (sym stand.0.same j)) in
        elim (cases-bool (is_gt (by_columns columns answer b))) [
          | inl after ↦ let there : is_gt (rows-by row s) ≡ true = same ∙ after in rw (after, there) (stand.0, put-stands answer row is answers rows stand.1)
          | inr before ↦ let there : is_gt (rows-by row s) ≡ false = same ∙ before in rw (before, there) (is, stand)
        ]

    sort-stands : (answers : List Answer) (rows : List AnswerRow) → AnswersStandFor names versions keep answers rows
        → AnswersStandFor names versions keep (sorted_by (by_columns columns) answers) (sorted_by rows-by rows)
    sort-stands [] [] stand = stand
    sort-stands [] (row ∷ rows) stand = absurd stand
    sort-stands (answer ∷ answers) [] stand = absurd stand
    sort-stands (answer ∷ answers) (row ∷ rows) stand =
        put-stands answer row stand.0 (sorted_by (by_columns columns) answers) (sorted_by rows-by rows) (sort-stands answers rows stand.1)

  take-stands : (n : ℕ) (answers : List Answer) (rows : List AnswerRow) → AnswersStandFor names versions keep answers rows → AnswersStandFor names versions keep (take n answers) (take n rows)
  take-stands zero answers rows stand = tt
  take-stands (suc n) [] [] stand = stand
  take-stands (suc n) [] (row ∷ rows) stand = absurd stand
  take-stands (suc n) (answer ∷ answers) [] stand = absurd stand
  take-stands (suc n) (answer ∷ answers) (row ∷ rows) stand = (stand.0, take-stands n answers rows stand.1)

  drop-stands : (n : ℕ) (answers : List Answer) (rows : List AnswerRow) → AnswersStandFor names versions keep answers rows → AnswersStandFor names versions keep (drop n answers) (drop n rows)
  drop-stands zero answers rows stand = stand
  drop-stands (suc n) [] [] stand = stand
  drop-stands (suc n) [] (row ∷ rows) stand = absurd stand
  drop-stands (suc n) (answer ∷ answers) [] stand = absurd stand
  drop-stands (suc n) (answer ∷ answers) (row ∷ rows) stand = drop-stands n answers rows stand.1

  first-stands : (limit : Option ℕ) (answers : List Answer) (rows : List AnswerRow) → AnswersStandFor names versions keep answers rows
      → AnswersStandFor names versions keep (first_rows limit answers) (first_rows limit rows)
  first-stands None answers rows stand = stand
  first-stands (Some n) answers rows stand = take-stands n answers rows stand

  others-stand : (limit : Option ℕ) (answers : List Answer) (rows : List AnswerRow) → AnswersStandFor names versions keep answers rows
      → AnswersStandFor names versions keep (other_rows limit answers) (other_rows limit rows)
  others-stand None answers rows stand = tt
  others-stand (Some n) answers rows stand = drop-stands n answers rows stand

same-query : (a b : Query) → TheQuery a ≡ TheQuery b → a ≡ b
same-query a b is = cc

pub finished-is : (checked : Checked) (own : Query) (answers : List Answer) (columns : List SortColumn) (finished : Finished)
    → checked.statement ≡ TheQuery own
    → columns ≡ sort_columns (places_at checked (length own.cores)) own.order
    → IsLimited (limit_of own.limit) (sorted_by (by_columns columns) answers) finished
    → IsFinished checked answers finished
finished-is checked own answers columns finished statement by limited query catalog names versions keep rows is stand =
    let same : own ≡ query = same-query own query (sym statement ∙ statement-is checked query catalog is) in
    let titles : List (Option (List ℕ)) = answer_columns catalog query.cores in
    let places : places_at checked (length query.cores) ≡ order_places titles query.order =
    ap (λ (c : Checked). places_at c (length query.cores)) is
    ∙ ap (λ (o : Option (List ℕ)). unwrap_or o []) (got-last (core_places catalog) query.cores (order_places titles query.order)) in
    let keys : map as_key columns ≡ map (sort_key titles) query.order =
    ap (map as_key) (by ∙ ap (λ (q : Query). sort_columns (places_at checked (length q.cores)) q.order) same ∙ ap (λ (ps : List ℕ). sort_columns ps query.order) places)
    ∙ columns-are titles query.order in
    let sorted : AnswersStandFor names versions keep (sorted_by (by_columns columns) answers) (rows_in_order query catalog rows) =
    subst (λ (ks : List SortKey). AnswersStandFor names versions keep (sorted_by (by_columns columns) answers) (sort_rows ks rows)) keys
    (sort-stands names versions keep columns answers rows stand) in
    let limit : limit_of own.limit ≡ limit_of query.limit = ap (λ (q : Query). limit_of q.limit) same in
    let first : finished.answers ≡ first_rows (limit_of query.limit) (sorted_by (by_columns columns) answers) =
    limited.first ∙ ap (λ (l : Option ℕ). first_rows l (sorted_by (by_columns columns) answers)) limit in
    let cut : finished.cut ≡ lineage_of_answers (other_rows (limit_of query.limit) (sorted_by (by_columns columns) answers)) =
    limited.cut ∙ ap (λ (l : Option ℕ). lineage_of_answers (other_rows l (sorted_by (by_columns columns) answers))) limit in (
      subst (λ (made : List Answer). AnswersStandFor names versions keep made (first_rows (limit_of query.limit) (rows_in_order query catalog rows))) (sym first)
          (first-stands names versions keep (limit_of query.limit) (sorted_by (by_columns columns) answers) (rows_in_order query catalog rows) sorted),
      subst (λ (set : Lineage). StandsFor names versions set (kept_origins keep (lineage_of (other_rows (limit_of query.limit) (rows_in_order query catalog rows))))) (sym cut)
          (lineage_of_answers-stands names versions keep (other_rows (limit_of query.limit) (sorted_by (by_columns columns) answers)) (other_rows (limit_of query.limit) (rows_in_order query catalog rows))
          (others-stand names versions keep (limit_of query.limit) (sorted_by (by_columns columns) answers) (rows_in_order query catalog rows) sorted)),
    )
