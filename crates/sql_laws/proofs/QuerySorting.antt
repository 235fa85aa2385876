-- Answer rows are sorted by a total order. The rows that LIMIT keeps if only a part of the answer rows stays.
use Rattle.std.proofs.Common.{◌≡◌, ℕ, suc, zero, List, [], ◌∷◌, refl, sym, ap, ◌∙◌, Bool, true, false, inl, inr}
use Rattle.std.specs.Prelude.{Option, Some, None, filter, take, drop, ◌&&◌, if◌then◌else◌}
use Rattle.std.specs.List.{list_all}
use Rattle.std.specs.Cmp.{IsTotalOrder}
use Rattle.std.proofs.lemmas.Cmp.{on_total}
use Rattle.std.proofs.lemmas.List.{take-append-drop}
use Rattle.ldv_value.proofs.Booleans.{and-parts}
use Rattle.ldv_value.proofs.Lists.{list_all-append}
use Rattle.sql_model.proofs.StableSorting.{order_by_total}
use Rattle.sql_model.specs.QueryAnswer.{AnswerRow, SortKey, order_by, first_rows, other_rows}

pub rows_total : (keys : List SortKey) → IsTotalOrder (λ (a b : AnswerRow). order_by keys a.values b.values)
rows_total keys = on_total (λ (row : AnswerRow). row.values) (order_by_total keys)

-- ---- the first rows

module _ {X : Type 0} (p : X → Bool) where
  pub filter_all : (xs : List X) → list_all p xs ≡ true → filter p xs ≡ xs
  filter_all [] all = refl
  filter_all (x ∷ xs) all = let both = and-parts (p x) (list_all p xs) all in rw both.0 (λ j. x ∷ filter_all xs both.1 j)

  take_part : (n : ℕ) (xs : List X) → list_all p (take n xs) ≡ true → take n (filter p xs) ≡ take n xs
  take_part zero xs all = refl
  take_part (suc n) [] all = refl
  take_part (suc n) (x ∷ xs) all = let both = and-parts (p x) (list_all p (take n xs)) all in rw both.0 (λ j. x ∷ take_part n xs both.1 j)

-- those that LIMIT keeps are the same where all of them stay
pub first_part : (p : AnswerRow → Bool) (limit : Option ℕ) (rows : List AnswerRow)
    → list_all p (first_rows limit rows) ≡ true → first_rows limit (filter p rows) ≡ first_rows limit rows
first_part p None rows all = filter_all p rows all
first_part p (Some n) rows all = take_part p n rows all

-- a test that those pass which LIMIT keeps and those which it cuts all pass
pub limit_all : (p : AnswerRow → Bool) (limit : Option ℕ) (rows : List AnswerRow)
    → list_all p (first_rows limit rows) ≡ true → list_all p (other_rows limit rows) ≡ true
    → list_all p rows ≡ true
limit_all p None rows first other = first
limit_all p (Some n) rows first other =
    sym (ap (list_all p) (take-append-drop n rows))
    ∙ list_all-append p (take n rows) (drop n rows)
    ∙ (λ j. first j && other j)
