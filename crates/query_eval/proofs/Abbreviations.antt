-- Sorting answers beside abbreviated keys sorts them as their columns do.
use Rattle.std.proofs.Common.{◌≡◌, List, [], ◌∷◌, map, refl, sym, ap, ◌∙◌, subst, Bool, false, true, inl, inr}
use Rattle.std.specs.Cmp.{IsTotalOrder}
use Rattle.std.specs.declared.cmp.Ordering.{Ordering}
use Rattle.std.specs.declared.cmp.Ordering.TheVariants.{Less, Equal, Greater}
use Rattle.std.specs.Ordering.{is_gt, ordering_reverse, ordering_then}
use Rattle.std.proofs.lemmas.Cmp.{on_total, then_total, back_total}
use Rattle.ldv_value.proofs.Cases.{cases-bool}
use Rattle.ldv_value.specs.Cells.{value_at}
use Rattle.ldv_value.specs.Order.{order, order_total}
use Rattle.lineage.specs.declared.answer.Answer.{Answer}
use Rattle.query_eval.specs.Finishing.{as_key, by_columns}
use Rattle.query_eval.specs.Types.{Value, Null, Int, Text}
use Rattle.query_eval.specs.declared.abbreviated.KeyedAnswer.{KeyedAnswer}
use Rattle.query_eval.specs.declared.sort.SortColumn.{SortColumn}
use Rattle.query_eval.specs.inner.Abbreviating.{by_keys, first_descends, key_of_value, value_of_key, with_key}
use Rattle.sql_model.proofs.StableSorting.{order_by_total}
use Rattle.sql_model.specs.QueryAnswer.{order_by, order_in_direction}
use Rattle.sql_model.specs.Sorting.{put_sorted, sorted_by}

-- ---- the keys decide nothing that the columns don't

twice : (o rest : Ordering) → ordering_then o (ordering_then o rest) ≡ ordering_then o rest
twice Less rest = refl
twice Equal rest = refl
twice Greater rest = refl

shorter : (d : Bool) (v w : Value) (rest : Ordering)
    → ordering_then (order_in_direction d (order (value_of_key (key_of_value v)) (value_of_key (key_of_value w)))) (ordering_then (order_in_direction d (order v w)) rest)
    ≡ ordering_then (order_in_direction d (order v w)) rest
shorter d Null Null rest = twice (order_in_direction d (order Null Null)) rest
shorter d Null (Int n) rest = twice (order_in_direction d (order Null (Int n))) rest
shorter d Null (Text t) rest = twice (order_in_direction d Less) rest
shorter d (Int m) Null rest = twice (order_in_direction d (order (Int m) Null)) rest
shorter d (Int m) (Int n) rest = twice (order_in_direction d (order (Int m) (Int n))) rest
shorter d (Int m) (Text t) rest = twice (order_in_direction d Less) rest
shorter d (Text s) Null rest = twice (order_in_direction d Greater) rest
shorter d (Text s) (Int n) rest = twice (order_in_direction d Greater) rest
shorter false (Text s) (Text t) rest = refl
shorter true (Text s) (Text t) rest = refl

pub agree : (columns : List SortColumn) (a b : Answer) → by_keys columns (with_key columns a) (with_key columns b) ≡ by_columns columns a b
agree [] a b = refl
agree (column ∷ columns) a b =
    shorter column.descending (value_at a.values column.place) (value_at b.values column.place) (order_by (map as_key columns) a.values b.values)

-- ---- they make a total order

keys_total : (d : Bool) → IsTotalOrder (λ (a b : KeyedAnswer). order_in_direction d (order (value_of_key a.key) (value_of_key b.key)))
keys_total false = on_total (λ (each : KeyedAnswer). value_of_key each.key) order_total
keys_total true =
    let back : IsTotalOrder (λ (a b : KeyedAnswer). order (value_of_key b.key) (value_of_key a.key)) = back_total (on_total (λ (each : KeyedAnswer). value_of_key each.key) order_total) in
    let turn : (λ (a b : KeyedAnswer). order (value_of_key b.key) (value_of_key a.key)) ≡ (λ (a b : KeyedAnswer). ordering_reverse (order (value_of_key a.key) (value_of_key b.key))) = λ j a b. order_total.antisymm (value_of_key b.key) (value_of_key a.key) j in
    subst (λ (R : KeyedAnswer → KeyedAnswer → Ordering). IsTotalOrder R) turn back

pub by_keys_total : (columns : List SortColumn) → IsTotalOrder (by_keys columns)
by_keys_total columns =
    then_total (keys_total (first_descends columns)) (on_total (λ (each : KeyedAnswer). each.answer.values) (order_by_total (map as_key columns)))

-- ---- sorting what is mapped

module _ {A B : Type 0} (f : A → B) (small : A → A → Ordering) (large : B → B → Ordering) (same : (x y : A) → large (f x) (f y) ≡ small x y) where
  put_mapped : (x : A) (ys : List A) → put_sorted large (f x) (map f ys) ≡ map f (put_sorted small x ys)
  put_mapped x [] = refl
  put_mapped x (y ∷ ys) = rw (same x y) (elim (cases-bool (is_gt (small x y))) [
    | inl after ↦ rw after (λ j. f y ∷ put_mapped x ys j)
    | inr before ↦ rw before refl
  ])

  pub sorted_mapped : (xs : List A) → sorted_by large (map f xs) ≡ map f (sorted_by small xs)
  sorted_mapped [] = refl
  sorted_mapped (x ∷ xs) = ap (put_sorted large (f x)) (sorted_mapped xs) ∙ put_mapped x (sorted_by small xs)

unkeyed : (columns : List SortColumn) (answers : List Answer) → map (λ (each : KeyedAnswer). each.answer) (map (with_key columns) answers) ≡ answers
unkeyed columns [] = refl
unkeyed columns (answer ∷ answers) = λ j. answer ∷ unkeyed columns answers j

pub sorted_keyed : (columns : List SortColumn) (answers : List Answer)
    → map (λ (each : KeyedAnswer). each.answer) (sorted_by (by_keys columns) (map (with_key columns) answers)) ≡ sorted_by (by_columns columns) answers
sorted_keyed columns answers =
    ap (map (λ (each : KeyedAnswer). each.answer)) (sorted_mapped (with_key columns) (by_columns columns) (by_keys columns) (agree columns) answers)
    ∙ unkeyed columns (sorted_by (by_columns columns) answers)

-- ---- without columns

put_unsorted : (x : Answer) (ys : List Answer) → put_sorted (by_columns []) x ys ≡ x ∷ ys
put_unsorted x [] = refl
put_unsorted x (y ∷ ys) = refl

pub unsorted : (columns : List SortColumn) → columns ≡ [] → (answers : List Answer) → sorted_by (by_columns columns) answers ≡ answers
unsorted [] is [] = refl
unsorted [] is (answer ∷ answers) = ap (put_sorted (by_columns []) answer) (unsorted [] is answers) ∙ put_unsorted answer answers
unsorted (column ∷ columns) is answers = cc
