-- References by their keys: an index of them after a pair is added or removed, and the row that comes next.
use Rattle.std.proofs.Common.{◌≡◌, ℕ, zero, suc, ◌+◌, ◌<◌, ◌≤◌, List, [], ◌∷◌, length, get_or, take, refl, sym, ap, subst, ◌∙◌, Bool, true, false, cond, inl, inr, arith, Option, Some, None, add-one}
use Rattle.std.specs.Prelude.{ℤ, IfSome, find, if◌then◌else◌}
use Rattle.std.specs.Cmp.{eq_by_cmp_equiv, nat_cmp_is}
use Rattle.std.specs.List.{AllByRecursion, list_any}
use Rattle.std.specs.Option.{option_map_or, option_to_list}
use Rattle.std.specs.Ordering.{int_cmp, is_eq, nat_cmp, ordering_then}
use Rattle.std.specs.declared.cmp.Ordering.{Ordering}
use Rattle.std.specs.declared.cmp.Ordering.TheVariants.{Less, Equal, Greater}
use Rattle.std.proofs.lemmas.Bool.{cases_lt}
use Rattle.ldv_value.proofs.Booleans.{not-so, true≢false}
use Rattle.ldv_value.proofs.Lists.{all-weaker}
use Rattle.ldv_value.proofs.Options.{none-some, same-some}
use Rattle.ldv_value.specs.Order.{values_total}
use Rattle.sql_model.specs.KeyOrder.{key_order}
use Rattle.sql_model.specs.Keys.{same_values, values_at}
use Rattle.sql_model.specs.Meaning.{is_null}
use Rattle.sql_model.specs.References.{reference, has_key}
use Rattle.sql_model.proofs.SameValues.{same_exact}
use Rattle.table_store.specs.inner.ChildPairs.{AreReferred, IsFirstFrom, IsNextOf, IsReferred, KeepBut, KeepPairs, Pairs, first_place, no_foreign, pair_as, refers}
use Rattle.table_store.specs.Histories.{RowHistory, no_history, row_now, rows_now}
use Rattle.table_store.specs.KeyIndex.{int_key}
use Rattle.table_store.specs.RowOrder.{AreInOrder}
use Rattle.table_store.specs.Types.{Foreign, TableRow, Value}
use Rattle.table_store.proofs.FirstPlaceLaws.{first_of_first, first_refers, first_within}
use Rattle.table_store.proofs.IndexViewLaws.{int_tied}
use Rattle.table_store.proofs.StandingRows.{InSlot, all-in-slots, number-is}

-- ---- pairs that stay

pub keep_as : (a b : Bool) (f g : ℤ → Bool) (o : Option ℤ) → (a ≡ true → b ≡ true) → ((z : ℤ) → f z ≡ true → g z ≡ true)
    → pair_as a f o ≡ true → pair_as b g o ≡ true
keep_as a b f g None one two is = one is
keep_as a b f g (Some z) one two is = two z is

pub none_as : (a : Bool) (f : ℤ → Bool) (o : Option ℤ) → a ≡ false → ((z : ℤ) → f z ≡ false)
    → pair_as a f o ≡ false
none_as a f None one two = one
none_as a f (Some z) one two = two z

pub keep_both : (one two three : Pairs) → KeepPairs one two → KeepPairs two three → KeepPairs one three
keep_both one two three first second place key number is = second place key number (first place key number is)

-- ---- a pair less

then_both : (a b : Ordering) → is_eq (ordering_then a b) ≡ true → (is_eq a ≡ true) × (is_eq b ≡ true)
then_both Less b is = absurd (true≢false (sym is))
then_both Equal b is = (refl, is)
then_both Greater b is = absurd (true≢false (sym is))

nat_tied : (m n : ℕ) → is_eq (nat_cmp m n) ≡ true → m ≡ n
nat_tied m n is = elim (cases_lt m n) [
  | inl less ↦ absurd (true≢false (sym is ∙ ap is_eq (sym (nat_cmp_is m n Less less))))
  | inr from ↦ elim (cases_lt n m) [
    | inl above ↦ absurd (true≢false (sym is ∙ ap is_eq (sym (nat_cmp_is m n Greater above))))
    | inr to ↦ omega (arith, from, to)
  ]
]

-- pairs that tie with one that is taken out are that one
module _ (place number : ℕ) (key : List Value) (p n : ℕ) (k : List Value) (differs : (p ≡ place) → (k ≡ key) → (n ≡ number) → ⊥) where
  pub other_key : is_eq (ordering_then (ordering_then (nat_cmp place p) (key_order (record { values = key }) (record { values = k }))) (nat_cmp number n)) ≡ false
  other_key = not-so (is_eq (ordering_then (ordering_then (nat_cmp place p) (key_order (record { values = key }) (record { values = k }))) (nat_cmp number n))) (λ tied.
      let outer = then_both (ordering_then (nat_cmp place p) (key_order (record { values = key }) (record { values = k }))) (nat_cmp number n) tied in
      let inner = then_both (nat_cmp place p) (key_order (record { values = key }) (record { values = k })) outer.0 in
      differs (sym (nat_tied place p inner.0)) (sym (same_exact key k inner.1)) (sym (nat_tied number n outer.1)))

  pub other_int : (int z : ℤ) → int_key key ≡ Some int → int_key k ≡ Some z → is_eq (ordering_then (ordering_then (nat_cmp place p) (int_cmp int z)) (nat_cmp number n)) ≡ false
  other_int int z own its = not-so (is_eq (ordering_then (ordering_then (nat_cmp place p) (int_cmp int z)) (nat_cmp number n))) (λ tied.
      let outer = then_both (ordering_then (nat_cmp place p) (int_cmp int z)) (nat_cmp number n) tied in
      let inner = then_both (nat_cmp place p) (int_cmp int z) outer.0 in
      differs (sym (nat_tied place p inner.0)) (sym (int_tied key k int z own its inner.1)) (sym (nat_tied number n outer.1)))

-- of the number that is a whole key, if one is
pub keep_at : (a b : Bool) (f g : ℤ → Bool) (o : Option ℤ) → (a ≡ true → b ≡ true) → ((z : ℤ) → o ≡ Some z → f z ≡ true → g z ≡ true)
    → pair_as a f o ≡ true → pair_as b g o ≡ true
keep_at a b f g None one two is = one is
keep_at a b f g (Some z) one two is = two z refl is

-- ---- rows that refer to a key no longer

reference_is : (f : Foreign) (values key : List Value) → reference f values ≡ Some key → values_at f.columns values ≡ key
reference_is f values key is = by (list_any is_null (values_at f.columns values)) is
  where
    by : (b : Bool) → (if b then None else Some (values_at f.columns values)) ≡ Some key → values_at f.columns values ≡ key
    by true none = absurd (none-some key none)
    by false some = same-some (values_at f.columns values) key some

module _ (slots : List RowHistory) (next : ℕ) (order : AreInOrder slots next) (slot number place : ℕ) (f : Foreign) (key : List Value)
    (within : slot < length slots) (numbered : (get_or slots slot no_history).number ≡ number)
    (gone : find (has_key f.columns key) (option_to_list (row_now (get_or slots slot no_history))) ≡ None)
    (foreigns : List Foreign) (there : get_or foreigns place no_foreign ≡ f) (old new : Pairs) (keep : KeepBut place key number old new) where
  -- by the first foreign key over the same columns
  abbrev first : Pairs → Pairs
  first pairs p = pairs (first_place foreigns p)

  one_slot : (i : ℕ) → i < length slots → (get_or slots i no_history).number ≡ number → i ≡ slot
  one_slot i inside same = elim (cases_lt i slot) [
    | inl low ↦ absurd (omega (arith, order.rising i slot low within, numbered, same))
    | inr from ↦ elim (cases_lt slot i) [
      | inl high ↦ absurd (omega (arith, order.rising slot i high inside, numbered, same))
      | inr to ↦ omega (arith, from, to)
    ]
  ]

  not_found : (row : TableRow) → row_now (get_or slots slot no_history) ≡ Some row → has_key f.columns key row ≡ true → ⊥
  not_found row now has =
      none-some row
      (sym gone ∙ ap (λ (o : Option TableRow). find (has_key f.columns key) (option_to_list o)) now ∙ ap (λ b. cond b (Some row) None) has)

  differs : (row : TableRow) → InSlot slots row → (p : ℕ) (k : List Value) → p < length foreigns → reference (get_or foreigns p no_foreign) row.values ≡ Some k
      → (first_place foreigns p ≡ place) → (k ≡ key) → (row.number ≡ number) → ⊥
  differs row s p k inside is same_place same_key same_number =
      let at : s.slot ≡ slot = one_slot s.slot s.within (number-is (get_or slots s.slot no_history) row s.now ∙ same_number) in
      let now : row_now (get_or slots slot no_history) ≡ Some row = ap (λ (i : ℕ). row_now (get_or slots i no_history)) (sym at) ∙ s.now in
      let own : reference f row.values ≡ Some k = ap (λ (g : Foreign). reference g row.values) (sym there ∙ ap (λ (i : ℕ). get_or foreigns i no_foreign) (sym same_place)) ∙ first_refers foreigns p inside row.values ∙ is in
      let values : values_at f.columns row.values ≡ key = reference_is f row.values k own ∙ same_key in
      let has : has_key f.columns key row ≡ true = ap (λ (l : List Value). same_values l key) values ∙ (eq_by_cmp_equiv values_total).refl key in
      not_found row now has

  stays : (row : TableRow) → InSlot slots row → IsReferred (first old) foreigns row → IsReferred (first new) foreigns row
  stays row s is p inside = by (reference (get_or foreigns p no_foreign) row.values) refl (is p inside)
    where
      by : (o : Option (List Value)) → reference (get_or foreigns p no_foreign) row.values ≡ o → IfSome o (λ k. old (first_place foreigns p) k row.number ≡ true) → IfSome o (λ k. new (first_place foreigns p) k row.number ≡ true)
      by None own has = tt
      by (Some k) own has = keep (first_place foreigns p) k row.number (differs row s p k inside own) has

  both_stay : (rows : List TableRow) → AllByRecursion (InSlot slots) rows → AreReferred (first old) foreigns rows → AreReferred (first new) foreigns rows
  both_stay [] ins all = tt
  both_stay (row ∷ rows) ins all = (stays row ins.0 all.0, both_stay rows ins.1 all.1)

  pub settled : AreReferred (first old) foreigns (rows_now slots) → AreReferred (first new) foreigns (rows_now slots)
  settled all = both_stay (rows_now slots) (all-in-slots slots) all

-- ---- a row more

pub referred_more : (foreigns : List Foreign) (old new : Pairs) (rows : List TableRow) (i : ℕ) (row : TableRow) → i < length rows → row ≡ get_or rows i row
    → KeepPairs old new → AreReferred old foreigns (take i rows) → IsReferred new foreigns row → AreReferred new foreigns (take (i + 1) rows)
referred_more foreigns old new rows i row within is keep before one = rw add-one (by rows i within is before)
  where
    wider : (r : TableRow) → IsReferred old foreigns r → IsReferred new foreigns r
    wider r there place inside = at (reference (get_or foreigns place no_foreign) r.values) (there place inside)
      where
        at : (o : Option (List Value)) → IfSome o (λ key. old place key r.number ≡ true) → IfSome o (λ key. new place key r.number ≡ true)
        at None yes_old = tt
        at (Some key) yes_old = keep place key r.number yes_old

    by : (some : List TableRow) (k : ℕ) → k < length some → row ≡ get_or some k row → AreReferred old foreigns (take k some) → AreReferred new foreigns (take (suc k) some)
    by [] k inside same all = absurd (omega (arith, inside))
    by (r ∷ some) zero inside same all = (subst (λ (x : TableRow). IsReferred new foreigns x) same one, tt)
    by (r ∷ some) (suc k) inside same all = (wider r all.0, by some k (omega (arith, inside)) same all.1)

-- ---- one foreign key more

-- by the first foreign keys, where each is the first over its columns
abbrev pub IsReferredBy : Pairs → List Foreign → TableRow → ℕ → Type 0
IsReferredBy pairs foreigns row count = (place : ℕ) → place < count → place < length foreigns → first_place foreigns place ≡ place
    → IfSome (reference (get_or foreigns place no_foreign) row.values) (λ key. pairs place key row.number ≡ true)

pub referred_by_more : (foreigns : List Foreign) (old new : Pairs) (row : TableRow) (count : ℕ) → KeepPairs old new → IsReferredBy old foreigns row count
    → (first_place foreigns count ≡ count → IfSome (reference (get_or foreigns count no_foreign) row.values) (λ key. new count key row.number ≡ true)) → IsReferredBy new foreigns row (count + 1)
referred_by_more foreigns old new row count keep before one place below within first = elim (cases_lt place count) [
  | inl earlier ↦ at (reference (get_or foreigns place no_foreign) row.values) (before place earlier within first)
  | inr from ↦
      let same : count ≡ place = omega (arith, below, from) in
      subst (λ (k : ℕ). first_place foreigns k ≡ k → IfSome (reference (get_or foreigns k no_foreign) row.values) (λ key. new k key row.number ≡ true)) same one first
]
  where
    at : (o : Option (List Value)) → IfSome o (λ key. old place key row.number ≡ true) → IfSome o (λ key. new place key row.number ≡ true)
    at None there = tt
    at (Some key) there = keep place key row.number there

-- by them all, and so by each one over the same columns
pub referred_by_all : (foreigns : List Foreign) (pairs : Pairs) (row : TableRow) (count : ℕ) → length foreigns ≤ count → IsReferredBy pairs foreigns row count
    → IsReferred (λ place. pairs (first_place foreigns place)) foreigns row
referred_by_all foreigns pairs row count whole by place within =
    let first : ℕ = first_place foreigns place in
    let inside : first < length foreigns = first_within foreigns place within in
    let below : first < count = omega (arith, inside, whole) in
    subst (λ (o : Option (List Value)). IfSome o (λ key. pairs first key row.number ≡ true)) (first_refers foreigns place within row.values)
    (by first below inside (first_of_first foreigns place within))

-- ---- the next row

module _ (pairs : Pairs) (foreigns : List Foreign) (place : ℕ) (within : place < length foreigns) (key : List Value) where
  abbrev test : TableRow → Bool
  test = refers (get_or foreigns place no_foreign) key

  has_row : (row : TableRow) → IsReferred pairs foreigns row → test row ≡ true → pairs place key row.number ≡ true
  has_row row there = at (reference (get_or foreigns place no_foreign) row.values) (there place within)
    where
      at : (o : Option (List Value)) → IfSome o (λ own. pairs place own row.number ≡ true) → option_map_or (λ own. same_values own key) o false ≡ true → pairs place key row.number ≡ true
      at None pair is = absurd (true≢false (sym is))
      at (Some own) pair is = subst (λ (k : List Value). pairs place k row.number ≡ true) (same_exact own key is) pair

  pub next_of : (from : ℕ) (found : Option ℕ) (rows : List TableRow) → IsFirstFrom (pairs place key) from found → AreReferred pairs foreigns rows → IsNextOf test rows from found
  next_of from None rows none there = all-weaker (IsReferred pairs foreigns) (λ row. test row ≡ true → row.number < from) (λ row its is. below row (has_row row its is)) rows there
    where
      below : (row : TableRow) → pairs place key row.number ≡ true → row.number < from
      below row has = elim (cases_lt row.number from) [
        | inl less ↦ less
        | inr above ↦ absurd (true≢false (sym has ∙ none row.number above))
      ]
  next_of from (Some n) rows first there = (first.0, all-weaker (IsReferred pairs foreigns) (λ row. test row ≡ true → from ≤ row.number → n ≤ row.number) (λ row its is above. least row (has_row row its is) above) rows there)
    where
      least : (row : TableRow) → pairs place key row.number ≡ true → from ≤ row.number → n ≤ row.number
      least row has above = elim (cases_lt row.number n) [
        | inl less ↦ absurd (true≢false (sym has ∙ first.2 row.number above less))
        | inr within_it ↦ within_it
      ]
