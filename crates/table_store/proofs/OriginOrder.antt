-- Rows in order, each once: what is in order and has the same rows is the same list.
use Rattle.std.proofs.Common.{◌≡◌, ◌∙◌, List, [], ◌∷◌, map, refl, sym, ap, Bool, true, false, ◌||◌, inl, inr}
use Rattle.std.specs.BTreeMap.{is_at}
use Rattle.std.specs.BTreeSet.{BTreeSet, contains, IsOrdered}
use Rattle.std.specs.Cmp.{IsTotalOrder}
use Rattle.std.specs.Cmp.Lexicographic.{slice_cmp}
use Rattle.std.specs.FinMap.{nat_cmp-IsAntisymmetric, slice_cmp-IsAntisymmetric}
use Rattle.std.specs.List.{AllByRecursion, list_any}
use Rattle.std.specs.List.Sorted.{IsStrictlySortedBy}
use Rattle.std.specs.Ordering.{is_eq, nat_cmp, ordering_reverse}
use Rattle.std.specs.declared.cmp.Ordering.{Ordering}
use Rattle.std.specs.declared.cmp.Ordering.TheVariants.{Less, Equal, Greater}
use Rattle.std.proofs.lemmas.Bool.{cases_Bool}
use Rattle.std.proofs.lemmas.Cmp.{on_total, then_total, nat_cmp_total, nat_list_cmp_total, tied_itself}
use Rattle.ldv_value.proofs.Booleans.{and-parts, or-cases}
use Rattle.ldv_value.proofs.Orderings.{is_eq-true, then-tied}
use Rattle.sql_model.specs.QueryAnswer.{Origin}
use Rattle.table_store.specs.Histories.{StoreHistory}
use Rattle.table_store.specs.Referring.{in_order, origin_now, origin_order, placed_by, with_origin}
use Rattle.table_store.specs.Types.{Member}
use Rattle.table_store.specs.inner.ParentSet.{RowName, name_order, named_now}

-- ---- the order

pub origin_total : IsTotalOrder origin_order
origin_total = then_total (on_total (λ (o : Origin). o.table) nat_list_cmp_total) (on_total (λ (o : Origin). o.row) nat_cmp_total)

abbrev pub same : Origin → Origin → Bool
same a b = is_eq (origin_order a b)

pub exact : (a b : Origin) → origin_order a b ≡ Equal → a ≡ b
exact a b is =
    let both = and-parts (is_eq (slice_cmp nat_cmp a.table b.table)) (is_eq (nat_cmp a.row b.row))
    (sym (then-tied (slice_cmp nat_cmp a.table b.table) (nat_cmp a.row b.row)) ∙ ap is_eq is) in
    let table : a.table ≡ b.table = slice_cmp-IsAntisymmetric nat_cmp-IsAntisymmetric a.table b.table (is_eq-true (slice_cmp nat_cmp a.table b.table) both.0) in
    let row : a.row ≡ b.row = nat_cmp-IsAntisymmetric a.row b.row (is_eq-true (nat_cmp a.row b.row) both.1) in
    λ j. record { table = table j; row = row j }

pub same_is : (a b : Origin) → same a b ≡ true → a ≡ b
same_is a b is = exact a b (is_eq-true (origin_order a b) is)

pub itself : (a : Origin) → origin_order a a ≡ Equal
itself a = tied_itself origin_total a

turned : (a b : Origin) → origin_order a b ≡ Greater → origin_order b a ≡ Less
turned a b is = origin_total.antisymm b a ∙ ap ordering_reverse is

abbrev pub has : Origin → List Origin → Bool
has q os = list_any (λ o. same q o) os

abbrev Below : Origin → List Origin → Type 0
Below o os = AllByRecursion (λ p. origin_order o p ≡ Less) os

abbrev pub Rising : List Origin → Type 0
Rising os = IsStrictlySortedBy origin_order os

-- ---- a row that is put in its place

below_trans : (a b : Origin) → origin_order a b ≡ Less → (os : List Origin) → Below b os → Below a os
below_trans a b less [] below = tt
below_trans a b less (o ∷ os) below = (origin_total.trans a b o less below.0, below_trans a b less os below.1)

below_placed : (a o p : Origin) (ps : List Origin) (r : Ordering) → origin_order a o ≡ Less → Below a (p ∷ ps) → Below a (with_origin o ps)
    → Below a (placed_by r o p ps (with_origin o ps))
below_placed a o p ps Less less below more = (less, below)
below_placed a o p ps Equal less below more = below
below_placed a o p ps Greater less below more = (below.0, more)

below_put : (a o : Origin) (os : List Origin) → origin_order a o ≡ Less → Below a os → Below a (with_origin o os)
below_put a o [] less below = (less, tt)
below_put a o (p ∷ ps) less below = below_placed a o p ps (origin_order o p) less below (below_put a o ps less below.1)

rising_placed : (o p : Origin) (ps : List Origin) (r : Ordering) → origin_order o p ≡ r → Rising (p ∷ ps) → Rising (with_origin o ps)
    → Rising (placed_by r o p ps (with_origin o ps))
unfolding IsStrictlySortedBy
rising_placed o p ps Less less is more = ((less, below_trans o p less ps is.0), is)
rising_placed o p ps Equal tied is more = is
rising_placed o p ps Greater greater is more = (below_put p o ps (turned o p greater) is.0, more)

rising_put : (o : Origin) (os : List Origin) → Rising os → Rising (with_origin o os)
unfolding IsStrictlySortedBy
rising_put o [] is = (tt, tt)
rising_put o (p ∷ ps) is = rising_placed o p ps (origin_order o p) refl is (rising_put o ps is.1)

pub rising_all : (os : List Origin) → Rising (in_order os)
unfolding IsStrictlySortedBy
rising_all [] = tt
rising_all (o ∷ os) = rising_put o (in_order os) (rising_all os)

-- ---- the rows that are there

once : (a b : Bool) → (a || b) ≡ (a || (a || b))
once true b = refl
once false b = refl

swap : (a b c : Bool) → (a || (b || c)) ≡ (b || (a || c))
swap true true c = refl
swap true false c = refl
swap false true c = refl
swap false false c = refl

has_placed : (q o p : Origin) (ps : List Origin) (r : Ordering) → origin_order o p ≡ r → has q (with_origin o ps) ≡ (same q o || has q ps)
    → has q (placed_by r o p ps (with_origin o ps)) ≡ (same q o || (same q p || has q ps))
has_placed q o p ps Less is more = refl
has_placed q o p ps Equal is more = once (same q p) (has q ps) ∙ ap (λ (x : Origin). same q x || (same q p || has q ps)) (sym (exact o p is))
has_placed q o p ps Greater is more = ap (λ (b : Bool). same q p || b) more ∙ swap (same q p) (same q o) (has q ps)

has_put : (q o : Origin) (os : List Origin) → has q (with_origin o os) ≡ (same q o || has q os)
has_put q o [] = refl
has_put q o (p ∷ ps) = has_placed q o p ps (origin_order o p) refl (has_put q o ps)

pub has_all : (q : Origin) (os : List Origin) → has q (in_order os) ≡ has q os
has_all q [] = refl
has_all q (o ∷ os) = has_put q o (in_order os) ∙ ap (λ (b : Bool). same q o || b) (has_all q os)

here : (o : Origin) (os : List Origin) → has o (o ∷ os) ≡ true
here o os = ap (λ (r : Ordering). is_eq r || has o os) (itself o)

below_lacks : (o : Origin) (os : List Origin) → Below o os → has o os ≡ false
below_lacks o [] below = refl
below_lacks o (p ∷ ps) below = ap (λ (r : Ordering). is_eq r || has o ps) below.0 ∙ below_lacks o ps below.1

has_above : (a q : Origin) (os : List Origin) → Below a os → has q os ≡ true → origin_order a q ≡ Less
has_above a q [] below is = cc
has_above a q (p ∷ ps) below is = elim (or-cases (same q p) (has q ps) is) [
  | inl hit ↦ ap (origin_order a) (same_is q p hit) ∙ below.0
  | inr more ↦ has_above a q ps below.1 more
]

-- ---- two lists in order with the same rows

module _ (x y : Origin) (xs ys : List Origin) (below_x : Below x xs) (below_y : Below y ys)
    (alike : (q : Origin) → has q (x ∷ xs) ≡ has q (y ∷ ys)) where
  by_order : (r : Ordering) → origin_order x y ≡ r → x ≡ y
  by_order Equal is = exact x y is
  by_order Less is =
      let there : has x (y ∷ ys) ≡ true = sym (alike x) ∙ here x xs in
      let later : has x ys ≡ true = sym (ap (λ (r : Ordering). is_eq r || has x ys) is) ∙ there in
      let wrong : Less ≡ Greater = sym (has_above y x ys below_y later) ∙ origin_total.antisymm y x ∙ ap ordering_reverse is in
      cc
  by_order Greater is =
      let there : has y (x ∷ xs) ≡ true = alike y ∙ here y ys in
      let later : has y xs ≡ true = sym (ap (λ (r : Ordering). is_eq r || has y xs) (turned x y is)) ∙ there in
      let wrong : Less ≡ Greater = sym (has_above x y xs below_x later) ∙ is in
      cc

  firsts : x ≡ y
  firsts = by_order (origin_order x y) refl

  rests : (q : Origin) → has q xs ≡ has q ys
  rests q = elim (cases_Bool (same q x)) [
    | inl hit ↦
        let at_x : q ≡ x = same_is q x hit in
        ap (λ (o : Origin). has o xs) at_x ∙ below_lacks x xs below_x
        ∙ sym (ap (λ (o : Origin). has o ys) (at_x ∙ firsts) ∙ below_lacks y ys below_y)
    | inr miss ↦
        let other : same q y ≡ false = ap (same q) (sym firsts) ∙ miss in
        sym (ap (λ (b : Bool). b || has q xs) miss) ∙ alike q ∙ ap (λ (b : Bool). b || has q ys) other
  ]

pub one_list : (xs ys : List Origin) → Rising xs → Rising ys → ((q : Origin) → has q xs ≡ has q ys) → xs ≡ ys
unfolding IsStrictlySortedBy
one_list [] [] one two alike = refl
one_list [] (y ∷ ys) one two alike = let wrong : false ≡ true = alike y ∙ here y ys in cc
one_list (x ∷ xs) [] one two alike = let wrong : false ≡ true = sym (alike x) ∙ here x xs in cc
one_list (x ∷ xs) (y ∷ ys) one two alike =
    λ j. firsts x y xs ys one.0 two.0 alike j ∷ one_list xs ys one.1 two.1 (rests x y xs ys one.0 two.0 alike) j

-- ---- a set of rows by the names of their tables

abbrev pub origin_of : RowName → Origin
origin_of name = record { table = name.0; row = name.1 }

names_below : (name : RowName) (names : List RowName) → AllByRecursion (λ other. name_order name other ≡ Less) names → Below (origin_of name) (map origin_of names)
names_below name [] below = tt
names_below name (other ∷ names) below = (below.0, names_below name names below.1)

names_rising : (names : List RowName) → IsStrictlySortedBy name_order names → Rising (map origin_of names)
unfolding IsStrictlySortedBy
names_rising [] is = tt
names_rising (name ∷ names) is = (names_below name names is.0, names_rising names is.1)

names_have : (q : RowName) (names : List RowName) → has (origin_of q) (map origin_of names) ≡ list_any (is_at (name_order q)) names
names_have q [] = refl
names_have q (name ∷ names) = ap (λ (b : Bool). same (origin_of q) (origin_of name) || b) (names_have q names)

at_versions : (store : StoreHistory) (names : List RowName) → map (named_now store) names ≡ map (origin_now store) (map origin_of names)
at_versions store [] = refl
at_versions store (name ∷ names) = ap (λ (l : List Member). named_now store name ∷ l) (at_versions store names)

pub collected : (store : StoreHistory) (found : BTreeSet RowName) (os : List Origin) → IsOrdered name_order found
    → ((q : RowName) → contains name_order found q ≡ has (origin_of q) os)
    → map (named_now store) found.keys ≡ map (origin_now store) (in_order os)
collected store found os ordered alike =
    at_versions store found.keys
    ∙ ap (map (origin_now store)) (one_list (map origin_of found.keys) (in_order os) (names_rising found.keys ordered) (rising_all os)
    (λ q. names_have (q.table, q.row) found.keys ∙ alike (q.table, q.row) ∙ sym (has_all q os)))
