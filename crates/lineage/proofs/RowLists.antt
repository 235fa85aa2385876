-- Sorted lists of needed rows, each once with its first rule: the union of two, and the list of rows in any
-- order.
use Rattle.std.proofs.Common.{◌≡◌, ◌∙◌, sym, ap, refl, subst, List, [], ◌∷◌, ◌++◌, map}
use Rattle.std.specs.Prelude.{if◌then◌else◌, ◌&&◌}
use Rattle.std.specs.List.{AllByRecursion}
use Rattle.std.specs.Cmp.{IsTotalOrder, unsigned_tied}
use Rattle.std.specs.Cmp.Lexicographic.{slice_cmp}
use Rattle.std.specs.Ordering.{nat_cmp, is_lt, is_eq, ordering_then, ordering_reverse}
use Rattle.std.specs.declared.cmp.Ordering.{Ordering}
use Rattle.std.specs.declared.cmp.Ordering.TheVariants.{Less, Equal, Greater}
use Rattle.std.proofs.lemmas.Cmp.{on_total, then_total, nat_cmp_total, nat_list_cmp_total}
use Rattle.std.proofs.lemmas.Map.Text.{is_eq-slice_cmp}
use Rattle.lineage.specs.Needing.{union_of_needs, into, united_by, needs_in_order}
use Rattle.sql_model.specs.declared.need.Need.{Need}
use Rattle.sql_model.specs.Needs.{NeededRow, Versions, is_same_row, is_earlier_row, put_row, sorted_needs, read_of}

-- ---- the order of rows

abbrev pub row_order : NeededRow → NeededRow → Ordering
row_order a b = ordering_then (slice_cmp nat_cmp a.table b.table) (nat_cmp a.row b.row)

total : IsTotalOrder row_order
total = then_total (on_total (λ (n : NeededRow). n.table) nat_list_cmp_total) (on_total (λ (n : NeededRow). n.row) nat_cmp_total)

abbrev by_order : Ordering → List NeededRow → List NeededRow → List NeededRow → List NeededRow
by_order Less less equal greater = less
by_order Equal less equal greater = equal
by_order Greater less equal greater = greater

module _ (n m : NeededRow) (less equal greater : List NeededRow) where
  abbrev tested : Ordering → Ordering → List NeededRow
  tested tables numbers =
      if is_eq tables && is_eq numbers then equal
      else (if (if is_eq tables then is_lt numbers else is_lt tables) then less else greater)

  tested_is : (tables numbers : Ordering) → tested tables numbers ≡ by_order (ordering_then tables numbers) less equal greater
  tested_is Less numbers = refl
  tested_is Equal Less = refl
  tested_is Equal Equal = refl
  tested_is Equal Greater = refl
  tested_is Greater numbers = refl

  by_tests : (if is_same_row n m then equal else (if is_earlier_row n m then less else greater))
      ≡ tested (slice_cmp nat_cmp n.table m.table) (nat_cmp n.row m.row)
  by_tests = sym (λ j.
      if is_eq-slice_cmp n.table m.table j && unsigned_tied n.row m.row j then equal
      else (if (if is_eq-slice_cmp n.table m.table j then is_lt (nat_cmp n.row m.row) else is_lt (slice_cmp nat_cmp n.table m.table)) then less else greater))

-- a row is put by the order
put_is : (n m : NeededRow) (ms : List NeededRow)
    → put_row n (m ∷ ms) ≡ by_order (row_order n m) (n ∷ m ∷ ms) (n ∷ ms) (m ∷ put_row n ms)
put_is n m ms =
    by_tests n m (n ∷ m ∷ ms) (n ∷ ms) (m ∷ put_row n ms)
    ∙ tested_is n m (n ∷ m ∷ ms) (n ∷ ms) (m ∷ put_row n ms) (slice_cmp nat_cmp n.table m.table) (nat_cmp n.row m.row)

-- ---- sorted lists

abbrev pub IsBefore : NeededRow → List NeededRow → Type 0
IsBefore n ms = AllByRecursion (λ m. row_order n m ≡ Less) ms

abbrev pub Rises : List NeededRow → Type 0
Rises [] = Unit {0}
Rises (n ∷ ns) = IsBefore n ns × Rises ns

before_all : (n m : NeededRow) → row_order n m ≡ Less → (ks : List NeededRow) → IsBefore m ks → IsBefore n ks
before_all n m less [] h = tt
before_all n m less (k ∷ ks) h = (total.trans n m k less h.0, before_all n m less ks h.1)

-- a row that ties with one is before what that one is before
tied_all : (n m : NeededRow) → row_order n m ≡ Equal → (ks : List NeededRow) → IsBefore n ks → IsBefore m ks
tied_all n m tie [] h = tt
tied_all n m tie (k ∷ ks) h = (tied_less n m k tie h.0, tied_all n m tie ks h.1)
  where
    tied_less : (n m k : NeededRow) → row_order n m ≡ Equal → row_order n k ≡ Less → row_order m k ≡ Less
    tied_less n m k tie less = sym (total.congr n m k tie) ∙ less

put_first : (n : NeededRow) (ms : List NeededRow) → IsBefore n ms → put_row n ms ≡ n ∷ ms
put_first n [] h = refl
put_first n (m ∷ ms) h =
    put_is n m ms ∙ (λ j. by_order (h.0 j) (n ∷ m ∷ ms) (n ∷ ms) (m ∷ put_row n ms))

sorted_is : (ns : List NeededRow) → Rises ns → sorted_needs ns ≡ ns
sorted_is [] h = refl
sorted_is (n ∷ ns) h = ap (put_row n) (sorted_is ns h.1) ∙ put_first n ns h.0

-- ---- two sorted lists as one

abbrev rows_by : Ordering → NeededRow → (List NeededRow → List NeededRow) → NeededRow → List NeededRow
    → List NeededRow → List NeededRow
rows_by Less n more m ms inside = n ∷ more (m ∷ ms)
rows_by Equal n more m ms inside = n ∷ more ms
rows_by Greater n more m ms inside = m ∷ inside

abbrev row_into : NeededRow → (List NeededRow → List NeededRow) → List NeededRow → List NeededRow
row_into n more [] = n ∷ more []
row_into n more (m ∷ ms) = rows_by (row_order n m) n more m ms (row_into n more ms)

abbrev pub rows_united : List NeededRow → List NeededRow → List NeededRow
rows_united [] ms = ms
rows_united (n ∷ ns) ms = row_into n (rows_united ns) ms

united_nil : (ns : List NeededRow) → rows_united ns [] ≡ ns
united_nil [] = refl
united_nil (n ∷ ns) = ap (λ (l : List NeededRow). n ∷ l) (united_nil ns)

module _ (k : NeededRow) where
  by_all : (r : Ordering) (n : NeededRow) (more : List NeededRow → List NeededRow) → row_order k n ≡ Less
      → ((ms : List NeededRow) → IsBefore k ms → IsBefore k (more ms))
      → (m : NeededRow) (ms inside : List NeededRow) → row_order k m ≡ Less → IsBefore k ms → IsBefore k inside
      → IsBefore k (rows_by r n more m ms inside)
  by_all Less n more first each m ms inside one rest all = (first, each (m ∷ ms) (one, rest))
  by_all Equal n more first each m ms inside one rest all = (first, each ms rest)
  by_all Greater n more first each m ms inside one rest all = (one, all)

  into_all : (n : NeededRow) (more : List NeededRow → List NeededRow) → row_order k n ≡ Less
      → ((ms : List NeededRow) → IsBefore k ms → IsBefore k (more ms))
      → (ms : List NeededRow) → IsBefore k ms → IsBefore k (row_into n more ms)
  into_all n more first each [] h = (first, each [] tt)
  into_all n more first each (m ∷ ms) h =
      by_all (row_order n m) n more first each m ms (row_into n more ms) h.0 h.1 (into_all n more first each ms h.1)

  united_after : (ns ms : List NeededRow) → IsBefore k ns → IsBefore k ms → IsBefore k (rows_united ns ms)
  united_after [] ms h g = g
  united_after (n ∷ ns) ms h g = into_all n (rows_united ns) h.0 (λ ls before. united_after ns ls h.1 before) ms g

-- where the first of the second list is before the first list, it comes first
second_first : (m : NeededRow) (ns ms : List NeededRow) → IsBefore m ns → rows_united ns (m ∷ ms) ≡ m ∷ rows_united ns ms
second_first m [] ms h = refl
second_first m (n ∷ ns) ms h =
    let after : row_order n m ≡ Greater = total.antisymm n m ∙ ap ordering_reverse h.0 in
    λ j. rows_by (after j) n (rows_united ns) m ms (row_into n (rows_united ns) ms)

-- a row is put into two lists as one
module _ (n : NeededRow) (ns : List NeededRow) (before : IsBefore n ns) where
  put_by : (r : Ordering) (m : NeededRow) (ms : List NeededRow) → row_order n m ≡ r → IsBefore m ms
      → put_row n (rows_united ns ms) ≡ row_into n (rows_united ns) ms
      → put_row n (rows_united ns (m ∷ ms)) ≡ rows_by r n (rows_united ns) m ms (row_into n (rows_united ns) ms)
  put_by Less m ms is rises rest =
      put_first n (rows_united ns (m ∷ ms)) (united_after n ns (m ∷ ms) before (is, before_all n m is ms rises))
  put_by Equal m ms is rises rest =
      ap (put_row n) (second_first m ns ms (tied_all n m is ns before))
      ∙ put_is n m (rows_united ns ms)
      ∙ (λ j. by_order (is j) (n ∷ m ∷ rows_united ns ms) (n ∷ rows_united ns ms) (m ∷ put_row n (rows_united ns ms)))
  put_by Greater m ms is rises rest =
      let less : row_order m n ≡ Less = total.antisymm m n ∙ ap ordering_reverse is in
      ap (put_row n) (second_first m ns ms (before_all m n less ns before))
      ∙ put_is n m (rows_united ns ms)
      ∙ (λ j. by_order (is j) (n ∷ m ∷ rows_united ns ms) (n ∷ rows_united ns ms) (m ∷ put_row n (rows_united ns ms)))
      ∙ ap (λ (l : List NeededRow). m ∷ l) rest

  put_united : (ms : List NeededRow) → Rises ms → put_row n (rows_united ns ms) ≡ row_into n (rows_united ns) ms
  put_united [] h = ap (put_row n) (united_nil ns) ∙ put_first n ns before ∙ ap (λ (l : List NeededRow). n ∷ l) (sym (united_nil ns))
  put_united (m ∷ ms) h = put_by (row_order n m) m ms refl h.0 (put_united ms h.1)

-- the rows of both lists
pub sorted_united : (ns ms : List NeededRow) → Rises ns → Rises ms → sorted_needs (ns ++ ms) ≡ rows_united ns ms
sorted_united [] ms h g = sorted_is ms g
sorted_united (n ∷ ns) ms h g = ap (put_row n) (sorted_united ns ms h.1 g) ∙ put_united n ns h.0 ms g

-- ---- rows in any order

-- one row and a list as one
one_united : (n : NeededRow) (ms : List NeededRow) → rows_united (n ∷ []) ms ≡ put_row n ms
one_united n [] = refl
one_united n (m ∷ ms) =
    as_put (row_order n m) (one_united n ms)
    ∙ sym (put_is n m ms)
  where
    as_put : (r : Ordering) → rows_united (n ∷ []) ms ≡ put_row n ms
        → rows_by r n (rows_united []) m ms (rows_united (n ∷ []) ms)
        ≡ by_order r (n ∷ m ∷ ms) (n ∷ ms) (m ∷ put_row n ms)
    as_put Less same = refl
    as_put Equal same = refl
    as_put Greater same = ap (λ (l : List NeededRow). m ∷ l) same

put_after : (k n : NeededRow) (ms : List NeededRow) → row_order k n ≡ Less → IsBefore k ms → IsBefore k (put_row n ms)
put_after k n ms less before = subst (IsBefore k) (one_united n ms) (united_after k (n ∷ []) ms (less, tt) before)

put_rises : (n : NeededRow) (ms : List NeededRow) → Rises ms → Rises (put_row n ms)
put_rises n [] h = (tt, tt)
put_rises n (m ∷ ms) h = subst Rises (sym (put_is n m ms)) (by (row_order n m) refl (put_rises n ms h.1))
  where
    by : (r : Ordering) → row_order n m ≡ r → Rises (put_row n ms) → Rises (by_order r (n ∷ m ∷ ms) (n ∷ ms) (m ∷ put_row n ms))
    by Less is rest = ((is, before_all n m is ms h.0), h)
    by Equal is rest = (tied_all m n (total.antisymm m n ∙ ap ordering_reverse is) ms h.0, h.1)
    by Greater is rest = (put_after m n ms (total.antisymm m n ∙ ap ordering_reverse is) h.0, rest)

pub needs_rise : (ns : List NeededRow) → Rises (sorted_needs ns)
needs_rise [] = tt
needs_rise (n ∷ ns) = put_rises n (sorted_needs ns) (needs_rise ns)

-- a list that is sorted, and one in any order
pub sorted_with : (ns ms : List NeededRow) → Rises ns → sorted_needs (ns ++ ms) ≡ rows_united ns (sorted_needs ms)
sorted_with [] ms h = refl
sorted_with (n ∷ ns) ms h = ap (put_row n) (sorted_with ns ms h.1) ∙ put_united n ns h.0 (sorted_needs ms) (needs_rise ms)

-- ---- a last row

-- in its place, unless the same row is there
abbrev add_row : NeededRow → List NeededRow → List NeededRow
add_row c [] = c ∷ []
add_row c (m ∷ ms) = by_order (row_order m c) (m ∷ add_row c ms) (m ∷ ms) (c ∷ m ∷ ms)

add_is : (c : NeededRow) (ms : List NeededRow) → rows_united ms (c ∷ []) ≡ add_row c ms
add_is c [] = refl
add_is c (m ∷ ms) = by (row_order m c) (add_is c ms)
  where
    by : (r : Ordering) → rows_united ms (c ∷ []) ≡ add_row c ms
        → rows_by r m (rows_united ms) c [] (row_into m (rows_united ms) []) ≡ by_order r (m ∷ add_row c ms) (m ∷ ms) (c ∷ m ∷ ms)
    by Less rest = ap (λ (l : List NeededRow). m ∷ l) rest
    by Equal rest = ap (λ (l : List NeededRow). m ∷ l) (united_nil ms)
    by Greater rest = ap (λ (l : List NeededRow). c ∷ m ∷ l) (united_nil ms)

-- a row before it in the list is put as if it weren't there
module _ (a c : NeededRow) where
  put_less : (m : NeededRow) (ms : List NeededRow) → row_order a m ≡ Less → put_row a (m ∷ ms) ≡ a ∷ m ∷ ms
  put_less m ms is = put_is a m ms ∙ (λ j. by_order (is j) (a ∷ m ∷ ms) (a ∷ ms) (m ∷ put_row a ms))

  put_same : (m : NeededRow) (ms : List NeededRow) → row_order a m ≡ Equal → put_row a (m ∷ ms) ≡ a ∷ ms
  put_same m ms is = put_is a m ms ∙ (λ j. by_order (is j) (a ∷ m ∷ ms) (a ∷ ms) (m ∷ put_row a ms))

  put_more : (m : NeededRow) (ms : List NeededRow) → row_order a m ≡ Greater → put_row a (m ∷ ms) ≡ m ∷ put_row a ms
  put_more m ms is = put_is a m ms ∙ (λ j. by_order (is j) (a ∷ m ∷ ms) (a ∷ ms) (m ∷ put_row a ms))

  add_later : (m : NeededRow) (ms : List NeededRow) → row_order m c ≡ Less → add_row c (m ∷ ms) ≡ m ∷ add_row c ms
  add_later m ms is = λ j. by_order (is j) (m ∷ add_row c ms) (m ∷ ms) (c ∷ m ∷ ms)

  add_there : (m : NeededRow) (ms : List NeededRow) → row_order m c ≡ Equal → add_row c (m ∷ ms) ≡ m ∷ ms
  add_there m ms is = λ j. by_order (is j) (m ∷ add_row c ms) (m ∷ ms) (c ∷ m ∷ ms)

  add_here : (m : NeededRow) (ms : List NeededRow) → row_order m c ≡ Greater → add_row c (m ∷ ms) ≡ c ∷ m ∷ ms
  add_here m ms is = λ j. by_order (is j) (m ∷ add_row c ms) (m ∷ ms) (c ∷ m ∷ ms)

  -- what ties with a row is to others as that is
  tied_second : (m : NeededRow) (r : Ordering) → row_order a m ≡ Equal → row_order m c ≡ r → row_order a c ≡ r
  tied_second m r tie is = total.congr a m c tie ∙ is

  less_tied : (m : NeededRow) → row_order a m ≡ Less → row_order m c ≡ Equal → row_order a c ≡ Less
  less_tied m less tie =
      total.antisymm a c
      ∙ ap ordering_reverse (sym (total.congr m c a tie) ∙ total.antisymm m a ∙ ap ordering_reverse less)

  more_both : (m : NeededRow) → row_order a m ≡ Greater → row_order m c ≡ Greater → row_order a c ≡ Greater
  more_both m one two =
      total.antisymm a c
      ∙ ap ordering_reverse
      (total.trans c m a (total.antisymm c m ∙ ap ordering_reverse two) (total.antisymm m a ∙ ap ordering_reverse one))

  put_add : (ms : List NeededRow) → put_row a (add_row c ms) ≡ add_row c (put_row a ms)
  put_add [] = put_is a c []
  put_add (m ∷ ms) = by (row_order m c) (row_order a m) (row_order a c) refl refl refl (put_add ms)
    where
      by : (mc am ac : Ordering) → row_order m c ≡ mc → row_order a m ≡ am → row_order a c ≡ ac
          → put_row a (add_row c ms) ≡ add_row c (put_row a ms)
          → put_row a (add_row c (m ∷ ms)) ≡ add_row c (put_row a (m ∷ ms))
      by Less Less ac mc am is rest =
          ap (put_row a) (add_later m ms mc) ∙ put_less m (add_row c ms) am
          ∙ sym (ap (add_row c) (put_less m ms am) ∙ add_later a (m ∷ ms) (total.trans a m c am mc) ∙ ap (λ (l : List NeededRow). a ∷ l) (add_later m ms mc))
      by Less Equal ac mc am is rest =
          ap (put_row a) (add_later m ms mc) ∙ put_same m (add_row c ms) am
          ∙ sym (ap (add_row c) (put_same m ms am) ∙ add_later a ms (tied_second m Less am mc))
      by Less Greater ac mc am is rest =
          ap (put_row a) (add_later m ms mc) ∙ put_more m (add_row c ms) am ∙ ap (λ (l : List NeededRow). m ∷ l) rest
          ∙ sym (ap (add_row c) (put_more m ms am) ∙ add_later m (put_row a ms) mc)
      by Equal Less ac mc am is rest =
          ap (put_row a) (add_there m ms mc) ∙ put_less m ms am
          ∙ sym (ap (add_row c) (put_less m ms am) ∙ add_later a (m ∷ ms) (less_tied m am mc) ∙ ap (λ (l : List NeededRow). a ∷ l) (add_there m ms mc))
      by Equal Equal ac mc am is rest =
          ap (put_row a) (add_there m ms mc) ∙ put_same m ms am
          ∙ sym (ap (add_row c) (put_same m ms am) ∙ add_there a ms (tied_second m Equal am mc))
      by Equal Greater ac mc am is rest =
          ap (put_row a) (add_there m ms mc) ∙ put_more m ms am
          ∙ sym (ap (add_row c) (put_more m ms am) ∙ add_there m (put_row a ms) mc)
      by Greater Less Less mc am is rest =
          ap (put_row a) (add_here m ms mc) ∙ put_less c (m ∷ ms) is
          ∙ sym (ap (add_row c) (put_less m ms am) ∙ add_later a (m ∷ ms) is ∙ ap (λ (l : List NeededRow). a ∷ l) (add_here m ms mc))
      by Greater Less Equal mc am is rest =
          ap (put_row a) (add_here m ms mc) ∙ put_same c (m ∷ ms) is
          ∙ sym (ap (add_row c) (put_less m ms am) ∙ add_there a (m ∷ ms) is)
      by Greater Less Greater mc am is rest =
          ap (put_row a) (add_here m ms mc) ∙ put_more c (m ∷ ms) is ∙ ap (λ (l : List NeededRow). c ∷ l) (put_less m ms am)
          ∙ sym (ap (add_row c) (put_less m ms am) ∙ add_here a (m ∷ ms) is)
      by Greater Equal ac mc am is rest =
          let after : row_order a c ≡ Greater = tied_second m Greater am mc in
          ap (put_row a) (add_here m ms mc) ∙ put_more c (m ∷ ms) after ∙ ap (λ (l : List NeededRow). c ∷ l) (put_same m ms am)
          ∙ sym (ap (add_row c) (put_same m ms am) ∙ add_here a ms after)
      by Greater Greater ac mc am is rest =
          let after : row_order a c ≡ Greater = more_both m am mc in
          ap (put_row a) (add_here m ms mc) ∙ put_more c (m ∷ ms) after ∙ ap (λ (l : List NeededRow). c ∷ l) (put_more m ms am)
          ∙ sym (ap (add_row c) (put_more m ms am) ∙ add_here m (put_row a ms) mc)

-- rows in any order, and one after them
added_last : (c : NeededRow) (ns : List NeededRow) → sorted_needs (ns ++ c ∷ []) ≡ add_row c (sorted_needs ns)
added_last c [] = refl
added_last c (n ∷ ns) = ap (put_row n) (added_last c ns) ∙ put_add n c (sorted_needs ns)

pub sorted_last : (ns : List NeededRow) (c : NeededRow) → sorted_needs (ns ++ c ∷ []) ≡ rows_united (sorted_needs ns) (c ∷ [])
sorted_last ns c = added_last c ns ∙ sym (add_is c (sorted_needs ns))

-- ---- at their versions

module _ (versions : Versions) where
  abbrev read : NeededRow → Need
  read n = read_of versions n

  read_by : (r : Ordering) (n : NeededRow) (more : List NeededRow → List NeededRow) (reads : List Need → List Need)
      → ((ms : List NeededRow) → reads (map read ms) ≡ map read (more ms)) → (m : NeededRow) (ms inside : List NeededRow)
      → united_by r (read n) reads (read m) (map read ms) (map read inside) ≡ map read (rows_by r n more m ms inside)
  read_by Less n more reads same m ms inside = ap (λ (l : List Need). read n ∷ l) (same (m ∷ ms))
  read_by Equal n more reads same m ms inside = ap (λ (l : List Need). read n ∷ l) (same ms)
  read_by Greater n more reads same m ms inside = refl

  read_into : (n : NeededRow) (more : List NeededRow → List NeededRow) (reads : List Need → List Need)
      → ((ms : List NeededRow) → reads (map read ms) ≡ map read (more ms)) → (ms : List NeededRow)
      → into (read n) reads (map read ms) ≡ map read (row_into n more ms)
  read_into n more reads same [] = ap (λ (l : List Need). read n ∷ l) (same [])
  read_into n more reads same (m ∷ ms) =
      ap (united_by (row_order n m) (read n) reads (read m) (map read ms)) (read_into n more reads same ms)
      ∙ read_by (row_order n m) n more reads same m ms (row_into n more ms)

  pub read_united : (ns ms : List NeededRow) → union_of_needs (map read ns) (map read ms) ≡ map read (rows_united ns ms)
  read_united [] ms = refl
  read_united (n ∷ ns) ms = read_into n (rows_united ns) (union_of_needs (map read ns)) (read_united ns) ms

  -- rows in any order
  pub read_once : (ns : List NeededRow) → needs_in_order (map read ns) ≡ map read (sorted_needs ns)
  read_once [] = refl
  read_once (n ∷ ns) =
      ap (union_of_needs (read n ∷ [])) (read_once ns)
      ∙ read_united (n ∷ []) (sorted_needs ns)
      ∙ ap (map read) (one_united n (sorted_needs ns))

  -- a list that is sorted, and one in any order
  pub read_with : (ns ms : List NeededRow) → Rises ns
      → union_of_needs (map read ns) (needs_in_order (map read ms)) ≡ map read (sorted_needs (ns ++ ms))
  read_with ns ms h =
      ap (union_of_needs (map read ns)) (read_once ms)
      ∙ read_united ns (sorted_needs ms)
      ∙ ap (map read) (sym (sorted_with ns ms h))

  -- and a last row
  pub read_last : (ns : List NeededRow) (c : NeededRow)
      → union_of_needs (map read (sorted_needs ns)) (read c ∷ []) ≡ map read (sorted_needs (ns ++ c ∷ []))
  read_last ns c = read_united (sorted_needs ns) (c ∷ []) ∙ ap (map read) (sym (sorted_last ns c))
