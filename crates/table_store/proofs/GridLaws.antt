-- Slots as a list.
use Rattle.std.proofs.Common.{◌≡◌, ◌≢◌, ℕ, zero, suc, ◌+◌, ◌<◌, ◌≤◌, inl, inr, Bool, true, false, ◌&&◌, List, [], ◌∷◌, ◌++◌, map, length, get_or, set, refl, ap, sym, subst, ◌∙◌, arith, get_or-set_same, get_or-set_other}
use Rattle.std.specs.Prelude.{ℤ, zip, Option, Some, None, IfSome, slice_get}
use Rattle.std.specs.List.{range_with_len, list_all}
use Rattle.std.proofs.lemmas.Bool.{cases_lt, cases_eq}
use Rattle.std.proofs.lemmas.List.FromFn.{length-map-range_with_len, get_or-map-range_with_len, map-range_with_len_more, fill_by_all}
use Rattle.std.proofs.lemmas.List.{get_or_past, length-set, length-map, get_or-map}
use Rattle.ldv_value.proofs.Booleans.{and-parts}
use Rattle.ldv_value.proofs.SameBytes.{nat_eq-true}
use Rattle.table_store.specs.Types.{Cmp, Value, Null}
use Rattle.ldv_value.specs.Cells.{value_at}
use Rattle.column_store.specs.Cells.{Cells, is_of_kind}
use Rattle.table_store.specs.Scans.{null_passes, passes_test}
use Rattle.column_store.specs.Columns.{values_at, kinds_of, no_cells, AreLong, ArePushed, AreSet, FitColumns}
use Rattle.table_store.specs.inner.Grid.{Slot, slots_of, slot_of, no_slot, new_slot, IsGrid, IsRising, fits_kinds, slot_null, slot_passes}
use Rattle.column_store.proofs.FlagLaws.{same_below}
pub use Rattle.column_store.proofs.ColumnLaws.{place_index}

pub slots_len : (numbers since : List ℕ) (standing : List Bool) (columns : List Cells) → length (slots_of numbers since standing columns) ≡ length numbers
slots_len numbers since standing columns = length-map-range_with_len (slot_of numbers since standing columns) 0 (length numbers)

pub slot_is : (numbers since : List ℕ) (standing : List Bool) (columns : List Cells) (slot : ℕ) → slot < length numbers → get_or (slots_of numbers since standing columns) slot no_slot ≡ slot_of numbers since standing columns slot
slot_is numbers since standing columns slot within = get_or-map-range_with_len (slot_of numbers since standing columns) 0 (length numbers) slot slot no_slot within (omega arith)

-- what is seen of a slot
module _ (numbers since : List ℕ) (standing : List Bool) (columns : List Cells) (seen : List Slot) (slots : slots_of numbers since standing columns ≡ seen) where
  pub seen_len : length seen ≡ length numbers
  seen_len = ap length (sym slots) ∙ slots_len numbers since standing columns

  pub seen_slot : (slot : ℕ) → slot < length numbers → get_or seen slot no_slot ≡ slot_of numbers since standing columns slot
  seen_slot slot within = ap (λ (l : List Slot). get_or l slot no_slot) (sym slots) ∙ slot_is numbers since standing columns slot within

  pub in_parts : (slot : ℕ) → slot < length seen → slot < length numbers
  in_parts slot within = omega (arith, within, seen_len)

  pub seen_within : (slot : ℕ) → slot < length seen → get_or seen slot no_slot ≡ slot_of numbers since standing columns slot
  seen_within slot within = seen_slot slot (in_parts slot within)

  pub found_seen : (number : ℕ) (place : Option ℕ) → IfSome place (λ k. (k < length numbers) × (get_or numbers k 0 ≡ number)) → IfSome place (λ slot. (slot < length seen) × ((get_or seen slot no_slot).number ≡ number))
  found_seen number None found = tt
  found_seen number (Some k) found = (omega (arith, found.0, seen_len), ap (λ (s : Slot). s.number) (seen_slot k found.0) ∙ found.1)

  pub absent_seen : (number : ℕ) → ((k : ℕ) → k < length numbers → get_or numbers k 0 ≢ number) → (k : ℕ) → k < length seen → (get_or seen k no_slot).number ≢ number
  absent_seen number absent k within is = absent k (in_parts k within) (ap (λ (s : Slot). s.number) (sym (seen_slot k (in_parts k within))) ∙ is)

pub grid_empty : (columns : List Cells) → AreLong 0 columns → IsGrid [] [] [] columns 0
grid_empty columns long = record {
  begins = refl;
  stands = refl;
  long = long;
  rising = λ i j less below. absurd (omega (arith, below));
  below = λ i below. absurd (omega (arith, below));
  few = omega arith;
}

pub same_list : {X : Type 0} (xs ys : List X) (d : X) → length xs ≡ length ys → ((k : ℕ) → k < length xs → get_or xs k d ≡ get_or ys k d) → xs ≡ ys
same_list [] [] d same at = refl
same_list [] (y ∷ ys) d same at = cc
same_list (x ∷ xs) [] d same at = cc
same_list (x ∷ xs) (y ∷ ys) d same at = λ j. at 0 (omega arith) j ∷ same_list xs ys d (omega (arith, same)) (λ k below. at (suc k) (omega (arith, below))) j

pub get_last : {X : Type 0} (xs : List X) (y d : X) (n : ℕ) → length xs ≡ n → get_or (xs ++ y ∷ []) n d ≡ y
get_last [] y d zero same = refl
get_last [] y d (suc n) same = cc
get_last (x ∷ xs) y d zero same = cc
get_last (x ∷ xs) y d (suc n) same = get_last xs y d n (omega (arith, same))

pub get_front : {X : Type 0} (xs : List X) (y d : X) (n : ℕ) → n < length xs → get_or (xs ++ y ∷ []) n d ≡ get_or xs n d
get_front [] y d n below = absurd (omega (arith, below))
get_front (x ∷ xs) y d zero below = refl
get_front (x ∷ xs) y d (suc n) below = get_front xs y d n (omega (arith, below))

pub long_more : {X : Type 0} (xs : List X) (y : X) → length (xs ++ y ∷ []) ≡ length xs + 1
long_more [] y = omega arith
long_more (x ∷ xs) y = omega (arith, long_more xs y)

-- where a number is, there is its place
pub only_place : (numbers : List ℕ) (number place : ℕ) → IsRising numbers → ((k : ℕ) → k < place → get_or numbers k 0 < number) → ((k : ℕ) → place ≤ k → k < length numbers → number ≤ get_or numbers k 0)
    → (k : ℕ) → k < length numbers → get_or numbers k 0 ≡ number → k ≡ place
only_place numbers number place rising before after k within is = elim (cases_lt k place) [
  | inl low ↦ absurd (omega (arith, before k low, is))
  | inr from ↦ elim (cases_lt place k) [
    | inl high ↦ absurd (omega (arith, rising place k high within, after place (omega arith) (omega (arith, high, within)), is))
    | inr to ↦ omega (arith, from, to)
  ]
]

-- one value of a function changed
pub changed_at : {X : Type 0} (f g : ℕ → X) (n slot : ℕ) (d v : X) → slot < n → g slot ≡ v → ((k : ℕ) → k ≢ slot → g k ≡ f k) → map g (range_with_len 0 n) ≡ set (map f (range_with_len 0 n)) slot v
changed_at f g n slot d v within here there =
    let old = map f (range_with_len 0 n) in
    let long : length old ≡ n = length-map-range_with_len f 0 n in
    sym (fill_by_all g (set old slot v) n d (length-set old slot v ∙ long) (λ k below. elim (cases_eq k slot) [
      | inl is ↦ ap (λ (m : ℕ). get_or (set old slot v) m d) is ∙ get_or-set_same old slot v d (subst (λ (m : ℕ). slot < m) (sym long) within) ∙ sym here ∙ ap g (sym is)
      | inr other ↦ get_or-set_other old slot k v d other ∙ get_or-map-range_with_len f 0 n k k d below (omega arith) ∙ sym (there k other)
    ]))

-- the row of a slot gone
pub slots_cleared : (numbers since : List ℕ) (standing : List Bool) (columns : List Cells) (slot : ℕ) → length standing ≡ length numbers → slot < length numbers
    → slots_of numbers since (set standing slot false) columns ≡ set (slots_of numbers since standing columns) slot (record (slot_of numbers since standing columns slot) { stands = false })
slots_cleared numbers since standing columns slot same within =
    let old = slot_of numbers since standing columns in
    changed_at old (slot_of numbers since (set standing slot false) columns) (length numbers) slot no_slot (record (old slot) { stands = false }) within
    (ap (λ b. record (old slot) { stands = b }) (get_or-set_same standing slot false false (subst (λ (n : ℕ). slot < n) (sym same) within)))
    (λ k other. ap (λ b. record (old k) { stands = b }) (get_or-set_other standing slot k false false other))

-- a slot that is set to what it is seen as
pub set_seen : (old seen : List Slot) (slot : ℕ) (there : Slot) (f : Slot → Slot) → old ≡ seen → get_or seen slot no_slot ≡ there → set old slot (f there) ≡ set seen slot (f (get_or seen slot no_slot))
set_seen old seen slot there f slots is = λ j. set (slots j) slot (f (sym is j))

-- cells by columns
module _ (old : List Cells) (values : List Value) (new : List Cells) where
  cell_of_slot : (columns : List Cells) (slot k : ℕ) → k < length columns → get_or (values_at columns slot) k Null ≡ get_or (get_or columns k no_cells).items slot Null
  cell_of_slot columns slot k within = get_or-map (λ (column : Cells). get_or column.items slot Null) columns k no_cells Null within

  values_long : (columns : List Cells) (slot : ℕ) → length (values_at columns slot) ≡ length columns
  values_long columns slot = length-map columns (λ (column : Cells). get_or column.items slot Null)

  -- all cells of a slot are the same
  pub same_values : (slot : ℕ) → length new ≡ length old → ((k : ℕ) → k < length old → get_or (get_or new k no_cells).items slot Null ≡ get_or (get_or old k no_cells).items slot Null) → values_at new slot ≡ values_at old slot
  same_values slot count cells = same_list (values_at new slot) (values_at old slot) Null (values_long new slot ∙ count ∙ sym (values_long old slot)) (λ k below.
      let in_new : k < length new = subst (λ (n : ℕ). k < n) (values_long new slot) below in
      let in_old : k < length old = subst (λ (n : ℕ). k < n) count in_new in
      cell_of_slot new slot k in_new ∙ cells k in_old ∙ sym (cell_of_slot old slot k in_old))

  -- the cells of a slot are these values
  these_values : (slot : ℕ) → length new ≡ length old → length values ≡ length old → ((k : ℕ) → k < length old → get_or (get_or new k no_cells).items slot Null ≡ get_or values k Null) → values_at new slot ≡ values
  these_values slot count width cells = same_list (values_at new slot) values Null (values_long new slot ∙ count ∙ sym width) (λ k below.
      let in_new : k < length new = subst (λ (n : ℕ). k < n) (values_long new slot) below in
      cell_of_slot new slot k in_new ∙ cells k (subst (λ (n : ℕ). k < n) count in_new))

  kind_of_column : (columns : List Cells) (k : ℕ) → k < length columns → get_or (kinds_of columns) k false ≡ (get_or columns k no_cells).text
  kind_of_column columns k within = get_or-map (λ (column : Cells). column.text) columns k no_cells false within

  pub same_kinds : length new ≡ length old → ((k : ℕ) → k < length old → (get_or new k no_cells).text ≡ (get_or old k no_cells).text) → kinds_of new ≡ kinds_of old
  same_kinds count kinds = same_list (kinds_of new) (kinds_of old) false (length-map new (λ (column : Cells). column.text) ∙ count ∙ sym (length-map old (λ (column : Cells). column.text))) (λ k below.
      let in_new : k < length new = subst (λ (n : ℕ). k < n) (length-map new (λ (column : Cells). column.text)) below in
      let in_old : k < length old = subst (λ (n : ℕ). k < n) count in_new in
      kind_of_column new k in_new ∙ kinds k in_old ∙ sym (kind_of_column old k in_old))

  -- columns with the same cells hold the same rows
  pub slots_same : (numbers since : List ℕ) (standing : List Bool) → length new ≡ length old → ((k : ℕ) → k < length old → (get_or new k no_cells).items ≡ (get_or old k no_cells).items)
      → slots_of numbers since standing new ≡ slots_of numbers since standing old
  slots_same numbers since standing count cells = same_below (slot_of numbers since standing new) (slot_of numbers since standing old) 0 (length numbers) (λ k below.
      ap (λ (l : List Value). record (slot_of numbers since standing old k) { values = l })
      (same_values k count (λ c in_old. ap (λ (l : List Value). get_or l k Null) (cells c in_old))))

  pub slots_pushed : (numbers since : List ℕ) (standing : List Bool) (next number time : ℕ) → IsGrid numbers since standing old next → ArePushed old values new → length values ≡ length old
      → slots_of (numbers ++ number ∷ []) (since ++ time ∷ []) (standing ++ true ∷ []) new ≡ slots_of numbers since standing old ++ new_slot time (record { number = number; values = values }) ∷ []
  slots_pushed numbers since standing next number time grid pushed width =
      let n = length numbers in
      let g : ℕ → Slot = slot_of (numbers ++ number ∷ []) (since ++ time ∷ []) (standing ++ true ∷ []) new in
      let f : ℕ → Slot = slot_of numbers since standing old in
      let make : ℕ → ℕ → Bool → List Value → Slot = λ m t b l. record { number = m; since = t; stands = b; values = l } in
      let front : map g (range_with_len 0 n) ≡ map f (range_with_len 0 n) = same_below g f 0 n (λ k below'.
      let below : k < n = omega (arith, below') in
      λ j. make (get_front numbers number 0 k below j) (get_front since time 0 k (subst (λ (m : ℕ). k < m) (sym grid.begins) below) j) (get_front standing true false k (subst (λ (m : ℕ). k < m) (sym grid.stands) below) j)
      (same_values k pushed.count (λ c in_old. ap (λ (l : List Value). get_or l k Null) (pushed.cells c in_old) ∙ get_front (get_or old c no_cells).items (get_or values c Null) Null k (subst (λ (m : ℕ). k < m) (sym (grid.long c in_old)) below)) j)) in
      let last : g n ≡ new_slot time (record { number = number; values = values }) =
      λ j. make (get_last numbers number 0 n refl j) (get_last since time 0 n grid.begins j) (get_last standing true false n grid.stands j)
      (these_values n pushed.count width (λ c in_old. ap (λ (l : List Value). get_or l n Null) (pushed.cells c in_old) ∙ get_last (get_or old c no_cells).items (get_or values c Null) Null n (grid.long c in_old)) j) in
      ap (λ (m : ℕ). map g (range_with_len 0 m)) (long_more numbers number) ∙ map-range_with_len_more g 0 n n (omega arith) ∙ (λ j. front j ++ last j ∷ [])

  pub grid_pushed : (numbers since : List ℕ) (standing : List Bool) (next number time : ℕ) → IsGrid numbers since standing old next → next ≤ number → ArePushed old values new
      → IsGrid (numbers ++ number ∷ []) (since ++ time ∷ []) (standing ++ true ∷ []) new (number + 1)
  grid_pushed numbers since standing next number time grid above pushed = record {
    begins = long_more since time ∙ ap (λ (n : ℕ). n + 1) grid.begins ∙ sym (long_more numbers number);
    stands = long_more standing true ∙ ap (λ (n : ℕ). n + 1) grid.stands ∙ sym (long_more numbers number);
    long = λ k in_new. let in_old : k < length old = subst (λ (n : ℕ). k < n) pushed.count in_new in
        ap length (pushed.cells k in_old) ∙ long_more _ _ ∙ ap (λ (n : ℕ). n + 1) (grid.long k in_old) ∙ sym (long_more numbers number);
    rising = λ i j less below'.
        let below : j < length numbers + 1 = subst (λ (n : ℕ). j < n) (long_more numbers number) below' in
        let first : get_or (numbers ++ number ∷ []) i 0 ≡ get_or numbers i 0 = get_front numbers number 0 i (omega (arith, less, below)) in
        elim (cases_lt j (length numbers)) [
          | inl within ↦ let second : get_or (numbers ++ number ∷ []) j 0 ≡ get_or numbers j 0 = get_front numbers number 0 j within in
              omega (arith, first, second, grid.rising i j less within)
          | inr past ↦ let second : get_or (numbers ++ number ∷ []) j 0 ≡ number = get_last numbers number 0 j (omega (arith, below, past)) in
              omega (arith, first, second, above, grid.below i (omega (arith, less, below)))
        ];
    below = λ i below'.
        let below : i < length numbers + 1 = subst (λ (n : ℕ). i < n) (long_more numbers number) below' in
        elim (cases_lt i (length numbers)) [
          | inl within ↦ let first : get_or (numbers ++ number ∷ []) i 0 ≡ get_or numbers i 0 = get_front numbers number 0 i within in omega (arith, first, above, grid.below i within)
          | inr past ↦ let second : get_or (numbers ++ number ∷ []) i 0 ≡ number = get_last numbers number 0 i (omega (arith, below, past)) in omega (arith, second)
        ];
    few = omega (arith, above, grid.few, long_more numbers number);
  }

  pub slots_replaced : (numbers since : List ℕ) (standing : List Bool) (next slot time : ℕ) → IsGrid numbers since standing old next → AreSet old slot values new → length values ≡ length old → slot < length numbers
      → slots_of numbers (set since slot time) standing new ≡ set (slots_of numbers since standing old) slot (record (slot_of numbers since standing old slot) { since = time; values = values })
  slots_replaced numbers since standing next slot time grid changed width within =
      let f : ℕ → Slot = slot_of numbers since standing old in
      let here : get_or (set since slot time) slot 0 ≡ time = get_or-set_same since slot time 0 (subst (λ (n : ℕ). slot < n) (sym grid.begins) within) in
      let put : values_at new slot ≡ values =
      these_values slot changed.count width (λ c in_old. ap (λ (l : List Value). get_or l slot Null) (changed.cells c in_old) ∙ get_or-set_same (get_or old c no_cells).items slot (get_or values c Null) Null (subst (λ (m : ℕ). slot < m) (sym (grid.long c in_old)) within)) in
      changed_at f (slot_of numbers (set since slot time) standing new) (length numbers) slot no_slot (record (f slot) { since = time; values = values }) within
      (λ j. record (f slot) { since = here j; values = put j })
      (λ k other.
      let left : get_or (set since slot time) k 0 ≡ get_or since k 0 = get_or-set_other since slot k time 0 other in
      let kept : values_at new k ≡ values_at old k =
      same_values k changed.count (λ c in_old. ap (λ (l : List Value). get_or l k Null) (changed.cells c in_old) ∙ get_or-set_other (get_or old c no_cells).items slot k (get_or values c Null) Null other) in
      λ j. record (f k) { since = left j; values = kept j })

  pub grid_same : (numbers since : List ℕ) (standing : List Bool) (next : ℕ) → IsGrid numbers since standing old next → length new ≡ length old → ((k : ℕ) → k < length old → (get_or new k no_cells).items ≡ (get_or old k no_cells).items) → IsGrid numbers since standing new next
  grid_same numbers since standing next grid count cells = record {
    begins = grid.begins;
    stands = grid.stands;
    long = λ k in_new. let in_old : k < length old = subst (λ (n : ℕ). k < n) count in_new in ap length (cells k in_old) ∙ grid.long k in_old;
    rising = grid.rising;
    below = grid.below;
    few = grid.few;
  }

  pub grid_replaced : (numbers since : List ℕ) (standing : List Bool) (next slot time : ℕ) → IsGrid numbers since standing old next → AreSet old slot values new → IsGrid numbers (set since slot time) standing new next
  grid_replaced numbers since standing next slot time grid changed = record {
    begins = length-set since slot time ∙ grid.begins;
    stands = grid.stands;
    long = λ k in_new. let in_old : k < length old = subst (λ (n : ℕ). k < n) changed.count in_new in
        ap length (changed.cells k in_old) ∙ length-set _ _ _ ∙ grid.long k in_old;
    rising = grid.rising;
    below = grid.below;
    few = grid.few;
  }

pub grid_cleared : (numbers since : List ℕ) (standing : List Bool) (columns : List Cells) (next slot : ℕ) (bit : Bool) → IsGrid numbers since standing columns next → IsGrid numbers since (set standing slot bit) columns next
grid_cleared numbers since standing columns next slot bit grid = record {
  begins = grid.begins;
  stands = length-set standing slot bit ∙ grid.stands;
  long = grid.long;
  rising = grid.rising;
  below = grid.below;
  few = grid.few;
}

-- ---- kinds

-- column by column
pub fit_columns : (columns : List Cells) (values : List Value) → list_all (λ p. is_of_kind p.0 p.1) (zip (kinds_of columns) values) ≡ true → length values ≡ length (kinds_of columns) → FitColumns columns values
fit_columns [] values fits long k within = absurd (omega (arith, within))
fit_columns (c ∷ columns) [] fits long k within = cc
fit_columns (c ∷ columns) (v ∷ values) fits long zero within = (and-parts _ _ fits).0
fit_columns (c ∷ columns) (v ∷ values) fits long (suc k) within = fit_columns columns values (and-parts _ _ fits).1 (omega (arith, long)) k (omega (arith, within))

pub fits_width : (columns : List Cells) (values : List Value) → fits_kinds (kinds_of columns) values ≡ true → length values ≡ length columns
fits_width columns values fits = nat_eq-true (length values) (length (kinds_of columns)) (and-parts _ _ fits).0 ∙ length-map columns (λ (column : Cells). column.text)

pub fits_columns : (columns : List Cells) (values : List Value) → fits_kinds (kinds_of columns) values ≡ true → FitColumns columns values
fits_columns columns values fits =
    let both = and-parts _ _ fits in
    fit_columns columns values both.1 (nat_eq-true (length values) (length (kinds_of columns)) both.0)

pub ruleset grid_rules = (slots_len, slot_is, seen_len, seen_slot)

-- ---- a column that is looked through

column_there : (columns : List Cells) (column : ℕ) (text : Bool) → slice_get (kinds_of columns) column ≡ Some text → (column < length columns) × ((get_or columns column no_cells).text ≡ text)
column_there [] column text is = cc
column_there (c ∷ columns) zero text is = (omega arith, some_is c.text text is) where
  some_is : (a b : Bool) → Some a ≡ Some b → a ≡ b
  some_is a b same = cc
column_there (c ∷ columns) (suc column) text is =
    let rest = column_there columns column text is in
    (omega (arith, rest.0), rest.1)

pub column_within : (columns : List Cells) (kinds : List Bool) → kinds_of columns ≡ kinds → (column : ℕ) → slice_get kinds column ≡ Some false → (column < length columns) × ((get_or columns column no_cells).text ≡ false)
column_within columns kinds seen column is = column_there columns column false (ap (λ (l : List Bool). slice_get l column) seen ∙ is)

pub and_turned : (a b : Bool) → (a && b) ≡ (b && a)
and_turned true true = refl
and_turned true false = refl
and_turned false true = refl
and_turned false false = refl

-- the cells that pass, among the rows that stand
pub scan_slot : (numbers since : List ℕ) (standing : List Bool) (columns : List Cells) (next column : ℕ) (op : Cmp) (constant : ℤ) → IsGrid numbers since standing columns next → column < length columns → (n : ℕ) (word : Bool)
    → (n < length standing → word ≡ get_or standing n false)
    → (passes_test op constant (get_or (get_or columns column no_cells).items n Null) && word)
    ≡ slot_passes column op constant (get_or (slots_of numbers since standing columns) n no_slot)
scan_slot numbers since standing columns next column op constant grid there n word is =
    let cells : List Value = (get_or columns column no_cells).items in
    let slots : List Slot = slots_of numbers since standing columns in
    elim (cases_lt n (length numbers)) [
      | inl within ↦
          let cell : get_or (values_at columns n) column Null ≡ get_or cells n Null = get_or-map (λ (c : Cells). get_or c.items n Null) columns column no_cells Null there in
          ap (λ b. passes_test op constant (get_or cells n Null) && b) (is (omega (arith, within, grid.stands)))
          ∙ and_turned (passes_test op constant (get_or cells n Null)) (get_or standing n false) ∙ ap (λ (v : Value). get_or standing n false && passes_test op constant v) (sym cell)
          ∙ ap (slot_passes column op constant) (sym (slot_is numbers since standing columns n within))
      | inr past ↦
          let none : get_or cells n Null ≡ Null = get_or_past cells n Null (omega (arith, past, grid.long column there)) in
          ap (λ (v : Value). passes_test op constant v && word) none
          ∙ ap (slot_passes column op constant) (sym (get_or_past slots n no_slot (omega (arith, past, slots_len numbers since standing columns))))
    ]

-- ---- the bits of the rows that stand

module _ (numbers since : List ℕ) (standing : List Bool) (columns : List Cells) (same : length standing ≡ length numbers) (n : ℕ) (word : Bool)
    (is : n < length standing → word ≡ get_or standing n false) (clear : length standing ≤ n → word ≡ false) where
  abbrev slots : List Slot
  slots = slots_of numbers since standing columns

  pub standing_slot : word ≡ (get_or slots n no_slot).stands
  standing_slot = elim (cases_lt n (length numbers)) [
    | inl within ↦ is (omega (arith, within, same)) ∙ ap (λ (s : Slot). s.stands) (sym (slot_is numbers since standing columns n within))
    | inr past ↦ clear (omega (arith, past, same)) ∙ ap (λ (s : Slot). s.stands) (sym (get_or_past slots n no_slot (omega (arith, past, slots_len numbers since standing columns))))
  ]

  -- those with NULL in a column, or another value
  pub nulls_slot : (column : ℕ) (is_null : Bool) → (word && null_passes is_null (value_at (values_at columns n) column)) ≡ slot_null column is_null (get_or slots n no_slot)
  nulls_slot column is_null = elim (cases_lt n (length numbers)) [
    | inl within ↦
        (λ j. is (omega (arith, within, same)) j && null_passes is_null (place_index (values_at columns n) column j))
        ∙ ap (slot_null column is_null) (sym (slot_is numbers since standing columns n within))
    | inr past ↦
        ap (λ b. b && null_passes is_null (value_at (values_at columns n) column)) (clear (omega (arith, past, same)))
        ∙ ap (slot_null column is_null) (sym (get_or_past slots n no_slot (omega (arith, past, slots_len numbers since standing columns))))
  ]
