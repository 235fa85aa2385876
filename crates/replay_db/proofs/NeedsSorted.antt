-- The rows that a statement needs are sorted, by table and number.
use Rattle.std.proofs.Common.{◌≡◌, ℕ, List, [], ◌∷◌, refl, sym, ap, ◌∙◌, Bool, true, false, arith, inl, inr}
use Rattle.std.specs.Prelude.{Option, Some, None, map, ◌&&◌, ◌==◌, nat_lt, if◌then◌else◌}
use Rattle.std.specs.declared.cmp.Ordering.{Ordering}
use Rattle.std.specs.declared.cmp.Ordering.TheVariants.{Less, Equal, Greater}
use Rattle.std.specs.Ordering.{nat_cmp, is_lt, is_eq, ordering_reverse}
use Rattle.std.specs.Cmp.Lexicographic.{slice_cmp}
use Rattle.std.proofs.lemmas.Bool.{cases_Bool}
use Rattle.std.proofs.lemmas.Bool.Decides.{nat_tests}
use Rattle.std.proofs.lemmas.Cmp.{nat_list_cmp_total}
use Rattle.std.proofs.lemmas.Map.Text.{is_eq-slice_cmp}
use Rattle.std.proofs.lemmas.Map.Lookups.{exact_bytes}
use Rattle.ldv_value.proofs.Booleans.{and-first, and-second, and-parts, and-from}
use Rattle.ldv_value.proofs.SameBytes.{bytes_eq-true, nat_eq-true}
use Rattle.ldv_value.proofs.Lists.{sorted-under}
use Rattle.ldv_value.proofs.Orderings.{is_lt-true}
use Rattle.sql_model.specs.Needs.{Versions, NeededRow, is_same_row, is_earlier_row, put_row, sorted_needs, needs_by, need_of, read_of}
use Rattle.sql_model.specs.Scope.{same_text}
use Rattle.sql_model.specs.Statements.{refusal_of}
use Rattle.sql_model.proofs.Equations.{need_is}
use Rattle.sql_laws.proofs.StatementParts.{need_parts}
use Rattle.package_layout.specs.inner.Order.{is_below_next, rises, row_after_table, need_below}
use Rattle.replay_db.specs.Types.{Statement, Table}
use Rattle.replay_db.proofs.TraceLists.{equal_itself}
use Rattle.ldv_value.proofs.Numbers.{less-trans}

-- ---- one row below another

abbrev pub row_under : NeededRow → NeededRow → Bool
row_under a b = row_after_table (slice_cmp nat_cmp a.table b.table) a.row b.row

-- the row is of the same table
under_in_table : (a b : NeededRow) → a.table ≡ b.table → row_under a b ≡ nat_lt a.row b.row
under_in_table a b same =
    let tied : slice_cmp nat_cmp a.table b.table ≡ Equal = ap (slice_cmp nat_cmp a.table) (sym same) ∙ equal_itself a.table in
    ap (λ (o : Ordering). row_after_table o a.row b.row) tied

less_number : (m n : ℕ) → is_lt (nat_cmp m n) ≡ true → nat_lt m n ≡ true
less_number m n h = grind (arith, nat_tests)

greater_number : (m n : ℕ) → is_lt (nat_cmp m n) ≡ false → (m == n) ≡ false → nat_lt n m ≡ true
greater_number m n h k = grind (arith, nat_tests)

back_less : (o : Ordering) → is_lt o ≡ false → is_eq o ≡ false → ordering_reverse o ≡ Less
back_less Less h k = cc
back_less Equal h k = cc
back_less Greater h k = refl

-- a row that is earlier, and one that is neither the same nor earlier
module _ (n m : NeededRow) (differ : is_same_row n m ≡ false) where
  abbrev earlier_by : Bool → Bool
  earlier_by same = if same then is_lt (nat_cmp n.row m.row) else is_lt (slice_cmp nat_cmp n.table m.table)

  earlier_under : is_earlier_row n m ≡ true → row_under n m ≡ true
  earlier_under earlier = elim (cases_Bool (same_text n.table m.table)) [
    | inl same ↦
        let numbers : is_lt (nat_cmp n.row m.row) ≡ true = sym (ap earlier_by same) ∙ earlier in
        under_in_table n m (bytes_eq-true n.table m.table same) ∙ less_number n.row m.row numbers
    | inr other ↦
        let tables : is_lt (slice_cmp nat_cmp n.table m.table) ≡ true = sym (ap earlier_by other) ∙ earlier in
        ap (λ (o : Ordering). row_after_table o n.row m.row) (is_lt-true (slice_cmp nat_cmp n.table m.table) tables)
  ]

  later_under : is_earlier_row n m ≡ false → row_under m n ≡ true
  later_under later = elim (cases_Bool (same_text n.table m.table)) [
    | inl same ↦
        let numbers : is_lt (nat_cmp n.row m.row) ≡ false = sym (ap earlier_by same) ∙ later in
        let apart : (n.row == m.row) ≡ false = sym (ap (λ (b : Bool). b && (n.row == m.row)) same) ∙ differ in
        under_in_table m n (sym (bytes_eq-true n.table m.table same)) ∙ greater_number n.row m.row numbers apart
    | inr other ↦
        let tables : is_lt (slice_cmp nat_cmp n.table m.table) ≡ false = sym (ap earlier_by other) ∙ later in
        let apart : is_eq (slice_cmp nat_cmp n.table m.table) ≡ false = is_eq-slice_cmp n.table m.table ∙ other in
        let less : slice_cmp nat_cmp m.table n.table ≡ Less = nat_list_cmp_total.antisymm m.table n.table ∙ back_less (slice_cmp nat_cmp n.table m.table) tables apart in
        ap (λ (o : Ordering). row_after_table o m.row n.row) less
  ]

-- the same row is below the same rows
same_under : (n m k : NeededRow) → is_same_row n m ≡ true → row_under m k ≡ true → row_under n k ≡ true
same_under n m k same under =
    let tables : n.table ≡ m.table = bytes_eq-true n.table m.table (and-first (same_text n.table m.table) (n.row == m.row) same) in
    let rows : n.row ≡ m.row = nat_eq-true n.row m.row (and-second (same_text n.table m.table) (n.row == m.row) same) in
    (λ j. row_after_table (slice_cmp nat_cmp (tables j) k.table) (rows j) k.row) ∙ under

-- ---- one row below another, below a third

under_by : (a b c : NeededRow) (o p : Ordering) → slice_cmp nat_cmp a.table b.table ≡ o → slice_cmp nat_cmp b.table c.table ≡ p
    → row_after_table o a.row b.row ≡ true → row_after_table p b.row c.row ≡ true → row_under a c ≡ true
under_by a b c Less Less first second h k =
    ap (λ (o : Ordering). row_after_table o a.row c.row) (nat_list_cmp_total.trans a.table b.table c.table first second)
under_by a b c Less Equal first second h k =
    ap (λ (o : Ordering). row_after_table o a.row c.row)
    (ap (slice_cmp nat_cmp a.table) (sym (exact_bytes b.table c.table second)) ∙ first)
under_by a b c Less Greater first second h k = cc
under_by a b c Equal Less first second h k =
    ap (λ (o : Ordering). row_after_table o a.row c.row)
    (ap (λ (t : List ℕ). slice_cmp nat_cmp t c.table) (exact_bytes a.table b.table first) ∙ second)
under_by a b c Equal Equal first second h k =
    under_in_table a c (exact_bytes a.table b.table first ∙ exact_bytes b.table c.table second) ∙ less-trans a.row b.row c.row h k
under_by a b c Equal Greater first second h k = cc
under_by a b c Greater p first second h k = cc

pub row_under_trans : (a b c : NeededRow) → row_under a b ≡ true → row_under b c ≡ true → row_under a c ≡ true
row_under_trans a b c h k =
    under_by a b c (slice_cmp nat_cmp a.table b.table) (slice_cmp nat_cmp b.table c.table) refl refl h k

-- ---- rising lists

same_first : (n m : NeededRow) → is_same_row n m ≡ true → (ks : List NeededRow) → is_below_next row_under m ks ≡ true → is_below_next row_under n ks ≡ true
same_first n m same [] h = refl
same_first n m same (k ∷ ks) h = same_under n m k same h

put_after : (m n : NeededRow) → row_under m n ≡ true → (ks : List NeededRow) → is_below_next row_under m ks ≡ true → is_below_next row_under m (put_row n ks) ≡ true
put_after m n under [] h = under
put_after m n under (k ∷ ks) h = elim (cases_Bool (is_same_row n k)) [
  | inl same ↦ rw same under
  | inr differ ↦ elim (cases_Bool (is_earlier_row n k)) [
    | inl earlier ↦ rw (differ, earlier) under
    | inr later ↦ rw (differ, later) h
  ]
]

put_rises : (n : NeededRow) (ms : List NeededRow) → rises row_under ms ≡ true → rises row_under (put_row n ms) ≡ true
put_rises n [] h = refl
put_rises n (m ∷ ms) h =
    let both = and-parts (is_below_next row_under m ms) (rises row_under ms) h in
    elim (cases_Bool (is_same_row n m)) [
      | inl same ↦ rw same (and-from (is_below_next row_under n ms) (rises row_under ms) (same_first n m same ms both.0) both.1)
      | inr differ ↦ elim (cases_Bool (is_earlier_row n m)) [
        | inl earlier ↦ rw (differ, earlier) (and-from (row_under n m) (rises row_under (m ∷ ms)) (earlier_under n m differ earlier) h)
        | inr later ↦ rw (differ, later) (and-from (is_below_next row_under m (put_row n ms)) (rises row_under (put_row n ms)) (put_after m n (later_under n m differ later) ms both.0) (put_rises n ms both.1))
      ]
    ]

rows_rise : (ns : List NeededRow) → rises row_under (sorted_needs ns) ≡ true
rows_rise [] = refl
rows_rise (n ∷ ns) = put_rises n (sorted_needs ns) (rows_rise ns)

pub needs_rise : (statement : Option Statement) (db : List Table) → rises row_under (need_of statement db) ≡ true
needs_rise None db = ap (rises row_under) (need_is None db)
needs_rise (Some s) db = ap (rises row_under) (need_parts s db) ∙ rows_rise (needs_by (refusal_of (Some s) db) s db)

-- what an event reads is sorted
pub reads_rise : (versions : Versions) (statement : Option Statement) (db : List Table)
    → rises need_below (map (read_of versions) (need_of statement db)) ≡ true
reads_rise versions statement db = sorted-under need_below (read_of versions) (need_of statement db) ∙ needs_rise statement db
