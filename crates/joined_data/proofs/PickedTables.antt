-- The tables of a package, with their rows and reasons, are picked again out of its joined package.
use Rattle.std.proofs.Common.{◌≡◌, ℕ, List, [], ◌∷◌, refl, sym, ap, ◌∙◌, Bool, true, false, cond, inl, inr}
use Rattle.std.specs.Prelude.{Option, Some, None, bytes_eq, map, filter, find, option_map, ◌&&◌, ◌==◌}
use Rattle.std.specs.List.{filter_map, flat_map, cons_option}
use Rattle.std.specs.Option.{option_or}
use Rattle.std.specs.Ordering.{nat_cmp}
use Rattle.std.specs.Cmp.Lexicographic.{slice_cmp}
use Rattle.std.specs.declared.cmp.Ordering.TheVariants.{Less, Equal}
use Rattle.std.proofs.lemmas.Bool.{cases_Bool, and_from, eq-eqb}
use Rattle.std.proofs.lemmas.Cmp.{nat_cmp_total, nat_list_cmp_total, tied_itself}
use Rattle.std.proofs.lemmas.Map.Lookups.{exact_bytes}
use Rattle.ldv_value.proofs.Booleans.{and-false}
use Rattle.ldv_value.proofs.Lists.{find-append}
use Rattle.ldv_value.proofs.SameBytes.{bytes_eq-true, bytes_eq-itself, nat_eq-true}
use Rattle.sql_model.specs.Scope.{same_text}
use Rattle.run_model.specs.Between.{IsIn}
use Rattle.run_model.specs.Package.{own_row, own_table}
use Rattle.run_laws.proofs.ListMembers.{any_in, in_any}
use Rattle.joined_data.specs.Types.{Table, TableRow, Package, PackedRow, PackedTable}
use Rattle.joined_data.specs.declared.joined.Reason.{Reason}
use Rattle.joined_data.specs.Merging.{merged}
use Rattle.joined_data.specs.Joined.{row_reason, table_reasons, run_in, is_among, is_reason, packed_by, picked_row, picked_table, row_cmp, table_cmp}
use Rattle.joined_data.proofs.Cuts.{Rising}
use Rattle.joined_data.proofs.Picking.{first_picked, merged_none}

-- ---- keys that are equal

pub equal_numbers : (a b : ℕ) → nat_cmp a b ≡ Equal → a ≡ b
equal_numbers a b is =
    let one : slice_cmp nat_cmp (a ∷ []) (b ∷ []) ≡ Equal = rw is refl in
    let same : (a ∷ []) ≡ (b ∷ []) = exact_bytes (a ∷ []) (b ∷ []) one in cc

-- ---- searches

module _ {X : Type 0} (q : X → Bool) where
  find_none : (xs : List X) → ((x : X) → IsIn x xs → q x ≡ false) → find q xs ≡ None
  find_none [] none = refl
  find_none (x ∷ xs) none = rw (none x (inl refl)) (find_none xs (λ y is. none y (inr is)))

or_nothing : {A : Type 0} (a b : Option A) → b ≡ None → option_or a b ≡ a
or_nothing None b none = none
or_nothing (Some x) b none = refl

other_text : (a b : List ℕ) → (a ≡ b → ⊥) → same_text a b ≡ false
other_text a b apart = elim (cases_Bool (same_text a b)) [
  | inl same ↦ absurd (apart (bytes_eq-true a b same))
  | inr other ↦ other
]

other_number : (a b : ℕ) → (a ≡ b → ⊥) → (a == b) ≡ false
other_number a b apart = elim (cases_Bool (a == b)) [
  | inl same ↦ absurd (apart (nat_eq-true a b same))
  | inr other ↦ other
]

-- the reason of another table, or of another row
of_other_table : (name : List ℕ) (n : ℕ) (reason : Reason) → (reason.table ≡ name → ⊥) → is_reason name n reason ≡ false
of_other_table name n reason apart = ap (λ (b : Bool). b && reason.row == n) (other_text reason.table name apart)

of_other_row : (name : List ℕ) (n : ℕ) (reason : Reason) → (reason.row ≡ n → ⊥) → is_reason name n reason ≡ false
of_other_row name n reason apart = ap (λ (b : Bool). same_text reason.table name && b) (other_number reason.row n apart) ∙ and-false (same_text reason.table name)

its_own : (name : List ℕ) (row : PackedRow) → is_reason name row.number (row_reason name row) ≡ true
its_own name row = and_from (same_text name name) (row.number == row.number) (bytes_eq-itself name) (eq-eqb row.number row.number refl)

abbrev pub number_in : PackedRow → ℕ
number_in row = row.number

abbrev pub name_in : PackedTable → List ℕ
name_in table = table.name

-- ---- the reason of a row, among those of its table

in_rows : (name : List ℕ) (rows : List PackedRow) → Rising number_in nat_cmp rows → (row : PackedRow) → IsIn row rows
    → find (is_reason name row.number) (map (row_reason name) rows) ≡ Some (row_reason name row)
in_rows name [] sorted row is = absurd is
in_rows name (r ∷ rs) sorted row (inl same) =
    let hit : is_reason name row.number (row_reason name r) ≡ true = ap (λ (x : PackedRow). is_reason name row.number (row_reason name x)) (sym same) ∙ its_own name row in
    rw hit (ap (λ (x : PackedRow). Some (row_reason name x)) (sym same))
in_rows name (r ∷ rs) sorted row (inr more) =
    let apart : (r.number ≡ row.number → ⊥) = λ same. differ r row (sorted.0 row more) same in
    rw (of_other_row name row.number (row_reason name r) apart) (in_rows name rs sorted.1 row more)
  where
    differ : (a b : PackedRow) → nat_cmp a.number b.number ≡ Less → a.number ≡ b.number → ⊥
    differ a b less same =
        let never : Less ≡ Equal = sym less ∙ ap (λ (n : ℕ). nat_cmp n b.number) same ∙ tied_itself nat_cmp_total b.number in cc

no_row : (name : List ℕ) (n : ℕ) (rows : List PackedRow) → ((row : PackedRow) → IsIn row rows → row.number ≡ n → ⊥)
    → find (is_reason name n) (map (row_reason name) rows) ≡ None
no_row name n [] none = refl
no_row name n (r ∷ rs) none = rw (of_other_row name n (row_reason name r) (none r (inl refl))) (no_row name n rs (λ row is. none row (inr is)))

-- ---- among those of all tables

not_there : (name : List ℕ) (n : ℕ) (t : PackedTable) → (t.name ≡ name → ⊥) → find (is_reason name n) (table_reasons t) ≡ None
not_there name n t apart = over t.rows
  where
    over : (rows : List PackedRow) → find (is_reason name n) (map (row_reason t.name) rows) ≡ None
    over [] = refl
    over (r ∷ rs) = rw (of_other_table name n (row_reason t.name r) apart) (over rs)

nowhere : (name : List ℕ) (n : ℕ) (ts : List PackedTable) → ((t : PackedTable) → IsIn t ts → t.name ≡ name → ⊥)
    → find (is_reason name n) (flat_map table_reasons ts) ≡ None
nowhere name n [] none = refl
nowhere name n (t ∷ ts) none =
    find-append (is_reason name n) (table_reasons t) (flat_map table_reasons ts)
    ∙ (λ j. option_or (not_there name n t (none t (inl refl)) j) (nowhere name n ts (λ u is. none u (inr is)) j))

in_table : (n : ℕ) (ts : List PackedTable) → Rising name_in (slice_cmp nat_cmp) ts → (t : PackedTable) → IsIn t ts
    → find (is_reason t.name n) (flat_map table_reasons ts) ≡ find (is_reason t.name n) (table_reasons t)
in_table n [] sorted t is = absurd is
in_table n (u ∷ us) sorted t (inl same) =
    ap (λ (v : PackedTable). find (is_reason v.name n) (flat_map table_reasons (u ∷ us))) same
    ∙ find-append (is_reason u.name n) (table_reasons u) (flat_map table_reasons us)
    ∙ or_nothing (find (is_reason u.name n) (table_reasons u)) (find (is_reason u.name n) (flat_map table_reasons us))
    (nowhere u.name n us (λ v is equal.
    let never : Less ≡ Equal = sym (sorted.0 v is) ∙ ap (slice_cmp nat_cmp u.name) equal ∙ tied_itself nat_list_cmp_total u.name in cc))
    ∙ ap (λ (v : PackedTable). find (is_reason v.name n) (table_reasons v)) (sym same)
in_table n (u ∷ us) sorted t (inr more) =
    find-append (is_reason t.name n) (table_reasons u) (flat_map table_reasons us)
    ∙ ap (λ (o : Option Reason). option_or o (find (is_reason t.name n) (flat_map table_reasons us)))
    (not_there t.name n u (λ equal.
    let never : Less ≡ Equal = sym (sorted.0 t more) ∙ ap (λ (name : List ℕ). slice_cmp nat_cmp name t.name) equal ∙ tied_itself nat_list_cmp_total t.name in cc))
    ∙ in_table n us sorted.1 t more

-- ---- the tables that a run picks, as what each of them gives

abbrev pub number_of : TableRow → ℕ
number_of row = row.number

abbrev pub name_of : Table → List ℕ
name_of table = table.name

-- rows are sorted in each table
abbrev pub RowsRise : List PackedTable → Type 0
RowsRise tables = (t : PackedTable) → IsIn t tables → Rising number_in nat_cmp t.rows

module _ (p : Package) (sorted : Rising name_in (slice_cmp nat_cmp) p.tables) (rise : RowsRise p.tables) where
  abbrev pub pick_table : Table → Option PackedTable
  pick_table table = cond (is_among table.name (run_in p).tables) (Some (picked_table (run_in p) table)) None

  pub tables_as : (ts : List Table)
      → map (picked_table (run_in p)) (filter (λ table. is_among table.name (run_in p).tables) ts) ≡ filter_map pick_table ts
  tables_as [] = refl
  tables_as (t ∷ ts) = by (is_among t.name (run_in p).tables) (tables_as ts)
    where
      by : (b : Bool) → map (picked_table (run_in p)) (filter (λ table. is_among table.name (run_in p).tables) ts) ≡ filter_map pick_table ts
          → map (picked_table (run_in p)) (cond b (t ∷ filter (λ table. is_among table.name (run_in p).tables) ts) (filter (λ table. is_among table.name (run_in p).tables) ts))
          ≡ cons_option (cond b (Some (picked_table (run_in p) t)) None) (filter_map pick_table ts)
      by true rest = ap (λ (l : List PackedTable). picked_table (run_in p) t ∷ l) rest
      by false rest = rest

  -- ---- rows

  module _ (t : PackedTable) (t_in : IsIn t p.tables) where
    abbrev pick_row : TableRow → Option PackedRow
    pick_row = picked_row (run_in p) t.name

    row_alone : (row : PackedRow) → IsIn row t.rows → pick_row (own_row row) ≡ Some row
    row_alone row is =
        ap (option_map (packed_by (own_row row))) (in_table row.number p.tables sorted t t_in ∙ in_rows t.name t.rows (rise t t_in) row is)

    row_missed : (y : TableRow) → ((row : PackedRow) → IsIn row t.rows → row.number ≡ y.number → ⊥) → pick_row y ≡ None
    row_missed y none =
        ap (option_map (packed_by y)) (in_table y.number p.tables sorted t t_in ∙ no_row t.name y.number t.rows none)

    -- of rows that are made of its own and of others, the run picks its own
    pub rows_picked : (both : TableRow → TableRow → TableRow) (others : List TableRow) → Rising number_of nat_cmp others
        → ((row : PackedRow) (y : TableRow) → IsIn row t.rows → IsIn y others → row.number ≡ y.number → both (own_row row) y ≡ own_row row)
        → filter_map pick_row (merged row_cmp both (map own_row t.rows) others) ≡ t.rows
    rows_picked both others rises made =
        first_picked number_of nat_cmp nat_cmp_total both own_row pick_row t.rows others (rise t t_in) rises (record {
          alone = row_alone;
          shared = λ row y is there equal. ap pick_row (made row y is there (equal_numbers row.number y.number equal)) ∙ row_alone row is;
          others = λ y there apart. row_missed y (λ row is same. apart row is (ap (nat_cmp row.number) (sym same) ∙ tied_itself nat_cmp_total row.number));
        })

    pub own_picked : filter_map pick_row (map own_row t.rows) ≡ t.rows
    own_picked =
        ap (filter_map pick_row) (sym (merged_none number_of nat_cmp nat_cmp_total (λ a b. a) (map own_row t.rows)))
        ∙ rows_picked (λ a b. a) [] tt (λ row y is there same. refl)

    t_among : (ts : List PackedTable) → IsIn t ts → is_among t.name (map name_in ts) ≡ true
    t_among ts is = in_any (bytes_eq t.name) (map name_in ts) t.name (in_map ts is) (bytes_eq-itself t.name)
      where
        in_map : (us : List PackedTable) → IsIn t us → IsIn t.name (map name_in us)
        in_map [] is = absurd is
        in_map (u ∷ us) (inl same) = inl (ap name_in same)
        in_map (u ∷ us) (inr more) = inr (in_map us more)

    -- a table of its name, schema and next number, of whose rows the run picks its own
    pub table_picked : (u : Table) → u.name ≡ t.name → u.schema ≡ t.schema → u.next ≡ t.next → filter_map (picked_row (run_in p) u.name) u.rows ≡ t.rows
        → pick_table u ≡ Some t
    table_picked u name schema next rows =
        let among : is_among u.name (run_in p).tables ≡ true = ap (λ (n : List ℕ). is_among n (run_in p).tables) name ∙ t_among p.tables t_in in
        rw among (λ j. Some (record { name = name j; schema = schema j; next = next j; rows = rows j }))

  table_missed : (u : Table) → ((t : PackedTable) → IsIn t p.tables → t.name ≡ u.name → ⊥) → pick_table u ≡ None
  table_missed u none = elim (cases_Bool (is_among u.name (run_in p).tables)) [
    | inl among ↦
        let some = any_in (bytes_eq u.name) (map name_in p.tables) among in
        let from = of_map p.tables some.0 some.1.0 in
        absurd (none from.0 from.1.0 (from.1.1 ∙ sym (bytes_eq-true u.name some.0 some.1.1)))
    | inr other ↦ rw other refl
  ]
    where
      of_map : (us : List PackedTable) (name : List ℕ) → IsIn name (map name_in us) → (t : PackedTable) × (IsIn t us × (t.name ≡ name))
      of_map [] name is = absurd is
      of_map (v ∷ vs) name (inl same) = (v, (inl refl, sym same))
      of_map (v ∷ vs) name (inr more) = let found = of_map vs name more in (found.0, (inr found.1.0, found.1.1))

  -- of tables that are made of its own and of others, the run picks its own
  pub tables_picked : (both : Table → Table → Table) (others : List Table) → Rising name_of (slice_cmp nat_cmp) others
      → ((t : PackedTable) (y : Table) → IsIn t p.tables → IsIn y others → t.name ≡ y.name → pick_table (both (own_table t) y) ≡ Some t)
      → filter_map pick_table (merged table_cmp both (map own_table p.tables) others) ≡ p.tables
  tables_picked both others rises made =
      first_picked name_of (slice_cmp nat_cmp) nat_list_cmp_total both own_table pick_table p.tables others sorted rises (record {
        alone = λ t is. table_picked t is (own_table t) refl refl refl (own_picked t is);
        shared = λ t y is there equal. made t y is there (exact_bytes t.name y.name equal);
        others = λ y there apart. table_missed y (λ t is same. apart t is (ap (slice_cmp nat_cmp t.name) (sym same) ∙ tied_itself nat_list_cmp_total t.name));
      })
