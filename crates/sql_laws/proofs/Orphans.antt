-- The first child row that a statement would leave without its parent stays the same over a database without
-- some tables or unmatched rows, if that row stays.
use Rattle.std.proofs.Common.{◌≡◌, ℕ, List, [], ◌∷◌, ◌++◌, refl, sym, ap, ◌∙◌, subst, Bool, true, false, inl, inr}
use Rattle.std.specs.Prelude.{Option, Some, None, map, filter, length, not, ◌&&◌, ◌==◌, if◌then◌else◌}
use Rattle.std.specs.List.{flat_map, filter_map, list_any, list_all, cons_option}
use Rattle.std.proofs.lemmas.Bool.{cases_Bool}
use Rattle.ldv_value.proofs.Booleans.{and-parts, and-from, or-left, or-right}
use Rattle.ldv_value.proofs.SameBytes.{bytes_eq-itself}
use Rattle.ldv_value.proofs.Lists.{filter-filter, filter-append, list_all-append}
use Rattle.ldv_value.proofs.Options.{same-some}
use Rattle.sql_model.specs.Changes.{matched, table_after}
use Rattle.sql_model.specs.Scope.{same_text, is_table}
use Rattle.sql_model.specs.Tables.{are_keys_unique, row_values}
use Rattle.sql_model.specs.References.{reference, is_lost, Child, Orphan, orphan_by, orphans_of, is_changed, other_rows, child_of, children, orphans, first_in, first_orphan}
use Rattle.sql_laws.specs.Types.{Value, Catalog, Foreign, Statement, Table, TableRow}
use Rattle.sql_laws.specs.QueryLaw.{Keep, stays, cut_table, cut_tables}
use Rattle.sql_laws.specs.StatementLaw.{KeepTables, table_stays}
use Rattle.sql_laws.proofs.LeftRows.{KeepsNew}
use Rattle.sql_laws.proofs.LostKeys.{lost_cut}
use Rattle.sql_model.proofs.ReferenceLists.{first_kept}

filter_map-of : {X Y : Type 0} (p : Y → Bool) (f : X → Y) (xs : List X) → filter p (map f xs) ≡ map f (filter (λ x. p (f x)) xs)
filter_map-of p f [] = refl
filter_map-of {Y = Y} p f (x ∷ xs) = elim (cases_Bool (p (f x))) [
  | inl hit ↦ rw hit (ap (λ (l : List Y). f x ∷ l) (filter_map-of p f xs))
  | inr miss ↦ rw miss (filter_map-of p f xs)
]

-- ---- the first orphan of a child row is that row

abbrev IsOf : Child → Orphan → Type 0
IsOf child orphan = (orphan.table ≡ child.table) × (orphan.row ≡ child.row.number)

orphan_of : (target : List ℕ) (lost : List Value → Bool) (child : Child) (foreign : Foreign) (o : Option (List Value)) (orphan : Orphan)
    → orphan_by target lost child foreign o ≡ Some orphan → IsOf child orphan
orphan_of target lost child foreign None orphan is = cc
orphan_of target lost child foreign (Some key) orphan is = elim (cases_Bool (same_text foreign.parent target && lost key)) [
  | inl hit ↦
      let e : Some (record { table = child.table; row = child.row.number; key = key }) ≡ Some orphan = rw hit at is in
      let same : record { table = child.table; row = child.row.number; key = key } ≡ orphan = same-some _ orphan e in
      (sym (ap (λ (x : Orphan). x.table) same), sym (ap (λ (x : Orphan). x.row) same))
  | inr miss ↦ let e : None ≡ Some orphan = rw miss at is in cc
]

first_is : (target : List ℕ) (lost : List Value → Bool) (child : Child) (foreigns : List Foreign) (orphan : Orphan) (more : List Orphan)
    → filter_map (λ foreign. orphan_by target lost child foreign (reference foreign child.row.values)) foreigns ≡ orphan ∷ more
    → IsOf child orphan
first_is target lost child [] orphan more is = cc
first_is target lost child (foreign ∷ foreigns) orphan more is = by (λ later. first_is target lost child foreigns orphan more later) (orphan_by target lost child foreign (reference foreign child.row.values)) refl
  where
    rest : List Orphan
    rest = filter_map (λ f. orphan_by target lost child f (reference f child.row.values)) foreigns

    by : (rest ≡ orphan ∷ more → IsOf child orphan) → (o : Option Orphan) → orphan_by target lost child foreign (reference foreign child.row.values) ≡ o → IsOf child orphan
    by again None none = again (sym (ap (λ (o : Option Orphan). cons_option o rest) none) ∙ is)
    by again (Some other) some =
        let all : other ∷ rest ≡ orphan ∷ more = sym (ap (λ (o : Option Orphan). cons_option o rest) some) ∙ is in
        let same : other ≡ orphan = cc in
        subst (IsOf child) same (orphan_of target lost child foreign (reference foreign child.row.values) other some)

-- what is first has the property that its child row has
module _ (holds : Child → Bool) (holds_too : Orphan → Bool) (target : List ℕ) (lost : List Value → Bool)
    (its : (child : Child) (orphan : Orphan) → IsOf child orphan → holds_too orphan ≡ holds child) where
  pub first_holds : (all : List Child) → list_all holds all ≡ true → (orphan : Orphan)
      → first_in (flat_map (orphans_of target lost) all) ≡ Some orphan → holds_too orphan ≡ true
  first_holds [] each orphan is = cc
  first_holds (child ∷ all) each orphan is =
      let both = and-parts (holds child) (list_all holds all) each in
      by (λ later. first_holds all both.1 orphan later) both.0 (orphans_of target lost child) refl
    where
      by : (first_in (flat_map (orphans_of target lost) all) ≡ Some orphan → holds_too orphan ≡ true) → holds child ≡ true
          → (l : List Orphan) → orphans_of target lost child ≡ l → holds_too orphan ≡ true
      by again here [] none =
          again (sym (ap (λ (l : List Orphan). first_in (l ++ flat_map (orphans_of target lost) all)) none) ∙ is)
      by again here (other ∷ more) some =
          let first : Some other ≡ Some orphan = sym (ap (λ (l : List Orphan). first_in (l ++ flat_map (orphans_of target lost) all)) some) ∙ is in
          let same : other ≡ orphan = same-some other orphan first in
          ap holds_too (sym same) ∙ its child other (first_is target lost child child.foreign other more some) ∙ here

-- ---- children of fewer rows, and of fewer tables

module _ (keep : Keep) where
  abbrev child_stays : Child → Bool
  child_stays child = keep child.table child.row.number

  others_cut : (has : TableRow → Bool) (target : List ℕ) (t : Table)
      → other_rows has target (cut_table keep t) ≡ filter (stays keep t) (other_rows has target t)
  others_cut has target t = elim (cases_Bool (is_table target t)) [
    | inl hit ↦ rw hit (filter-filter (λ row. not (has row)) (stays keep t) t.rows)
    | inr miss ↦ rw miss refl
  ]

  children_cut : (has : TableRow → Bool) (target : List ℕ) (db : List Table)
      → children has target (cut_tables keep db) ≡ filter child_stays (children has target db)
  children_cut has target [] = refl
  children_cut has target (t ∷ ts) =
      let own : List TableRow = other_rows has target t in
      (λ j. map (child_of t) (others_cut has target t j) ++ children_cut has target ts j)
      ∙ ap (λ (l : List Child). l ++ filter child_stays (children has target ts)) (sym (filter_map-of child_stays (child_of t) own))
      ∙ sym (filter-append child_stays (map (child_of t) own) (children has target ts))

  abbrev orphan_stays : Orphan → Bool
  orphan_stays orphan = keep orphan.table orphan.row

  pub orphans_cut : (s : Statement) (catalog : Catalog) (t : Table) (db : List Table) → KeepsNew keep t → (length t.schema.key == 0) ≡ false
      → are_keys_unique t.schema.key (row_values t) ≡ true → list_all (stays keep t) (matched s catalog t) ≡ true
      → ((orphan : Orphan) → first_orphan s catalog t db ≡ Some orphan → orphan_stays orphan ≡ true)
      → first_orphan s catalog (cut_table keep t) (cut_tables keep db) ≡ first_orphan s catalog t db
  orphans_cut s catalog t db new keyed unique stay kept =
      let lost : List Value → Bool = is_lost t.schema.key t.rows (table_after s catalog t).rows in
      let f : Child → List Orphan = orphans_of t.name lost in
      (λ j. first_in (flat_map (orphans_of t.name (λ key. lost_cut keep t catalog new keyed unique s stay key j)) (children_cut (is_changed s catalog) t.name db j)))
      ∙ first_kept child_stays orphan_stays f
      (λ child orphan more is. let of = first_is t.name lost child child.foreign orphan more is in (λ j. keep (of.0 j) (of.1 j)))
      (children (is_changed s catalog) t.name db) kept

module _ (tables : KeepTables) where
  abbrev in_table : Child → Bool
  in_table child = tables child.table

  all_in : (b : Bool) (t : Table) (rows : List TableRow) → tables t.name ≡ b → filter in_table (map (child_of t) rows) ≡ (if b then map (child_of t) rows else [])
  all_in true t [] is = refl
  all_in false t [] is = refl
  all_in true t (row ∷ rows) is = rw is (ap (λ (l : List Child). child_of t row ∷ l) (all_in true t rows is))
  all_in false t (row ∷ rows) is = rw is (all_in false t rows is)

  children_fewer : (has : TableRow → Bool) (target : List ℕ) (db : List Table)
      → children has target (filter (table_stays tables) db) ≡ filter in_table (children has target db)
  children_fewer has target [] = refl
  children_fewer has target (t ∷ ts) =
      let own : List Child = map (child_of t) (other_rows has target t) in
      let rest : List Child = children has target ts in
      let more : children has target (filter (table_stays tables) ts) ≡ filter in_table rest = children_fewer has target ts in
      let whole : filter in_table (own ++ rest) ≡ filter in_table own ++ filter in_table rest = filter-append in_table own rest in
      elim (cases_Bool (tables t.name)) [
        | inl here ↦ rw here (λ j. sym (all_in true t (other_rows has target t) here) j ++ more j) ∙ sym whole
        | inr away ↦ rw away (more ∙ ap (λ (l : List Child). l ++ filter in_table rest) (sym (all_in false t (other_rows has target t) away)) ∙ sym whole)
      ]

  abbrev orphan_in : Orphan → Bool
  orphan_in orphan = tables orphan.table

  pub orphans_fewer : (has : TableRow → Bool) (before after : Table) (db : List Table)
      → ((orphan : Orphan) → first_in (orphans has before after db) ≡ Some orphan → orphan_in orphan ≡ true)
      → first_in (orphans has before after (filter (table_stays tables) db)) ≡ first_in (orphans has before after db)
  orphans_fewer has before after db kept =
      let lost : List Value → Bool = is_lost before.schema.key before.rows after.rows in
      ap (λ (l : List Child). first_in (flat_map (orphans_of before.name lost) l)) (children_fewer has before.name db)
      ∙ first_kept in_table orphan_in (orphans_of before.name lost)
      (λ child orphan more is. ap tables (first_is before.name lost child child.foreign orphan more is).0)
      (children has before.name db) kept

-- ---- the first orphan's table is there

abbrev is_there : List Table → List ℕ → Bool
is_there db name = list_any (is_table name) db

children_there : (has : TableRow → Bool) (target : List ℕ) (all ts : List Table)
    → ((name : List ℕ) → is_there ts name ≡ true → is_there all name ≡ true)
    → list_all (λ (child : Child). is_there all child.table) (children has target ts) ≡ true
children_there has target all [] among = refl
children_there has target all (t ∷ ts) among =
    let here : is_there all t.name ≡ true = among t.name (or-left (is_table t.name t) (is_there ts t.name) (bytes_eq-itself t.name)) in
    let rest : list_all (λ (child : Child). is_there all child.table) (children has target ts) ≡ true =
    children_there has target all ts (λ name is. among name (or-right (is_table name t) (is_there ts name) is)) in
    list_all-append (λ (child : Child). is_there all child.table) (map (child_of t) (other_rows has target t)) (children has target ts)
    ∙ and-from (list_all (λ (child : Child). is_there all child.table) (map (child_of t) (other_rows has target t)))
    (list_all (λ (child : Child). is_there all child.table) (children has target ts))
    (each (other_rows has target t) here) rest
  where
    each : (rows : List TableRow) → is_there all t.name ≡ true → list_all (λ (child : Child). is_there all child.table) (map (child_of t) rows) ≡ true
    each [] here = refl
    each (row ∷ rows) here = and-from (is_there all t.name) (list_all (λ (child : Child). is_there all child.table) (map (child_of t) rows)) here (each rows here)

pub orphan_there : (has : TableRow → Bool) (before after : Table) (db : List Table) (orphan : Orphan)
    → first_in (orphans has before after db) ≡ Some orphan → is_there db orphan.table ≡ true
orphan_there has before after db orphan is =
    first_holds (λ (child : Child). is_there db child.table) (λ (o : Orphan). is_there db o.table) before.name (is_lost before.schema.key before.rows after.rows)
    (λ child o of. ap (is_there db) of.0) (children has before.name db)
    (children_there has before.name db db (λ name there. there)) orphan is
