-- Over a database without some rows, given rows lack the same parents and have the same parent rows, if their
-- parent rows stay.
use Rattle.std.proofs.Common.{◌≡◌, ℕ, List, [], ◌∷◌, ◌++◌, refl, sym, ap, ◌∙◌, Bool, true, false, inl, inr}
use Rattle.std.specs.Prelude.{Option, Some, None, option_map, map, filter, ◌&&◌, ◌||◌, if◌then◌else◌}
use Rattle.std.specs.List.{flat_map, filter_map, list_all, cons_option}
use Rattle.ldv_value.proofs.Booleans.{and-parts, true≢false}
use Rattle.ldv_value.proofs.Cases.{cases-bool}
use Rattle.ldv_value.proofs.Lists.{list_all-append, found-passes}
use Rattle.ldv_value.proofs.SameBytes.{bytes_eq-true}
use Rattle.sql_model.proofs.Equations.{changed_name}
use Rattle.sql_model.specs.Changes.{had_row, changed_in}
use Rattle.sql_model.specs.QueryAnswer.{Origin}
use Rattle.sql_model.specs.References.{reference, has_key, missing_key, missing_by, missing_parents, parents_in, parents_by, parents_of}
use Rattle.sql_model.specs.Scope.{same_text, is_table, table_at}
use Rattle.sql_laws.specs.Types.{Value, Catalog, Foreign, Statement, Table, TableRow}
use Rattle.sql_laws.specs.QueryLaw.{Keep, stays, cut_table, cut_tables}
use Rattle.sql_laws.proofs.LeftRows.{KeepsNew, KeepsAllNew, safe, stood_safe, changed_safe, number_stays, change_one}
use Rattle.sql_laws.proofs.QueryCombinations.{table_cut}
use Rattle.sql_laws.proofs.QueryKeeps.{kept_origin, all_kept}
use Rattle.sql_model.proofs.ReferenceLists.{any_kept}
use Rattle.sql_model.proofs.ParentSchemas.{missing_if}

-- what all that pass have, all have that pass after the first
all_tail : {X : Type 0} (k q : X → Bool) (x : X) (xs : List X) → list_all k (filter q (x ∷ xs)) ≡ true
    → list_all k (filter q xs) ≡ true
all_tail k q x xs all = elim (cases-bool (q x)) [
  | inl hit ↦
      let both : (k x && list_all k (filter q xs)) ≡ true = rw hit at all in
      (and-parts (k x) (list_all k (filter q xs)) both).1
  | inr miss ↦ rw miss at all
]

all_head : {X : Type 0} (k q : X → Bool) (x : X) (xs : List X) → q x ≡ true → list_all k (filter q (x ∷ xs)) ≡ true
    → k x ≡ true
all_head k q x xs hit all =
    let both : (k x && list_all k (filter q xs)) ≡ true = rw hit at all in
    (and-parts (k x) (list_all k (filter q xs)) both).0

-- the table of a name has it
pub found_named : (name : List ℕ) (db : List Table) (t : Table) → table_at name db ≡ Some t → t.name ≡ name
found_named name db t found = bytes_eq-true t.name name (found-passes (is_table name) db t found)

abbrev origin_of : Foreign → TableRow → Origin
origin_of foreign row = record { table = foreign.parent; row = row.number }

module _ (keep : Keep) where
  -- a table before and after: the rows that are new stay
  abbrev pub SafeIn : Option Table → Option Table → Type 0
  SafeIn None None = Unit {0}
  SafeIn None (Some after) = ⊥
  SafeIn (Some before) None = ⊥
  SafeIn (Some before) (Some after) = (after.name ≡ before.name) × (list_all (safe keep before) after.rows ≡ true)

  -- ---- one parent

  -- of rows that stood or stay those that pass stay, where those do that stood
  safe_stay : (t : Table) (p : TableRow → Bool) (rows : List TableRow) → list_all (safe keep t) rows ≡ true
      → list_all (stays keep t) (filter (λ row. p row && had_row t row) rows) ≡ true
      → list_all (stays keep t) (filter p rows) ≡ true
  safe_stay t p [] all kept = refl
  safe_stay t p (row ∷ rows) all kept =
      let both = and-parts (safe keep t row) (list_all (safe keep t) rows) all in
      let later : list_all (stays keep t) (filter (λ r. p r && had_row t r) rows) ≡ true = all_tail (stays keep t) (λ r. p r && had_row t r) row rows kept in
      let more : list_all (stays keep t) (filter p rows) ≡ true = safe_stay t p rows both.1 later in
      elim (cases-bool (p row)) [
        | inl hit ↦
            let here : keep t.name row.number ≡ true = elim (cases-bool (had_row t row)) [
              | inl there ↦ all_head (stays keep t) (λ r. p r && had_row t r) row rows (λ j. hit j && there j) kept
              | inr fresh ↦ sym (ap (λ (b : Bool). b || keep t.name row.number) fresh) ∙ both.0
            ] in
            rw hit (λ j. here j && more j)
        | inr miss ↦ rw miss more
      ]

  -- of rows that stay those that pass and stood
  stood_fewer : (b a : Table) → a.name ≡ b.name → (p : TableRow → Bool) (rows : List TableRow)
      → list_all (stays keep a) (filter (λ row. p row && had_row b row) rows) ≡ true
      → filter (λ row. p row && had_row (cut_table keep b) row) (filter (stays keep a) rows)
      ≡ filter (λ row. p row && had_row b row) rows
  stood_fewer b a named p [] kept = refl
  stood_fewer b a named p (row ∷ rows) kept =
      let later : list_all (stays keep a) (filter (λ r. p r && had_row b r) rows) ≡ true = all_tail (stays keep a) (λ r. p r && had_row b r) row rows kept in
      let more = stood_fewer b a named p rows later in
      elim (cases-bool (keep a.name row.number)) [
        | inl here ↦
            let too : keep b.name row.number ≡ true = ap (λ (n : List ℕ). keep n row.number) (sym named) ∙ here in
            let same : had_row (cut_table keep b) row ≡ had_row b row = number_stays keep b row.number too b.rows in
            rw here (λ j. if p row && same j then row ∷ more j else more j)
        | inr goes ↦ elim (cases-bool (p row && had_row b row)) [
          | inl hit ↦ absurd (true≢false (sym (all_head (stays keep a) (λ r. p r && had_row b r) row rows hit kept) ∙ goes))
          | inr miss ↦ rw (goes, miss) more
        ]
      ]

  -- rows of a foreign key's parent
  abbrev Named : Foreign → Option Table → Type 0
  Named foreign None = Unit {0}
  Named foreign (Some t) = t.name ≡ foreign.parent

  origins_stay : (foreign : Foreign) (t : Table) → t.name ≡ foreign.parent → (rows : List TableRow)
      → all_kept keep (map (origin_of foreign) rows) ≡ true → list_all (stays keep t) rows ≡ true
  origins_stay foreign t named [] k = refl
  origins_stay foreign t named (row ∷ rows) k =
      let both = and-parts (keep foreign.parent row.number) (all_kept keep (map (origin_of foreign) rows)) k in
      let here : keep t.name row.number ≡ true = ap (λ (n : List ℕ). keep n row.number) named ∙ both.0 in
      λ j. here j && origins_stay foreign t named rows both.1 j

  module _ (foreign : Foreign) where
    abbrev less : Option Table → Option Table
    less o = option_map (cut_table keep) o

    missing_in : (before after : Option Table) → Named foreign before → SafeIn before after → (o : Option (List Value))
        → all_kept keep (parents_in before after foreign o) ≡ true
        → missing_key (less after) foreign o ≡ missing_key after foreign o
    missing_in None None named safe None k = refl
    missing_in None None named safe (Some key) k = refl
    missing_in None (Some a) named safe o k = absurd safe
    missing_in (Some b) None named safe o k = absurd safe
    missing_in (Some b) (Some a) named safe None k = refl
    missing_in (Some b) (Some a) named safe (Some key) k =
        let p : TableRow → Bool = has_key a.schema.key key in
        let own : list_all (stays keep b) (filter (λ row. p row && had_row b row) a.rows) ≡ true = origins_stay foreign b named (filter (λ row. p row && had_row b row) a.rows) k in
        let all : list_all (stays keep b) (filter p a.rows) ≡ true = safe_stay b p a.rows safe.1 own in
        let kept : list_all (stays keep a) (filter p a.rows) ≡ true = (λ j. list_all (λ row. keep (safe.0 j) row.number) (filter p a.rows)) ∙ all in
        ap (missing_if foreign key) (any_kept p (stays keep a) a.rows kept)

    parents_cut_in : (before after : Option Table) → Named foreign before → SafeIn before after → (o : Option (List Value))
        → all_kept keep (parents_in before after foreign o) ≡ true
        → parents_in (less before) (less after) foreign o ≡ parents_in before after foreign o
    parents_cut_in None None named safe None k = refl
    parents_cut_in None None named safe (Some key) k = refl
    parents_cut_in None (Some a) named safe o k = absurd safe
    parents_cut_in (Some b) None named safe o k = absurd safe
    parents_cut_in (Some b) (Some a) named safe None k = refl
    parents_cut_in (Some b) (Some a) named safe (Some key) k =
        let p : TableRow → Bool = has_key a.schema.key key in
        let rows : List TableRow = filter (λ row. p row && had_row b row) a.rows in
        let own : list_all (stays keep b) rows ≡ true = origins_stay foreign b named rows k in
        let kept : list_all (stays keep a) rows ≡ true = (λ j. list_all (λ row. keep (safe.0 j) row.number) rows) ∙ own in
        ap (map (origin_of foreign)) (stood_fewer b a safe.0 p a.rows kept)

  -- ---- all rows, by all foreign keys

  module _ (db after : List Table) (safe_in : (name : List ℕ) → SafeIn (table_at name db) (table_at name after)) where
    named : (foreign : Foreign) → Named foreign (table_at foreign.parent db)
    named foreign = by (table_at foreign.parent db) refl
      where
        by : (o : Option Table) → table_at foreign.parent db ≡ o → Named foreign o
        by None is = tt
        by (Some t) is = found_named foreign.parent db t is

    missing_one : (values : List Value) (foreign : Foreign) → all_kept keep (parents_by db after values foreign) ≡ true
        → missing_by (cut_tables keep after) values foreign ≡ missing_by after values foreign
    missing_one values foreign k =
        ap (λ (o : Option Table). missing_key o foreign (reference foreign values)) (table_cut keep foreign.parent after)
        ∙ missing_in foreign (table_at foreign.parent db) (table_at foreign.parent after) (named foreign) (safe_in foreign.parent) (reference foreign values) k

    parents_one : (values : List Value) (foreign : Foreign) → all_kept keep (parents_by db after values foreign) ≡ true
        → parents_by (cut_tables keep db) (cut_tables keep after) values foreign ≡ parents_by db after values foreign
    parents_one values foreign k =
        (λ j. parents_in (table_cut keep foreign.parent db j) (table_cut keep foreign.parent after j) foreign (reference foreign values))
        ∙ parents_cut_in foreign (table_at foreign.parent db) (table_at foreign.parent after) (named foreign) (safe_in foreign.parent) (reference foreign values) k

    abbrev of_row : List Foreign → List Value → List Origin
    of_row foreigns values = flat_map (parents_by db after values) foreigns

    missing_row : (values : List Value) (foreigns : List Foreign) → all_kept keep (of_row foreigns values) ≡ true
        → filter_map (missing_by (cut_tables keep after) values) foreigns ≡ filter_map (missing_by after values) foreigns
    missing_row values [] k = refl
    missing_row values (f ∷ fs) k =
        let both = and-parts (all_kept keep (parents_by db after values f)) (all_kept keep (of_row fs values))
        (sym (list_all-append (kept_origin keep) (parents_by db after values f) (of_row fs values)) ∙ k) in
        λ j. cons_option (missing_one values f both.0 j) (missing_row values fs both.1 j)

    parents_row : (values : List Value) (foreigns : List Foreign) → all_kept keep (of_row foreigns values) ≡ true
        → flat_map (parents_by (cut_tables keep db) (cut_tables keep after) values) foreigns ≡ of_row foreigns values
    parents_row values [] k = refl
    parents_row values (f ∷ fs) k =
        let both = and-parts (all_kept keep (parents_by db after values f)) (all_kept keep (of_row fs values))
        (sym (list_all-append (kept_origin keep) (parents_by db after values f) (of_row fs values)) ∙ k) in
        λ j. parents_one values f both.0 j ++ parents_row values fs both.1 j

    pub missing_cut : (foreigns : List Foreign) (rows : List TableRow) → all_kept keep (parents_of db after foreigns rows) ≡ true
        → missing_parents (cut_tables keep after) foreigns rows ≡ missing_parents after foreigns rows
    missing_cut foreigns [] k = refl
    missing_cut foreigns (row ∷ rows) k =
        let both = and-parts (all_kept keep (of_row foreigns row.values)) (all_kept keep (parents_of db after foreigns rows))
        (sym (list_all-append (kept_origin keep) (of_row foreigns row.values) (parents_of db after foreigns rows)) ∙ k) in
        λ j. missing_row row.values foreigns both.0 j ++ missing_cut foreigns rows both.1 j

    pub parents_cut : (foreigns : List Foreign) (rows : List TableRow) → all_kept keep (parents_of db after foreigns rows) ≡ true
        → parents_of (cut_tables keep db) (cut_tables keep after) foreigns rows ≡ parents_of db after foreigns rows
    parents_cut foreigns [] k = refl
    parents_cut foreigns (row ∷ rows) k =
        let both = and-parts (all_kept keep (of_row foreigns row.values)) (all_kept keep (parents_of db after foreigns rows))
        (sym (list_all-append (kept_origin keep) (of_row foreigns row.values) (parents_of db after foreigns rows)) ∙ k) in
        λ j. parents_row row.values foreigns both.0 j ++ parents_cut foreigns rows both.1 j

  -- ---- the tables after a statement

  module _ (s : Statement) (catalog : Catalog) where
    same_safe : (o : Option Table) → SafeIn o o
    same_safe None = tt
    same_safe (Some t) = (refl, stood_safe keep t)

    one_name : (name : List ℕ) (t : Table) → (change_one keep s catalog name t).name ≡ t.name
    one_name name t = elim (cases-bool (is_table name t)) [
      | inl hit ↦ rw hit (changed_name s catalog t)
      | inr miss ↦ rw miss refl
    ]

    one_safe : (name : List ℕ) (t : Table) → KeepsNew keep t → SafeIn (Some t) (Some (change_one keep s catalog name t))
    one_safe name t new = elim (cases-bool (is_table name t)) [
      | inl hit ↦ rw hit (changed_name s catalog t, changed_safe keep t catalog s new)
      | inr miss ↦ rw miss (refl, stood_safe keep t)
    ]

    safe_named : (target name : List ℕ) (ts : List Table) → KeepsAllNew keep ts
        → SafeIn (table_at name ts) (table_at name (map (change_one keep s catalog target) ts))
    safe_named target name [] new = tt
    safe_named target name (t ∷ ts) new =
        let same : is_table name (change_one keep s catalog target t) ≡ is_table name t = ap (λ (n : List ℕ). same_text n name) (one_name target t) in
        by (is_table name t) (is_table name (change_one keep s catalog target t)) same (one_safe target t new.0) (safe_named target name ts new.1)
      where
        by : (b d : Bool) → d ≡ b → SafeIn (Some t) (Some (change_one keep s catalog target t))
            → SafeIn (table_at name ts) (table_at name (map (change_one keep s catalog target) ts))
            → SafeIn (if b then Some t else table_at name ts)
            (if d then Some (change_one keep s catalog target t) else table_at name (map (change_one keep s catalog target) ts))
        by true true same here more = here
        by true false same here more = cc
        by false true same here more = cc
        by false false same here more = more

    pub safe_changed : (target : Option (List ℕ)) (db : List Table) → KeepsAllNew keep db → (name : List ℕ)
        → SafeIn (table_at name db) (table_at name (changed_in target s catalog db))
    safe_changed None db new name = same_safe (table_at name db)
    safe_changed (Some target) db new name = safe_named target name db new
