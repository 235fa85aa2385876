-- A statement has the same refusal, reply, needs and changes over a database without rows that it doesn't
-- need.
use Rattle.std.proofs.Common.{◌≡◌, ℕ, List, [], ◌∷◌, refl, sym, ap, ◌∙◌, subst, Bool, true, false, inl, inr}
use Rattle.std.specs.Prelude.{Option, Some, None, option_map, option_to_list, map, filter, length, ◌==◌, if◌then◌else◌}
use Rattle.std.specs.List.{list_all}
use Rattle.ldv_value.proofs.Cases.{cases-bool}
use Rattle.ldv_value.proofs.Lists.{found-all, list_all-map}
use Rattle.sql_laws.specs.Types.{Catalog, P, SqlRefusal, NoTable, NoColumn, TypeClash, Statement, TheQuery, TheInsert, TheUpdate, TheDelete, Table}
use Rattle.sql_model.proofs.Databases.{parents_of_database, valid_of_database}
use Rattle.sql_model.proofs.ValidTables.{table-parts}
use Rattle.sql_model.specs.Changes.{table_after, changed_in, matched, new_rows, target_of, or_else, change_refusal}
use Rattle.sql_model.specs.Needs.{is_asked, table_name, matched_row, parent_rows, child_row, child_rows, sorted_needs, needs_by, need_of}
use Rattle.sql_model.specs.References.{MissingParent, Orphan, first_in, missing_parents, is_lost, is_changed, parents_of, tables_after, first_missing_parent, first_orphan, parents_needed}
use Rattle.sql_laws.specs.QueryLaw.{Keep, cut_table, cut_tables, KeepsNeeded}
use Rattle.sql_model.specs.Refusals.{lacks_table, lacks_column, clashes, check_refusal}
use Rattle.sql_model.specs.Scope.{is_table, table_at, catalog_of}
use Rattle.sql_model.specs.Statements.{target, reference_refusal, refusal_of, matched_count, after_unless}
use Rattle.sql_model.specs.Tables.{is_valid_table, is_database}
use Rattle.sql_laws.proofs.LeftRows.{KeepsNew, KeepsAllNew, in_cut, matched_stay, matched_same, new_same}
use Rattle.sql_laws.proofs.LeftRowsRefusals.{OnNone, SameAt, alike}
use Rattle.sql_laws.proofs.Orphans.{orphans_cut}
use Rattle.sql_model.proofs.Elsewhere.{all_elsewhere, no_orphans, elsewhere}
use Rattle.sql_laws.proofs.ParentRows.{found_named, SafeIn, missing_cut, parents_cut, safe_changed}
use Rattle.sql_laws.proofs.QueryCombinations.{catalog_same, table_cut}
use Rattle.sql_laws.proofs.QueryKeeps.{all_kept, needed_kept, needed_split, rising_kept}
use Rattle.sql_laws.proofs.StatementParts.{need_parts, Same, refusal_at, needs_at, refs_at, IsChange, refs_of, SameRefs, no_refs, same_refs, reference_is, own_needed, same_whole, whole_by}

-- ---- the table that a statement changes is found by its own name

named_found : (name : List ℕ) (db : List Table) (t : Table) → table_at name db ≡ Some t → table_at t.name db ≡ Some t
named_found name db t is = ap (λ (n : List ℕ). table_at n db) (found_named name db t is) ∙ is

pub target_found : (s : Statement) (db : List Table) (t : Table) → target s db ≡ Some t → table_at t.name db ≡ Some t
target_found (TheQuery query) db t is = cc
target_found (TheInsert insert) db t is = named_found insert.table db t is
target_found (TheUpdate update) db t is = named_found update.table db t is
target_found (TheDelete delete) db t is = named_found delete.table db t is

-- ---- needs of references

module _ (keep : Keep) (s : Statement) (catalog : Catalog) (t : Table) (db : List Table) where
  -- parent rows are needed whatever references refuse
  pub parents_first : (m : Option MissingParent) (n : Option Orphan) → KeepsNeeded keep (refs_at (refs_of m n) s catalog (Some t) db)
      → KeepsNeeded keep (parent_rows s catalog (Some t) db)
  parents_first (Some x) n k = k
  parents_first None (Some y) k = (needed_split keep (parent_rows s catalog (Some t) db) (child_rows s catalog (Some t) db) k).0
  parents_first None None k = k

  -- where no parent is missing, the first child is
  pub child_kept : (m : Option MissingParent) (n : Option Orphan) → m ≡ None
      → KeepsNeeded keep (refs_at (refs_of m n) s catalog (Some t) db)
      → (orphan : Orphan) → n ≡ Some orphan → first_orphan s catalog t db ≡ Some orphan → keep orphan.table orphan.row ≡ true
  child_kept (Some x) n none k orphan some is = cc
  child_kept None None none k orphan some is = cc
  child_kept None (Some y) none k orphan some is =
      let both = needed_split keep (parent_rows s catalog (Some t) db) (child_rows s catalog (Some t) db) k in
      let one : KeepsNeeded keep (option_to_list (option_map child_row (Some orphan))) = subst (λ (o : Option Orphan). KeepsNeeded keep (option_to_list (option_map child_row o))) is both.1 in
      one.0

-- what a change needs, by parts
pub change_needed : (keep : Keep) (s : Statement) → IsChange s → (db : List Table) → KeepsNeeded keep (need_of (Some s) db)
    → KeepsNeeded keep (needs_at (refusal_of (Some s) db) s (catalog_of db) (target s db))
    × KeepsNeeded keep (refs_at (refusal_of (Some s) db) s (catalog_of db) (target s db) db)
change_needed keep s change db k =
    let rising : KeepsNeeded keep (sorted_needs (needs_by (refusal_of (Some s) db) s db)) = subst (KeepsNeeded keep) (need_parts s db) k in
    needed_split keep (needs_at (refusal_of (Some s) db) s (catalog_of db) (target s db)) (refs_at (refusal_of (Some s) db) s (catalog_of db) (target s db) db)
    (subst (KeepsNeeded keep) (change.needs (refusal_of (Some s) db) db) (rising_kept keep (needs_by (refusal_of (Some s) db) s db) rising))

module _ (keep : Keep) where
  -- ---- the table that a statement changes

  table_new : (name : List ℕ) (db : List Table) → KeepsAllNew keep db → (t : Table) → table_at name db ≡ Some t
      → KeepsNew keep t
  table_new name [] new t is = cc
  table_new name (u ∷ us) new t is = elim (cases-bool (is_table name u)) [
    | inl hit ↦ let e : Some u ≡ Some t = rw hit at is in let same : u ≡ t = cc in subst (KeepsNew keep) same new.0
    | inr miss ↦ table_new name us new.1 t (rw miss at is)
  ]

  target_cut : (s : Statement) (db : List Table)
      → target s (cut_tables keep db) ≡ option_map (cut_table keep) (target s db)
  target_cut (TheQuery query) db = refl
  target_cut (TheInsert insert) db = table_cut keep insert.table db
  target_cut (TheUpdate update) db = table_cut keep update.table db
  target_cut (TheDelete delete) db = table_cut keep delete.table db

  target_new : (s : Statement) (db : List Table) → KeepsAllNew keep db → (t : Table) → target s db ≡ Some t
      → KeepsNew keep t
  target_new (TheQuery query) db new t is = cc
  target_new (TheInsert insert) db new t is = table_new insert.table db new t is
  target_new (TheUpdate update) db new t is = table_new update.table db new t is
  target_new (TheDelete delete) db new t is = table_new delete.table db new t is

  -- ---- with what the schemas refuse

  -- a table gives the same refusal of the whole statement, and the same needs and number of matched rows
  pub record SamePlace (s : Statement) (catalog : Catalog) (o : Option Table) : Type 0 where
    pub refusal : Option SqlRefusal
    pub less : refusal_at s catalog (option_map (cut_table keep) o) ≡ refusal
    pub more : refusal_at s catalog o ≡ refusal
    pub needs : needs_at refusal s catalog (option_map (cut_table keep) o) ≡ needs_at refusal s catalog o
    pub count : OnNone refusal (matched_count s catalog (option_map (cut_table keep) o) ≡ matched_count s catalog o)

  module _ (s : Statement) (catalog : Catalog) (o : Option Table) (new : (t : Table) → o ≡ Some t → KeepsNew keep t) where
    abbrev small : Option Table
    small = option_map (cut_table keep) o

    abbrev first_of : Bool → Bool → Bool → Option SqlRefusal
    first_of two three four = if two then Some NoTable else (if three then Some NoColumn else (if four then Some TypeClash else None))

    refused : (refusal : SqlRefusal) → check_refusal s catalog ≡ Some refusal
        → needs_at (Some refusal) s catalog small ≡ needs_at (Some refusal) s catalog o
        → SamePlace s catalog o
    refused refusal is needs = record {
      refusal = Some refusal;
      less = ap (λ (r : Option SqlRefusal). or_else r (change_refusal s catalog small)) is;
      more = ap (λ (r : Option SqlRefusal). or_else r (change_refusal s catalog o)) is;
      needs = needs;
      count = tt;
    }

    checked : check_refusal s catalog ≡ None → SameAt s catalog small o → SamePlace s catalog o
    checked is same = record {
      refusal = same.refusal;
      less = ap (λ (r : Option SqlRefusal). or_else r (change_refusal s catalog small)) is ∙ same.less;
      more = ap (λ (r : Option SqlRefusal). or_else r (change_refusal s catalog o)) is ∙ same.more;
      needs = same.needs;
      count = same.count;
    }

    same_at : (p : Option Table) → o ≡ p
        → KeepsNeeded keep (needs_at (change_refusal s catalog p) s catalog p)
        → SameAt s catalog (option_map (cut_table keep) p) p
    same_at None is k = record { refusal = None; less = refl; more = refl; needs = refl; count = refl }
    same_at (Some t) is k = alike keep t catalog s (new t is) k

    place_by : (two three four : Bool) → check_refusal s catalog ≡ first_of two three four
        → KeepsNeeded keep (needs_at (or_else (first_of two three four) (change_refusal s catalog o)) s catalog o)
        → SamePlace s catalog o
    place_by true three four is k = refused NoTable is refl
    place_by false true four is k = refused NoColumn is refl
    place_by false false true is k = refused TypeClash is refl
    place_by false false false is k = checked is (same_at o refl k)

    same_place : KeepsNeeded keep (needs_at (refusal_at s catalog o) s catalog o) → SamePlace s catalog o
    same_place k = place_by (lacks_table s catalog) (lacks_column s catalog) (clashes s catalog) refl k

  -- ---- what references refuse and need

  module _ (s : Statement) (db : List Table) (valid : is_database db ≡ true) (new : KeepsAllNew keep db)
      (t : Table) (found : table_at t.name db ≡ Some t) (fresh : KeepsNew keep t)
      (matched_stays : KeepsNeeded keep (map (matched_row t) (matched s (catalog_of db) t)))
      (k : KeepsNeeded keep (refs_at (refs_of (first_missing_parent s (catalog_of db) t db) (first_orphan s (catalog_of db) t db)) s (catalog_of db) (Some t) db)) where
    abbrev cat : Catalog
    cat = catalog_of db

    abbrev less : List Table
    less = cut_tables keep db

    abbrev t_less : Table
    t_less = cut_table keep t

    abbrev later : List Table
    later = tables_after s cat db

    parents_kept : all_kept keep (parents_of db later t.schema.foreign (new_rows s cat t)) ≡ true
    parents_kept = needed_kept keep P (parents_of db later t.schema.foreign (new_rows s cat t))
        (parents_first keep s cat t db (first_missing_parent s cat t db) (first_orphan s cat t db) k)

    rows_are : new_rows s cat t_less ≡ new_rows s cat t
    rows_are = new_same keep t cat s (matched_same keep t cat s matched_stays)

    after_are : tables_after s cat less ≡ cut_tables keep later
    after_are = in_cut keep s cat (target_of s) db new

    safe_all : (name : List ℕ) → SafeIn keep (table_at name db) (table_at name later)
    safe_all name = safe_changed keep s cat (target_of s) db new name

    missing_is : first_missing_parent s cat t_less less ≡ first_missing_parent s cat t db
    missing_is =
        (λ j. first_in (missing_parents (after_are j) t.schema.foreign (rows_are j)))
        ∙ ap first_in (missing_cut keep db later safe_all t.schema.foreign (new_rows s cat t) parents_kept)

    parents_are : parents_needed s cat t_less less ≡ parents_needed s cat t db
    parents_are =
        (λ j. parents_of less (after_are j) t.schema.foreign (rows_are j))
        ∙ parents_cut keep db later safe_all t.schema.foreign (new_rows s cat t) parents_kept

    orphan_is : first_missing_parent s cat t db ≡ None → first_orphan s cat t_less less ≡ first_orphan s cat t db
    orphan_is none = elim (cases-bool (length t.schema.key == 0)) [
      | inl bare ↦
          let away : list_all (all_elsewhere t.name) db ≡ true = elsewhere db t (parents_of_database db valid) found bare in
          let too : list_all (all_elsewhere t.name) less ≡ true = list_all-map (all_elsewhere t.name) (cut_table keep) db ∙ away in
          ap first_in (no_orphans t.name (is_lost t.schema.key t_less.rows (table_after s cat t_less).rows) (is_changed s cat) less too)
          ∙ sym (ap first_in (no_orphans t.name (is_lost t.schema.key t.rows (table_after s cat t).rows) (is_changed s cat) db away))
      | inr keyed ↦
          let fits : is_valid_table t ≡ true = found-all (is_table t.name) is_valid_table db t (valid_of_database db valid) found in
          orphans_cut keep s cat t db fresh keyed (table-parts t fits).keys (matched_stay keep t cat (matched s cat t) matched_stays)
          (λ orphan is. child_kept keep s cat t db (first_missing_parent s cat t db) (first_orphan s cat t db) none k orphan is is)
    ]

    pub refs_cut : SameRefs s cat cat (Some t_less) (Some t) less db
    refs_cut = same_refs s cat cat t_less t less db missing_is parents_are orphan_is

  -- ---- an INSERT, UPDATE or DELETE

  module _ (s : Statement) (change : IsChange s) (db : List Table) (valid : is_database db ≡ true) (new : KeepsAllNew keep db) (k : KeepsNeeded keep (need_of (Some s) db)) where
    abbrev mid : List Table
    mid = cut_tables keep db

    abbrev c : Catalog
    c = catalog_of db

    abbrev refs : Option SqlRefusal
    refs = reference_refusal s c (target s db) db

    abbrev own : Option SqlRefusal
    own = refusal_at s c (target s db)

    both_needed : KeepsNeeded keep (needs_at (or_else own refs) s c (target s db)) × KeepsNeeded keep (refs_at (or_else own refs) s c (target s db) db)
    both_needed = change_needed keep s change db k

    needed : KeepsNeeded keep (needs_at own s c (target s db))
    needed = subst (KeepsNeeded keep) (own_needed own refs (reference_is s c (target s db) db) s c (target s db)) both_needed.0

    place : SamePlace s c (target s db)
    place = same_place s c (target s db) (λ t is. target_new s db new t is) needed

    refs_by : (o : Option Table) → target s db ≡ o → KeepsNeeded keep (needs_at None s c o)
        → KeepsNeeded keep (refs_at (reference_refusal s c o db) s c o db)
        → SameRefs s c c (option_map (cut_table keep) o) o mid db
    refs_by None is own_k refs_k = no_refs s c c mid db
    refs_by (Some t) is own_k refs_k = refs_cut s db valid new t (target_found s db t is) (target_new s db new t is) own_k refs_k

    -- where the own table refuses nothing
    refs_same : own ≡ None → SameRefs s c c (option_map (cut_table keep) (target s db)) (target s db) mid db
    refs_same none = refs_by (target s db) refl
        (subst (λ (r : Option SqlRefusal). KeepsNeeded keep (needs_at r s c (target s db))) none needed)
        (subst (λ (r : Option SqlRefusal). KeepsNeeded keep (refs_at (or_else r refs) s c (target s db) db)) none both_needed.1)

    pub change_cut : Same (Some s) mid db
    change_cut = same_whole s change mid db (whole_by s change mid db place.refusal
        ((λ j. refusal_at s (catalog_same keep db j) (target_cut s db j)) ∙ place.less)
        place.more
        ((λ j. needs_at place.refusal s (catalog_same keep db j) (target_cut s db j)) ∙ place.needs)
        (on_moved place.refusal (matched_count s (catalog_of mid) (target s mid)) (matched_count s c (option_map (cut_table keep) (target s db))) (matched_count s c (target s db)) (λ j. matched_count s (catalog_same keep db j) (target_cut s db j)) place.count)
        (λ none. moved (refs_same (place.more ∙ none))))
      where
        on_moved : (refusal : Option SqlRefusal) (a b d : ℕ) → a ≡ b → OnNone refusal (b ≡ d)
            → OnNone refusal (a ≡ d)
        on_moved None a b d first second = first ∙ second
        on_moved (Some refusal) a b d first second = tt

        -- the catalog and the table of fewer rows
        moved : SameRefs s c c (option_map (cut_table keep) (target s db)) (target s db) mid db
            → SameRefs s (catalog_of mid) c (target s mid) (target s db) mid db
        moved same = record {
          refusal = same.refusal;
          less = (λ j. reference_refusal s (catalog_same keep db j) (target_cut s db j) mid) ∙ same.less;
          more = same.more;
          needs = (λ j. refs_at same.refusal s (catalog_same keep db j) (target_cut s db j) mid) ∙ same.needs;
        }

  -- ---- the tables after, of any statement

  unless_cut : (s : Statement) (db : List Table) → KeepsAllNew keep db → (refusal : Option SqlRefusal)
      → after_unless refusal (Some s) (cut_tables keep db)
      ≡ cut_tables keep (after_unless refusal (Some s) db)
  unless_cut s db new (Some refusal) = refl
  unless_cut s db new None =
      ap (λ (c : Catalog). changed_in (target_of s) s c (cut_tables keep db)) (catalog_same keep db)
      ∙ in_cut keep s (catalog_of db) (target_of s) db new

  pub after_cut : (s : Statement) (db : List Table) → KeepsAllNew keep db
      → refusal_of (Some s) (cut_tables keep db) ≡ refusal_of (Some s) db
      → after_unless (refusal_of (Some s) (cut_tables keep db)) (Some s) (cut_tables keep db)
      ≡ cut_tables keep (after_unless (refusal_of (Some s) db) (Some s) db)
  after_cut s db new same =
      ap (λ (r : Option SqlRefusal). after_unless r (Some s) (cut_tables keep db)) same
      ∙ unless_cut s db new (refusal_of (Some s) db)

  -- the tables keep their names
  pub asked_cut : (names : List (List ℕ)) (db : List Table)
      → map table_name (filter (is_asked names) (cut_tables keep db))
      ≡ map table_name (filter (is_asked names) db)
  asked_cut names [] = refl
  asked_cut names (t ∷ ts) = elim (cases-bool (is_asked names t)) [
    | inl named ↦ rw named (λ j. t.name ∷ asked_cut names ts j)
    | inr other ↦ rw other (asked_cut names ts)
  ]
