-- The refusal, reply and needs of a statement, by parts. An INSERT, UPDATE or DELETE looks at the schemas and
-- at its own table, and if these refuse nothing, at the references between tables.
use Rattle.std.proofs.Common.{◌≡◌, ℕ, List, [], ◌++◌, refl, sym, ap, ◌∙◌, subst, Bool, true, false, append-nil}
use Rattle.std.specs.Prelude.{Option, Some, None, option_map, option_to_list, map, length, if◌then◌else◌}
use Rattle.sql_laws.specs.Types.{Catalog, Reply, Changed, SqlRefusal, Syntax, NoTable, NoColumn, TypeClash, NotNull, KeyTaken, Full, NoParent, HasChild, P, Delete, Insert, Statement, TheInsert, TheUpdate, TheDelete, Update, Table}
pub use Rattle.sql_model.proofs.Equations.{after_is}
use Rattle.sql_model.proofs.Equations.{reply_is, need_is}
use Rattle.sql_model.specs.Changes.{KeyClash, key_clash, key_refusal, table_after, lacks_value, is_full, or_else, refusal_if, change_refusal}
use Rattle.sql_model.specs.Needs.{NeededRow, needed_by, sorted_needs, matched_rows, key_rows, parent_rows, child_row, child_rows, needs_by, need_of}
use Rattle.sql_model.specs.QueryAnswer.{Origin}
use Rattle.sql_model.specs.References.{MissingParent, Orphan, first_missing_parent, first_orphan, parents_needed}
use Rattle.sql_model.specs.Refusals.{lacks_table, lacks_column, clashes, check_refusal}
use Rattle.sql_model.specs.Scope.{catalog_of}
use Rattle.sql_model.specs.Statements.{target, parent_refusal, child_refusal, reference_refusal, refusal_of, matched_count, accepted_reply, reply_or, reply_of}

-- ---- what the definitions are

pub need_parts : (statement : Statement) (db : List Table)
    → need_of (Some statement) db ≡ sorted_needs (needs_by (refusal_of (Some statement) db) statement db)
need_parts statement db = need_is (Some statement) db

pub reply_none : (small whole : List Table) → reply_of None small ≡ reply_of None whole
reply_none small whole = reply_is None small ∙ sym (reply_is None whole)

pub need_none : (small whole : List Table) → need_of None small ≡ need_of None whole
need_none small whole = need_is None small ∙ sym (need_is None whole)

-- ---- over two databases

-- a statement is refused, answers and needs the same
pub record Same (statement : Option Statement) (small : List Table) (whole : List Table) : Type 0 where
  pub refusal : refusal_of statement small ≡ refusal_of statement whole
  pub reply : reply_of statement small ≡ reply_of statement whole
  pub needs : need_of statement small ≡ need_of statement whole

module _ (statement : Statement) (small whole : List Table) where
  -- with the refusal, or the want of one, that both give
  pub record Settled (refusal : Option SqlRefusal) : Type 0 where
    pub reply : reply_or refusal (Some statement) small ≡ reply_or refusal (Some statement) whole
    pub needs : needs_by refusal statement small ≡ needs_by refusal statement whole

  pub same_by : refusal_of (Some statement) small ≡ refusal_of (Some statement) whole
      → Settled (refusal_of (Some statement) whole) → Same (Some statement) small whole
  same_by refused settled = record {
    refusal = refused;
    reply =
        reply_is (Some statement) small
        ∙ ap (λ (r : Option SqlRefusal). reply_or r (Some statement) small) refused
        ∙ settled.reply
        ∙ sym (reply_is (Some statement) whole);
    needs =
        need_is (Some statement) small
        ∙ ap (λ (r : Option SqlRefusal). sorted_needs (needs_by r statement small)) refused
        ∙ ap sorted_needs settled.needs
        ∙ sym (need_is (Some statement) whole);
  }

-- ---- changes

abbrev pub refusal_at : Statement → Catalog → Option Table → Option SqlRefusal
refusal_at statement catalog table = or_else (check_refusal statement catalog) (change_refusal statement catalog table)

-- what is needed of the own table
abbrev pub needs_at : Option SqlRefusal → Statement → Catalog → Option Table → List NeededRow
needs_at None statement catalog table = matched_rows statement catalog table
needs_at (Some Syntax) statement catalog table = []
needs_at (Some NoTable) statement catalog table = []
needs_at (Some NoColumn) statement catalog table = []
needs_at (Some TypeClash) statement catalog table = []
needs_at (Some NotNull) statement catalog table = matched_rows statement catalog table
needs_at (Some (KeyTaken name key)) statement catalog table = matched_rows statement catalog table ++ key_rows statement catalog table
needs_at (Some Full) statement catalog table = []
needs_at (Some (NoParent name key)) statement catalog table = matched_rows statement catalog table
needs_at (Some (HasChild name key)) statement catalog table = matched_rows statement catalog table

-- what is needed for references
abbrev pub refs_at : Option SqlRefusal → Statement → Catalog → Option Table → List Table → List NeededRow
refs_at None statement catalog table db = parent_rows statement catalog table db
refs_at (Some Syntax) statement catalog table db = []
refs_at (Some NoTable) statement catalog table db = []
refs_at (Some NoColumn) statement catalog table db = []
refs_at (Some TypeClash) statement catalog table db = []
refs_at (Some NotNull) statement catalog table db = []
refs_at (Some (KeyTaken name key)) statement catalog table db = []
refs_at (Some Full) statement catalog table db = []
refs_at (Some (NoParent name key)) statement catalog table db = parent_rows statement catalog table db
refs_at (Some (HasChild name key)) statement catalog table db =
    parent_rows statement catalog table db ++ child_rows statement catalog table db

abbrev pub all_at : Option SqlRefusal → Statement → Catalog → Option Table → List Table → List NeededRow
all_at refusal statement catalog table db = needs_at refusal statement catalog table ++ refs_at refusal statement catalog table db

-- it needs by its table and by references, and answers by its table
pub record IsChange (statement : Statement) : Type 0 where
  pub needs : (refusal : Option SqlRefusal) (db : List Table)
      → needs_by refusal statement db ≡ all_at refusal statement (catalog_of db) (target statement db) db
  pub count : ℕ → Reply
  pub reply : (db : List Table)
      → accepted_reply statement db
      ≡ count (matched_count statement (catalog_of db) (target statement db))

module _ (statement : Statement) where
  needs_parts : ((db : List Table) → needs_by None statement db ≡ all_at None statement (catalog_of db) (target statement db) db)
      → (refusal : Option SqlRefusal) (db : List Table)
      → needs_by refusal statement db ≡ all_at refusal statement (catalog_of db) (target statement db) db
  needs_parts accepted None db = accepted db
  needs_parts accepted (Some Syntax) db = refl
  needs_parts accepted (Some NoTable) db = refl
  needs_parts accepted (Some NoColumn) db = refl
  needs_parts accepted (Some TypeClash) db = refl
  needs_parts accepted (Some NotNull) db = sym (append-nil (matched_rows statement (catalog_of db) (target statement db)))
  needs_parts accepted (Some (KeyTaken name key)) db =
      sym (append-nil (matched_rows statement (catalog_of db) (target statement db) ++ key_rows statement (catalog_of db) (target statement db)))
  needs_parts accepted (Some Full) db = refl
  needs_parts accepted (Some (NoParent name key)) db = refl
  needs_parts accepted (Some (HasChild name key)) db = refl

inserts_none : (insert : Insert) (catalog : Catalog) (table : Option Table)
    → [] ≡ matched_rows (TheInsert insert) catalog table
inserts_none insert catalog None = refl
inserts_none insert catalog (Some table) = refl

-- a DELETE has no new rows
deletes_none : (delete : Delete) (catalog : Catalog) (table : Option Table) (db : List Table)
    → parent_rows (TheDelete delete) catalog table db ≡ []
deletes_none delete catalog None db = refl
deletes_none delete catalog (Some table) db = refl

pub insert_change : (insert : Insert) → IsChange (TheInsert insert)
insert_change insert = record {
  needs = needs_parts (TheInsert insert)
      (λ db j. inserts_none insert (catalog_of db) (target (TheInsert insert) db) j ++ parent_rows (TheInsert insert) (catalog_of db) (target (TheInsert insert) db) db);
  count = λ n. Changed (length insert.rows);
  reply = λ db. refl;
}

pub update_change : (update : Update) → IsChange (TheUpdate update)
update_change update = record {
  needs = needs_parts (TheUpdate update) (λ db. refl);
  count = Changed;
  reply = λ db. refl;
}

pub delete_change : (delete : Delete) → IsChange (TheDelete delete)
delete_change delete = record {
  needs = needs_parts (TheDelete delete)
      (λ db.
      let rows : List NeededRow = matched_rows (TheDelete delete) (catalog_of db) (target (TheDelete delete) db) in
      sym (append-nil rows)
      ∙ ap (λ (l : List NeededRow). rows ++ l) (sym (deletes_none delete (catalog_of db) (target (TheDelete delete) db) db)));
  count = Changed;
  reply = λ db. refl;
}

-- where there is no refusal
abbrev pub OnNone : Option SqlRefusal → Type 0 → Type 0
OnNone None A = A
OnNone (Some refusal) A = Unit {0}

pub on_any : (refusal : Option SqlRefusal) {A : Type 0} → A → OnNone refusal A
on_any None a = a
on_any (Some refusal) a = tt

-- ---- the same of two catalogs and tables

module _ (statement : Statement) (change : IsChange statement) (small whole : List Table) where
  -- both have the refusal, or the want of one, and need and match the same
  pub record SameWhole : Type 0 where
    pub refusal : Option SqlRefusal
    pub less : refusal_of (Some statement) small ≡ refusal
    pub more : refusal_of (Some statement) whole ≡ refusal
    pub needs : all_at refusal statement (catalog_of small) (target statement small) small
        ≡ all_at refusal statement (catalog_of whole) (target statement whole) whole
    pub count : OnNone refusal (matched_count statement (catalog_of small) (target statement small)
        ≡ matched_count statement (catalog_of whole) (target statement whole))

  reply_by : (refusal : Option SqlRefusal)
      → OnNone refusal (matched_count statement (catalog_of small) (target statement small)
      ≡ matched_count statement (catalog_of whole) (target statement whole))
      → reply_or refusal (Some statement) small ≡ reply_or refusal (Some statement) whole
  reply_by (Some refusal) same = refl
  reply_by None same = change.reply small ∙ ap change.count same ∙ sym (change.reply whole)

  pub same_whole : SameWhole → Same (Some statement) small whole
  same_whole same = same_by statement small whole (same.less ∙ sym same.more)
      (subst (Settled statement small whole) (sym same.more) (record {
        reply = reply_by same.refusal same.count;
        needs = change.needs same.refusal small ∙ same.needs ∙ sym (change.needs same.refusal whole);
      }))

-- ---- references

-- what a missing parent and a child refuse
abbrev pub refs_of : Option MissingParent → Option Orphan → Option SqlRefusal
refs_of m n = or_else (option_map parent_refusal m) (option_map child_refusal n)

abbrev parents_of_rows : List Origin → List NeededRow
parents_of_rows origins = map (needed_by P) origins

abbrev child_of_row : Option Orphan → List NeededRow
child_of_row n = option_to_list (option_map child_row n)

-- references refuse the same, and need the same for it
pub record SameRefs (s : Statement) (c1 c2 : Catalog) (o1 o2 : Option Table) (small whole : List Table) : Type 0 where
  pub refusal : Option SqlRefusal
  pub less : reference_refusal s c1 o1 small ≡ refusal
  pub more : reference_refusal s c2 o2 whole ≡ refusal
  pub needs : refs_at refusal s c1 o1 small ≡ refs_at refusal s c2 o2 whole

pub no_refs : (s : Statement) (c1 c2 : Catalog) (small whole : List Table) → SameRefs s c1 c2 None None small whole
no_refs s c1 c2 small whole = record { refusal = None; less = refl; more = refl; needs = refl }

module _ (s : Statement) (c1 c2 : Catalog) (t1 t2 : Table) (small whole : List Table) where
  abbrev missing_less : Option MissingParent
  missing_less = first_missing_parent s c1 t1 small

  abbrev missing_more : Option MissingParent
  missing_more = first_missing_parent s c2 t2 whole

  abbrev orphan_less : Option Orphan
  orphan_less = first_orphan s c1 t1 small

  abbrev orphan_more : Option Orphan
  orphan_more = first_orphan s c2 t2 whole

  module _ (missing : missing_less ≡ missing_more) (parents : parents_needed s c1 t1 small ≡ parents_needed s c2 t2 whole)
      (orphan : missing_more ≡ None → orphan_less ≡ orphan_more) where
    by_child : (n : Option Orphan) → missing_more ≡ None
        → refs_at (option_map child_refusal n) s c1 (Some t1) small ≡ refs_at (option_map child_refusal n) s c2 (Some t2) whole
    by_child None none = ap parents_of_rows parents
    by_child (Some y) none = λ j. parents_of_rows (parents j) ++ child_of_row (orphan none j)

    by_missing : (m : Option MissingParent) → missing_more ≡ m → SameRefs s c1 c2 (Some t1) (Some t2) small whole
    by_missing (Some x) is = record {
      refusal = Some (parent_refusal x);
      less = ap (λ (m : Option MissingParent). refs_of m orphan_less) (missing ∙ is);
      more = ap (λ (m : Option MissingParent). refs_of m orphan_more) is;
      needs = ap parents_of_rows parents;
    }
    by_missing None none = record {
      refusal = option_map child_refusal orphan_more;
      less = λ j. refs_of ((missing ∙ none) j) (orphan none j);
      more = ap (λ (m : Option MissingParent). refs_of m orphan_more) none;
      needs = by_child orphan_more none;
    }

    pub same_refs : SameRefs s c1 c2 (Some t1) (Some t2) small whole
    same_refs = by_missing missing_more refl

-- what only references refuse, or nothing
abbrev pub IsReference : Option SqlRefusal → Type 0
IsReference None = Unit {0}
IsReference (Some Syntax) = ⊥
IsReference (Some NoTable) = ⊥
IsReference (Some NoColumn) = ⊥
IsReference (Some TypeClash) = ⊥
IsReference (Some NotNull) = ⊥
IsReference (Some (KeyTaken name key)) = ⊥
IsReference (Some Full) = ⊥
IsReference (Some (NoParent name key)) = Unit {0}
IsReference (Some (HasChild name key)) = Unit {0}

refs_of_is : (m : Option MissingParent) (n : Option Orphan) → IsReference (refs_of m n)
refs_of_is (Some x) n = tt
refs_of_is None (Some y) = tt
refs_of_is None None = tt

pub reference_is : (s : Statement) (c : Catalog) (o : Option Table) (db : List Table) → IsReference (reference_refusal s c o db)
reference_is s c None db = tt
reference_is s c (Some t) db = refs_of_is (first_missing_parent s c t db) (first_orphan s c t db)

-- then the matched rows are needed of the own table
pub reference_needs : (r : Option SqlRefusal) → IsReference r → (s : Statement) (c : Catalog) (o : Option Table)
    → needs_at r s c o ≡ matched_rows s c o
reference_needs None is s c o = refl
reference_needs (Some Syntax) is s c o = absurd is
reference_needs (Some NoTable) is s c o = absurd is
reference_needs (Some NoColumn) is s c o = absurd is
reference_needs (Some TypeClash) is s c o = absurd is
reference_needs (Some NotNull) is s c o = absurd is
reference_needs (Some (KeyTaken name key)) is s c o = absurd is
reference_needs (Some Full) is s c o = absurd is
reference_needs (Some (NoParent name key)) is s c o = refl
reference_needs (Some (HasChild name key)) is s c o = refl

-- what the schemas and the own table refuse
abbrev pub IsOwn : Option SqlRefusal → Type 0
IsOwn None = Unit {0}
IsOwn (Some Syntax) = Unit {0}
IsOwn (Some NoTable) = Unit {0}
IsOwn (Some NoColumn) = Unit {0}
IsOwn (Some TypeClash) = Unit {0}
IsOwn (Some NotNull) = Unit {0}
IsOwn (Some (KeyTaken name key)) = Unit {0}
IsOwn (Some Full) = Unit {0}
IsOwn (Some (NoParent name key)) = ⊥
IsOwn (Some (HasChild name key)) = ⊥

own_else : (a b : Option SqlRefusal) → IsOwn a → IsOwn b → IsOwn (or_else a b)
own_else None b own_a own_b = own_b
own_else (Some a) b own_a own_b = own_a

own_checked : (two three four : Bool)
    → IsOwn (if two then Some NoTable else (if three then Some NoColumn else (if four then Some TypeClash else None)))
own_checked true three four = tt
own_checked false true four = tt
own_checked false false true = tt
own_checked false false false = tt

own_if : (b : Bool) (refusal : SqlRefusal) → IsOwn (Some refusal) → IsOwn (refusal_if b refusal)
own_if true refusal own = own
own_if false refusal own = tt

own_key : (t : Table) (o : Option KeyClash) → IsOwn (key_refusal t o)
own_key t None = tt
own_key t (Some clash) = tt

own_changed : (s : Statement) (c : Catalog) (o : Option Table) → IsOwn (change_refusal s c o)
own_changed s c None = tt
own_changed s c (Some t) =
    own_else (refusal_if (lacks_value s c t) NotNull) (or_else (key_refusal t (key_clash (table_after s c t))) (refusal_if (is_full s t) Full))
    (own_if (lacks_value s c t) NotNull tt)
    (own_else (key_refusal t (key_clash (table_after s c t))) (refusal_if (is_full s t) Full) (own_key t (key_clash (table_after s c t))) (own_if (is_full s t) Full tt))

pub own_is : (s : Statement) (c : Catalog) (o : Option Table) → IsOwn (refusal_at s c o)
own_is s c o =
    own_else (check_refusal s c) (change_refusal s c o) (own_checked (lacks_table s c) (lacks_column s c) (clashes s c)) (own_changed s c o)

own_no_refs : (r : SqlRefusal) → IsOwn (Some r) → (s : Statement) (c : Catalog) (o : Option Table) (db : List Table)
    → refs_at (Some r) s c o db ≡ []
own_no_refs Syntax own s c o db = refl
own_no_refs NoTable own s c o db = refl
own_no_refs NoColumn own s c o db = refl
own_no_refs TypeClash own s c o db = refl
own_no_refs NotNull own s c o db = refl
own_no_refs (KeyTaken name key) own s c o db = refl
own_no_refs Full own s c o db = refl
own_no_refs (NoParent name key) own s c o db = absurd own
own_no_refs (HasChild name key) own s c o db = absurd own

-- the needs of the own table are those of what it refuses, also where references refuse
pub own_needed : (r q : Option SqlRefusal) → IsReference q → (s : Statement) (c : Catalog) (o : Option Table)
    → needs_at (or_else r q) s c o ≡ needs_at r s c o
own_needed (Some refusal) q is s c o = refl
own_needed None q is s c o = reference_needs q is s c o

-- ---- the own table, and then references

module _ (s : Statement) (change : IsChange s) (small whole : List Table) where
  abbrev c1 : Catalog
  c1 = catalog_of small

  abbrev c2 : Catalog
  c2 = catalog_of whole

  abbrev o1 : Option Table
  o1 = target s small

  abbrev o2 : Option Table
  o2 = target s whole

  pub whole_by : (r : Option SqlRefusal) → refusal_at s c1 o1 ≡ r → refusal_at s c2 o2 ≡ r
      → needs_at r s c1 o1 ≡ needs_at r s c2 o2
      → OnNone r (matched_count s c1 o1 ≡ matched_count s c2 o2)
      → (r ≡ None → SameRefs s c1 c2 o1 o2 small whole)
      → SameWhole s change small whole
  whole_by (Some r) less more needs count refs =
      let own : IsOwn (Some r) = subst IsOwn more (own_is s c2 o2) in record {
        refusal = Some r;
        less = ap (λ (o : Option SqlRefusal). or_else o (reference_refusal s c1 o1 small)) less;
        more = ap (λ (o : Option SqlRefusal). or_else o (reference_refusal s c2 o2 whole)) more;
        needs = λ j. needs j ++ (own_no_refs r own s c1 o1 small ∙ sym (own_no_refs r own s c2 o2 whole)) j;
        count = tt;
      }
  whole_by None less more needs count refs =
      let same : SameRefs s c1 c2 o1 o2 small whole = refs refl in
      let is : IsReference same.refusal = subst IsReference same.more (reference_is s c2 o2 whole) in record {
        refusal = same.refusal;
        less = ap (λ (o : Option SqlRefusal). or_else o (reference_refusal s c1 o1 small)) less ∙ same.less;
        more = ap (λ (o : Option SqlRefusal). or_else o (reference_refusal s c2 o2 whole)) more ∙ same.more;
        needs = λ j. (reference_needs same.refusal is s c1 o1 ∙ needs ∙ sym (reference_needs same.refusal is s c2 o2)) j ++ same.needs j;
        count = on_any same.refusal count;
      }
