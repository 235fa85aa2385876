-- Over tables without foreign keys a statement needs no row by one, and adds none to the tables.
use Rattle.std.proofs.Common.{◌≡◌, ℕ, suc, List, [], ◌∷◌, ◌++◌, refl, sym, ap, ◌∙◌, Bool, true, false, inl, inr}
use Rattle.std.specs.Prelude.{length, ◌==◌, ◌&&◌, Option, Some, None, map, if◌then◌else◌, filter, option_map, option_to_list}
use Rattle.std.specs.List.{list_all, filter_map, flat_map}
use Rattle.std.proofs.lemmas.Bool.{cases_Bool}
use Rattle.std.proofs.lemmas.Bool.Decides.{Decides-eqb}
use Rattle.ldv_value.proofs.Booleans.{and-parts, and-from}
use Rattle.ldv_value.proofs.Lists.{found-all}
use Rattle.ldv_value.proofs.Options.{none-some}
use Rattle.ldv_value.specs.declared.value.Value.{Value}
use Rattle.sql_model.specs.declared.catalog.Catalog.{Catalog}
use Rattle.sql_model.specs.declared.need.Need.{Need}
use Rattle.sql_model.specs.declared.need.Rule.{Rule}
use Rattle.sql_model.specs.declared.need.Rule.TheVariants.{L, H, K, P, C}
use Rattle.sql_model.specs.declared.reply.SqlRefusal.{SqlRefusal}
use Rattle.sql_model.specs.declared.reply.SqlRefusal.TheVariants.{Syntax, NoTable, NoColumn, TypeClash, NotNull, KeyTaken, Full, NoParent, HasChild}
use Rattle.sql_model.specs.declared.statement.Query.{Query}
use Rattle.sql_model.specs.declared.statement.Statement.{Statement}
use Rattle.sql_model.specs.declared.statement.Statement.TheVariants.{Query as TheQuery, Insert as TheInsert, Update as TheUpdate, Delete as TheDelete}
use Rattle.sql_model.specs.declared.table.Foreign.{Foreign}
use Rattle.sql_model.specs.declared.table.Schema.{Schema}
use Rattle.sql_model.specs.declared.table.Table.{Table}
use Rattle.sql_model.specs.declared.table.TableRow.{TableRow}
use Rattle.sql_model.specs.Changes.{matched, new_rows, table_after, table_of, target_of, changed_in, had_row, key_clash}
use Rattle.sql_model.specs.Needs.{Versions, NeededRow, needed_by, put_row, sorted_needs, is_same_row, is_earlier_row, lineage_rows, hidden_rows, cut_rows, sums_up, matched_row, matched_rows, key_row, key_rows, clash_rows, parent_rows, child_row, child_rows, accepted_needs, needs_by, need_of, needs_of_reading, read_of}
use Rattle.sql_model.specs.QueryAnswer.{Origin, lineage_of, rejected, answer, cut}
use Rattle.sql_model.specs.References.{Child, Orphan, child_of, children, orphan_by, orphans, orphans_of, other_rows, parents_of, reference, tables_after, is_changed, is_lost, first_in}
use Rattle.sql_model.specs.Scope.{catalog_of, is_table}
use Rattle.sql_model.specs.Statements.{target, refusal_of, after_unless, after}
use Rattle.sql_model.proofs.Equations.{after_is, need_is}
use Rattle.package_codec.specs.Plain.{is_plain_rule, is_plain_need}
use Rattle.value_laws.specs.Fitting.{refers_to_none}

-- ---- lists of needed rows

abbrev is_plain_row : NeededRow → Bool
is_plain_row n = is_plain_rule n.rule

abbrev are_plain : List NeededRow → Bool
are_plain ns = list_all is_plain_row ns

origins_plain : (rule : Rule) → is_plain_rule rule ≡ true → (os : List Origin) → are_plain (map (needed_by rule) os) ≡ true
origins_plain rule plain [] = refl
origins_plain rule plain (o ∷ os) = and-from (is_plain_rule rule) (are_plain (map (needed_by rule) os)) plain (origins_plain rule plain os)

matched_plain_rows : (table : Table) (rows : List TableRow) → are_plain (map (matched_row table) rows) ≡ true
matched_plain_rows table [] = refl
matched_plain_rows table (r ∷ rs) = matched_plain_rows table rs

key_plain_rows : (table : Table) (rows : List TableRow) → are_plain (map (key_row table) rows) ≡ true
key_plain_rows table [] = refl
key_plain_rows table (r ∷ rs) = key_plain_rows table rs

both_plain : (xs ys : List NeededRow) → are_plain xs ≡ true → are_plain ys ≡ true → are_plain (xs ++ ys) ≡ true
both_plain [] ys a b = b
both_plain (x ∷ xs) ys a b =
    let parts = and-parts (is_plain_row x) (are_plain xs) a in
    and-from (is_plain_row x) (are_plain (xs ++ ys)) parts.0 (both_plain xs ys parts.1 b)

put_plain : (n : NeededRow) (ms : List NeededRow) → is_plain_row n ≡ true → are_plain ms ≡ true → are_plain (put_row n ms) ≡ true
put_plain n [] a b = and-from (is_plain_row n) true a refl
put_plain n (m ∷ ms) a b =
    let parts = and-parts (is_plain_row m) (are_plain ms) b in
    elim (cases_Bool (is_same_row n m)) [
      | inl same ↦ rw same (and-from (is_plain_row n) (are_plain ms) a parts.1)
      | inr other ↦ elim (cases_Bool (is_earlier_row n m)) [
        | inl earlier ↦ rw (other, earlier) (and-from (is_plain_row n) (are_plain (m ∷ ms)) a b)
        | inr later ↦ rw (other, later) (and-from (is_plain_row m) (are_plain (put_row n ms)) parts.0 (put_plain n ms a parts.1))
      ]
    ]

sorted_plain : (ns : List NeededRow) → are_plain ns ≡ true → are_plain (sorted_needs ns) ≡ true
sorted_plain [] plain = refl
sorted_plain (n ∷ ns) plain =
    let parts = and-parts (is_plain_row n) (are_plain ns) plain in
    put_plain n (sorted_needs ns) parts.0 (sorted_plain ns parts.1)

-- ---- no foreign key

none_in : (fs : List Foreign) → (length fs == 0) ≡ true → fs ≡ []
none_in [] is = refl
none_in (f ∷ fs) is = let some : suc (length fs) ≡ 0 = (Decides-eqb (suc (length fs)) 0).0 is in cc

no_parents : (before after : List Table) (rows : List TableRow) → parents_of before after [] rows ≡ []
no_parents before after [] = refl
no_parents before after (row ∷ rows) = no_parents before after rows

module _ (target_name : List ℕ) (lost : List Value → Bool) where
  no_own : (t : Table) → t.schema.foreign ≡ [] → (rows : List TableRow) (more : List Child)
      → flat_map (orphans_of target_name lost) (map (child_of t) rows ++ more) ≡ flat_map (orphans_of target_name lost) more
  no_own t none [] more = refl
  no_own t none (r ∷ rs) more =
      ap (λ (fs : List Foreign). filter_map (λ foreign. orphan_by target_name lost (child_of t r) foreign (reference foreign r.values)) fs ++ flat_map (orphans_of target_name lost) (map (child_of t) rs ++ more)) none
      ∙ no_own t none rs more

  no_orphans : (has : TableRow → Bool) (ts : List Table) → list_all refers_to_none ts ≡ true
      → flat_map (orphans_of target_name lost) (children has target_name ts) ≡ []
  no_orphans has [] none = refl
  no_orphans has (t ∷ ts) none =
      let parts = and-parts (refers_to_none t) (list_all refers_to_none ts) none in
      no_own t (none_in t.schema.foreign parts.0) (other_rows has target_name t) (children has target_name ts)
      ∙ no_orphans has ts parts.1

-- ---- the needs of a statement

module _ (db : List Table) (none : list_all refers_to_none db ≡ true) where
  found_none : (name : Option (List ℕ)) (t : Table) → table_of name db ≡ Some t → refers_to_none t ≡ true
  found_none None t is = absurd (none-some t is)
  found_none (Some name) t is = found-all (is_table name) refers_to_none db t none is

  parents_none : (s : Statement) (o : Option Table) → target s db ≡ o → parent_rows s (catalog_of db) o db ≡ []
  parents_none s None is = refl
  parents_none s (Some t) is =
      let rows : List TableRow = new_rows s (catalog_of db) t in
      let after : List Table = tables_after s (catalog_of db) db in
      ap (λ (fs : List Foreign). map (needed_by P) (parents_of db after fs rows)) (none_in t.schema.foreign (found_none (target_of s) t is))
      ∙ ap (map (needed_by P)) (no_parents db after rows)

  children_none : (s : Statement) (o : Option Table) → child_rows s (catalog_of db) o db ≡ []
  children_none s None = refl
  children_none s (Some t) =
      ap (λ (os : List Orphan). option_to_list (option_map child_row (first_in os)))
      (no_orphans t.name (is_lost t.schema.key t.rows (table_after s (catalog_of db) t).rows) (is_changed s (catalog_of db)) db none)

  matched_plain : (s : Statement) (o : Option Table) → are_plain (matched_rows s (catalog_of db) o) ≡ true
  matched_plain s None = refl
  matched_plain s (Some t) = matched_plain_rows t (matched s (catalog_of db) t)

  keys_plain : (s : Statement) (o : Option Table) → are_plain (key_rows s (catalog_of db) o) ≡ true
  keys_plain s None = refl
  keys_plain s (Some t) = key_plain_rows t (filter (had_row t) (clash_rows (key_clash (table_after s (catalog_of db) t))))

  parents_plain : (s : Statement) → are_plain (parent_rows s (catalog_of db) (target s db) db) ≡ true
  parents_plain s = ap are_plain (parents_none s (target s db) refl)

  children_plain : (s : Statement) → are_plain (child_rows s (catalog_of db) (target s db) db) ≡ true
  children_plain s = ap are_plain (children_none s (target s db))

  cut_plain : (query : Query) → are_plain (cut_rows query db) ≡ true
  cut_plain query = elim (cases_Bool (sums_up query.cores)) [
    | inl sums ↦ rw sums (origins_plain H refl (lineage_of (cut query db)))
    | inr plain ↦ rw plain refl
  ]

  accepted_plain : (s : Statement) → are_plain (accepted_needs s db) ≡ true
  accepted_plain (TheQuery query) =
      both_plain (lineage_rows query db) (hidden_rows query db) (origins_plain L refl (lineage_of (answer query db)))
      (both_plain (map (needed_by H) (flat_map (rejected db) query.cores)) (cut_rows query db)
      (origins_plain H refl (flat_map (rejected db) query.cores)) (cut_plain query))
  accepted_plain (TheInsert insert) = parents_plain (TheInsert insert)
  accepted_plain (TheUpdate update) =
      both_plain (matched_rows (TheUpdate update) (catalog_of db) (target (TheUpdate update) db))
      (parent_rows (TheUpdate update) (catalog_of db) (target (TheUpdate update) db) db)
      (matched_plain (TheUpdate update) (target (TheUpdate update) db)) (parents_plain (TheUpdate update))
  accepted_plain (TheDelete delete) = matched_plain (TheDelete delete) (target (TheDelete delete) db)

  needs_plain : (s : Statement) (refusal : Option SqlRefusal) → are_plain (needs_by refusal s db) ≡ true
  needs_plain s None = accepted_plain s
  needs_plain s (Some Syntax) = refl
  needs_plain s (Some NoTable) = refl
  needs_plain s (Some NoColumn) = refl
  needs_plain s (Some TypeClash) = refl
  needs_plain s (Some NotNull) = matched_plain s (target s db)
  needs_plain s (Some (KeyTaken table key)) =
      both_plain (matched_rows s (catalog_of db) (target s db)) (key_rows s (catalog_of db) (target s db))
      (matched_plain s (target s db)) (keys_plain s (target s db))
  needs_plain s (Some Full) = refl
  needs_plain s (Some (NoParent table key)) =
      both_plain (matched_rows s (catalog_of db) (target s db)) (parent_rows s (catalog_of db) (target s db) db)
      (matched_plain s (target s db)) (parents_plain s)
  needs_plain s (Some (HasChild table key)) =
      both_plain (matched_rows s (catalog_of db) (target s db))
      (parent_rows s (catalog_of db) (target s db) db ++ child_rows s (catalog_of db) (target s db) db)
      (matched_plain s (target s db))
      (both_plain (parent_rows s (catalog_of db) (target s db) db) (child_rows s (catalog_of db) (target s db) db)
      (parents_plain s) (children_plain s))

  need_plain : (o : Option Statement) → are_plain (need_of o db) ≡ true
  need_plain None = ap are_plain (need_is None db)
  need_plain (Some s) =
      ap are_plain (need_is (Some s) db)
      ∙ sorted_plain (needs_by (refusal_of (Some s) db) s db) (needs_plain s (refusal_of (Some s) db))

  reads_same : (versions : Versions) (ns : List NeededRow) → list_all is_plain_need (map (read_of versions) ns) ≡ are_plain ns
  reads_same versions [] = refl
  reads_same versions (n ∷ ns) = λ j. is_plain_rule n.rule && reads_same versions ns j

  pub reads_plain : (versions : Versions) (o : Option Statement) → list_all is_plain_need (map (read_of versions) (need_of o db)) ≡ true
  reads_plain versions o = reads_same versions (need_of o db) ∙ need_plain o

-- ---- the tables after it

changed_schema : (s : Statement) (catalog : Catalog) (t : Table) → (table_after s catalog t).schema ≡ t.schema
changed_schema (TheQuery query) catalog t = refl
changed_schema (TheInsert insert) catalog t = refl
changed_schema (TheUpdate update) catalog t = refl
changed_schema (TheDelete delete) catalog t = refl

module _ (s : Statement) (catalog : Catalog) (name : List ℕ) where
  abbrev changed_one : Table → Table
  changed_one t = if is_table name t then table_after s catalog t else t

  one_none : (t : Table) → refers_to_none t ≡ true → refers_to_none (changed_one t) ≡ true
  one_none t none = elim (cases_Bool (is_table name t)) [
    | inl hit ↦ rw hit (ap (λ (schema : Schema). length schema.foreign == 0) (changed_schema s catalog t) ∙ none)
    | inr miss ↦ rw miss none
  ]

  changed_none : (ts : List Table) → list_all refers_to_none ts ≡ true → list_all refers_to_none (map changed_one ts) ≡ true
  changed_none [] none = refl
  changed_none (t ∷ ts) none =
      let parts = and-parts (refers_to_none t) (list_all refers_to_none ts) none in
      and-from (refers_to_none (changed_one t)) (list_all refers_to_none (map changed_one ts)) (one_none t parts.0) (changed_none ts parts.1)

named_none : (s : Statement) (catalog : Catalog) (name : Option (List ℕ)) (db : List Table) → list_all refers_to_none db ≡ true
    → list_all refers_to_none (changed_in name s catalog db) ≡ true
named_none s catalog None db none = none
named_none s catalog (Some name) db none = changed_none s catalog name db none

unless_none : (refusal : Option SqlRefusal) (o : Option Statement) (db : List Table) → list_all refers_to_none db ≡ true
    → list_all refers_to_none (after_unless refusal o db) ≡ true
unless_none (Some refusal) o db none = none
unless_none None None db none = none
unless_none None (Some s) db none = named_none s (catalog_of db) (target_of s) db none

pub after_none : (o : Option Statement) (db : List Table) → list_all refers_to_none db ≡ true → list_all refers_to_none (after o db) ≡ true
after_none o db none = ap (list_all refers_to_none) (after_is o db) ∙ unless_none (refusal_of o db) o db none
