-- The reply of an INSERT, an UPDATE or a DELETE, its needed rows, the tables after it and its row versions,
-- by the parts that depend on its expressions.
use Rattle.std.proofs.Common.{◌≡◌, ℕ, List, [], ◌∷◌, ◌++◌, map, filter, length, Bool, true, refl, ap, ◌∙◌, append-nil}
use Rattle.std.specs.Prelude.{Option, Some, None, if◌then◌else◌}
use Rattle.std.specs.List.{list_any}
use Rattle.sql_cases.proofs.Types.{Catalog, Member, Reply, Changed, Refused, SqlRefusal, Syntax, NoTable, NoColumn, TypeClash, NotNull, KeyTaken, Full, NoParent, HasChild, Statement, TheQuery, TheInsert, TheUpdate, TheDelete, Table}
use Rattle.sql_model.specs.Changes.{or_else, refusal_if, has_null, key_refusal, key_clash, is_full, target_of, table_of, change_refusal, table_after, changed_in, matched}
use Rattle.sql_model.specs.Needs.{Versions, made_by, made_unless, members_made, new_member, next_member, NeededRow, need_of, needs_by, accepted_needs, matched_row, matched_rows, parent_rows, child_rows, key_row, key_rows, had_row, clash_rows, sorted_needs}
use Rattle.sql_model.specs.Refusals.{check_refusal}
use Rattle.sql_model.specs.Scope.{catalog_of, is_table}
use Rattle.sql_model.specs.Statements.{reference_refusal, reply_of, reply_or, accepted_reply, matched_count, refusal_of, target, after, after_unless}
use Rattle.sql_cases.proofs.FreeTables.{else_none, no_reference, no_parent_rows, no_child_rows}
use Rattle.sql_cases.proofs.TermChanges.{Parts, parts_of, made_of, updated, insert_parts, update_parts, delete_parts}
use Rattle.sql_cases.proofs.TermReplies.{made_is, reply_by, need_by, after_by}
use Rattle.sql_cases.proofs.TermStatements.{TermInsert, TermUpdate, TermDelete, statement_of}
use Rattle.sql_cases.proofs.TermStatements as terms
use Rattle.sql_cases.proofs.Terms.{over}

-- ---- where nothing is refused

abbrev schemas : Table → Catalog
schemas table = catalog_of (table ∷ [])

-- the statement changes this table, the only one
abbrev Finds : Statement → Table → Type 0
Finds s table = target s (table ∷ []) ≡ Some table

abbrev count_from : Statement → Parts → Reply
count_from (TheQuery query) p = Changed 0
count_from (TheInsert insert) p = Changed (length insert.rows)
count_from (TheUpdate update) p = Changed (length p.matched)
count_from (TheDelete delete) p = Changed (length p.matched)

counted : (s : Statement) (table : Table) → Finds s table
    → accepted_reply s (table ∷ []) ≡ count_from s (parts_of s (schemas table) table)
counted (TheQuery query) table found = let e : None ≡ Some table = found in cc
counted (TheInsert insert) table found = refl
counted (TheUpdate update) table found =
    λ i. Changed (matched_count (TheUpdate update) (schemas table) (found i))
counted (TheDelete delete) table found =
    λ i. Changed (matched_count (TheDelete delete) (schemas table) (found i))

accepted : (s : Statement) (table : Table) → Finds s table → table.schema.foreign ≡ []
    → accepted_needs s (table ∷ []) ≡ map (matched_row table) (matched s (schemas table) table)
accepted (TheQuery query) table found free = let e : None ≡ Some table = found in cc
accepted (TheInsert insert) table found free =
    (λ i. parent_rows (TheInsert insert) (schemas table) (found i) (table ∷ []))
    ∙ no_parent_rows table free (TheInsert insert) (schemas table)
accepted (TheUpdate update) table found free =
    let s : Statement = TheUpdate update in
    (λ i. matched_rows s (schemas table) (found i) ++ parent_rows s (schemas table) (found i) (table ∷ []))
    ∙ (λ i. matched_rows s (schemas table) (Some table) ++ no_parent_rows table free s (schemas table) i)
    ∙ append-nil (matched_rows s (schemas table) (Some table))
accepted (TheDelete delete) table found free =
    λ i. matched_rows (TheDelete delete) (schemas table) (found i)

abbrev members_from : Versions → Statement → Table → Parts → List Member
members_from versions (TheQuery query) table p = []
members_from versions (TheInsert insert) table p = map (new_member table) p.made
members_from versions (TheUpdate update) table p = map (next_member versions table) p.matched
members_from versions (TheDelete delete) table p = map (next_member versions table) p.matched

members : (versions : Versions) (s : Statement) (table : Table) → Finds s table
    → members_made versions s (schemas table) (target s (table ∷ []))
    ≡ members_from versions s table (parts_of s (schemas table) table)
members versions (TheQuery query) table found = let e : None ≡ Some table = found in cc
members versions (TheInsert insert) table found =
    λ i. members_made versions (TheInsert insert) (schemas table) (found i)
members versions (TheUpdate update) table found =
    λ i. members_made versions (TheUpdate update) (schemas table) (found i)
members versions (TheDelete delete) table found =
    λ i. members_made versions (TheDelete delete) (schemas table) (found i)

-- ---- by the parts

module _ (s : Statement) (table : Table) where
  abbrev here : List Table
  here = table ∷ []

  -- the statement names this table, which has no foreign keys, as the one to be changed
  record IsTarget : Type 0 where
    pub name : List ℕ
    pub target : target_of s ≡ Some name
    pub named : is_table name table ≡ true
    pub free : table.schema.foreign ≡ []

  abbrev parts : Parts
  parts = parts_of s (schemas table) table

  abbrev without_value : Parts → Bool
  without_value p = list_any (has_null table.schema.columns) p.made

  abbrev refusal_from : Parts → Option SqlRefusal
  refusal_from p =
      or_else p.check (or_else (refusal_if (without_value p) NotNull)
      (or_else (key_refusal table (key_clash p.changed)) (refusal_if (is_full s table) Full)))

  abbrev matched_from : Parts → List NeededRow
  matched_from p = map (matched_row table) p.matched

  abbrev clashing_from : Parts → List NeededRow
  clashing_from p = map (key_row table) (filter (had_row table) (clash_rows (key_clash p.changed)))

  abbrev needs_from : Option SqlRefusal → Parts → List NeededRow
  needs_from None p = matched_from p
  needs_from (Some Syntax) p = []
  needs_from (Some NoTable) p = []
  needs_from (Some NoColumn) p = []
  needs_from (Some TypeClash) p = []
  needs_from (Some NotNull) p = matched_from p
  needs_from (Some (KeyTaken t key)) p = matched_from p ++ clashing_from p
  needs_from (Some Full) p = []
  needs_from (Some (NoParent t key)) p = matched_from p
  needs_from (Some (HasChild t key)) p = matched_from p

  abbrev after_from : Option SqlRefusal → Parts → List Table
  after_from None p = p.changed ∷ []
  after_from (Some refusal) p = here

  abbrev reply_from : Option SqlRefusal → Parts → Reply
  reply_from None p = count_from s p
  reply_from (Some refusal) p = Refused refusal

  abbrev made_from : Versions → Option SqlRefusal → Parts → List Member
  made_from versions None p = members_from versions s table p
  made_from versions (Some refusal) p = []

  -- what is answered, needed, left and made, by these parts
  abbrev pub Told : Parts → Type 0
  Told p =
      (reply_of (Some s) here ≡ reply_from (refusal_from p) p)
      × (need_of (Some s) here ≡ sorted_needs (needs_from (refusal_from p) p))
      × (after (Some s) here ≡ after_from (refusal_from p) p)
      × ((versions : Versions)
      → made_by versions (Some s) here ≡ made_from versions (refusal_from p) p)

  module _ (is : IsTarget) where
    found : Finds s table
    found =
        (λ i. table_of (is.target i) here)
        ∙ ap (λ (b : Bool). if b then Some table else None) is.named

    refused : refusal_of (Some s) here ≡ refusal_from parts
    refused =
        (λ i. or_else (or_else (check_refusal s (schemas table)) (change_refusal s (schemas table) (found i)))
        (reference_refusal s (schemas table) (found i) here))
        ∙ ap (or_else (refusal_from parts)) (no_reference table is.free s (schemas table))
        ∙ else_none (refusal_from parts)

    abbrev the_matched : List NeededRow
    the_matched = matched_rows s (schemas table) (Some table)

    without_parents : (matched_rows s (schemas table) (target s here) ++ parent_rows s (schemas table) (target s here) here)
        ≡ matched_from parts
    without_parents =
        (λ i. matched_rows s (schemas table) (found i) ++ parent_rows s (schemas table) (found i) here)
        ∙ (λ i. the_matched ++ no_parent_rows table is.free s (schemas table) i)
        ∙ append-nil the_matched

    without_children : (matched_rows s (schemas table) (target s here)
        ++ (parent_rows s (schemas table) (target s here) here ++ child_rows s (schemas table) (target s here) here))
        ≡ matched_from parts
    without_children =
        (λ i. matched_rows s (schemas table) (found i)
        ++ (parent_rows s (schemas table) (found i) here ++ child_rows s (schemas table) (found i) here))
        ∙ (λ i. the_matched
        ++ (no_parent_rows table is.free s (schemas table) i ++ no_child_rows table is.free s (schemas table) i))
        ∙ append-nil the_matched

    needs : (r : Option SqlRefusal) → needs_by r s here ≡ needs_from r parts
    needs None = accepted s table found is.free
    needs (Some Syntax) = refl
    needs (Some NoTable) = refl
    needs (Some NoColumn) = refl
    needs (Some TypeClash) = refl
    needs (Some NotNull) = λ i. matched_rows s (schemas table) (found i)
    needs (Some (KeyTaken t key)) =
        λ i. matched_rows s (schemas table) (found i) ++ key_rows s (schemas table) (found i)
    needs (Some Full) = refl
    needs (Some (NoParent t key)) = without_parents
    needs (Some (HasChild t key)) = without_children

    abbrev the_changed : Table
    the_changed = table_after s (schemas table) table

    left : (r : Option SqlRefusal) → after_unless r (Some s) here ≡ after_from r parts
    left None =
        (λ i. changed_in (is.target i) s (schemas table) here)
        ∙ ap (λ (b : Bool). (if b then the_changed else table) ∷ []) is.named
    left (Some refusal) = refl

    replies : (r : Option SqlRefusal) → reply_or r (Some s) here ≡ reply_from r parts
    replies None = counted s table found
    replies (Some refusal) = refl

    makes : (versions : Versions) (r : Option SqlRefusal)
        → made_unless r versions (Some s) here ≡ made_from versions r parts
    makes versions None = members versions s table found
    makes versions (Some refusal) = refl

    -- the same by parts that compute
    module _ (p : Parts) (same : parts ≡ p) where
      abbrev r : Option SqlRefusal
      r = refusal_from p

      refusal : refusal_of (Some s) here ≡ r
      refusal = refused ∙ ap refusal_from same

      change_by_parts : Told p
      change_by_parts = (
        reply_by s here r refusal ∙ (replies r ∙ ap (reply_from r) same),
        need_by s here r refusal ∙ ap sorted_needs (needs r ∙ ap (needs_from r) same),
        after_by s here r refusal ∙ (left r ∙ ap (after_from r) same),
        λ versions. made_is versions s here r refusal
            ∙ (makes versions r ∙ ap (made_from versions r) same),
      )

-- ---- each of the three, by what computes over terms

abbrev an_insert : TermInsert → Statement
an_insert insert = statement_of (terms.TheInsert insert)

abbrev insert_over : TermInsert → Table → Parts
insert_over insert table = insert_parts over insert (schemas table) table

pub insert_by_terms : (insert : TermInsert) (table : Table) → is_table insert.table table ≡ true
    → table.schema.foreign ≡ []
    → parts (an_insert insert) table ≡ insert_over insert table
    → Told (an_insert insert) table (insert_over insert table)
insert_by_terms insert table named free same =
    change_by_parts (an_insert insert) table
    (record { name = insert.table; target = refl; named = named; free = free }) (insert_over insert table) same

abbrev an_update : TermUpdate → Statement
an_update update = statement_of (terms.TheUpdate update)

-- the rows are found over terms, and their new values aren't yet
abbrev found_over : TermUpdate → Table → Parts
found_over update table =
    update_parts over (made_of update (schemas table) table) update (schemas table) table

abbrev update_over : TermUpdate → Table → Parts
update_over update table =
    update_parts over (updated over update (schemas table) table) update (schemas table) table

pub update_by_terms : (update : TermUpdate) (table : Table) → is_table update.table table ≡ true
    → table.schema.foreign ≡ []
    → parts (an_update update) table ≡ found_over update table
    → found_over update table ≡ update_over update table
    → Told (an_update update) table (update_over update table)
update_by_terms update table named free rows values =
    change_by_parts (an_update update) table
    (record { name = update.table; target = refl; named = named; free = free })
    (update_over update table) (rows ∙ values)

abbrev a_delete : TermDelete → Statement
a_delete delete = statement_of (terms.TheDelete delete)

abbrev delete_over : TermDelete → Table → Parts
delete_over delete table = delete_parts over delete (schemas table) table

pub delete_by_terms : (delete : TermDelete) (table : Table) → is_table delete.table table ≡ true
    → table.schema.foreign ≡ []
    → parts (a_delete delete) table ≡ delete_over delete table
    → Told (a_delete delete) table (delete_over delete table)
delete_by_terms delete table named free same =
    change_by_parts (a_delete delete) table
    (record { name = delete.table; target = refl; named = named; free = free }) (delete_over delete table) same
