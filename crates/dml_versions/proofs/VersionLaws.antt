-- The versions of rows after a change of a table.
use Rattle.std.proofs.Common.{◌≡◌, ◌==◌, ℕ, ◌+◌, ◌-◌, ◌<◌, inl, inr, Bool, true, false, cond, List, [], ◌∷◌, ◌++◌, map, length, refl, ap, sym, ◌∙◌, subst, arith, length-append, Option, Some, None, is_some}
use Rattle.std.specs.Prelude.{find, if◌then◌else◌}
use Rattle.std.specs.List.{list_any, AllByRecursion}
use Rattle.std.specs.Option.{option_map, option_or}
use Rattle.ldv_value.proofs.Cases.{cases-bool}
use Rattle.ldv_value.proofs.Lists.{found-passes, find-append}
use Rattle.ldv_value.proofs.Options.{same-some}
use Rattle.ldv_value.proofs.SameBytes.{bytes_eq-true, bytes_eq-itself, nat_eq-true}
use Rattle.row_version.proofs.Later.{current_after}
use Rattle.row_version.specs.History.{Change, write_at, delete_at, current_values, version}
use Rattle.sql_model.specs.Needs.{versions_after, is_row_of}
use Rattle.sql_model.specs.QueryAnswer.{Origin}
use Rattle.sql_model.specs.Scope.{same_text}
use Rattle.table_store.specs.Histories.{RowHistory, TableHistory, StoreHistory, is_of_number, history_of_row, history_at, history_of_new_row, with_change, changed_by, row_write, rows_with_values, row_delete, in_table, changed_at}
use Rattle.dml_versions.proofs.StandingLaws.{IsStanding}
use Rattle.dml_versions.proofs.TableLaws.{history-after, history-name, in-table-named, in-table-other}
use Rattle.dml_versions.specs.Types.{TableRow, Value}
use Rattle.dml_versions.specs.Versions.{updates, updates_of, updates_in, versions_now}

-- ---- one row

abbrev begun : List Change → Type 0
begun changes = is_some (current_values changes) ≡ true

some_changes : (changes : List Change) → begun changes → 0 < length changes
some_changes [] is = cc
some_changes (c ∷ cs) is = omega arith

version_more : (changes : List Change) (change : Change) → begun changes → version (changes ++ change ∷ []) ≡ version changes + 1
version_more changes change is = omega (arith, length-append changes (change ∷ []), some_changes changes is)

updates_now : (changes : List Change) → begun changes → updates changes ≡ version changes
updates_now changes is = ap (λ b. cond b (version changes) (version changes - 1)) is

updates_written : (changes : List Change) (time : ℕ) (values : List Value) → begun changes → updates (changes ++ write_at time values ∷ []) ≡ updates changes + 1
updates_written changes time values is =
    ap (λ (o : Option (List Value)). cond (is_some o) (version (changes ++ write_at time values ∷ [])) (version (changes ++ write_at time values ∷ []) - 1)) (current_after changes (write_at time values))
    ∙ version_more changes (write_at time values) is
    ∙ ap (λ (n : ℕ). n + 1) (sym (updates_now changes is))

back : (n : ℕ) → n + 1 - 1 ≡ n
back n = omega arith

updates_deleted : (changes : List Change) (time : ℕ) → begun changes → updates (changes ++ delete_at time ∷ []) ≡ updates changes
updates_deleted changes time is =
    ap (λ (o : Option (List Value)). cond (is_some o) (version (changes ++ delete_at time ∷ [])) (version (changes ++ delete_at time ∷ []) - 1)) (current_after changes (delete_at time))
    ∙ ap (λ (n : ℕ). n - 1) (version_more changes (delete_at time) is)
    ∙ back (version changes)
    ∙ sym (updates_now changes is)

-- ---- the rows of a table

number_kept : (changes : List (ℕ × Change)) (row : RowHistory) → (changed_by changes row).number ≡ row.number
number_kept changes row = by (find (λ change. change.0 == row.number) changes)
  where
    by : (o : Option (ℕ × Change)) → (with_change o row).number ≡ row.number
    by None = refl
    by (Some change) = refl

found_changed : (changes : List (ℕ × Change)) (number : ℕ) (slots : List RowHistory)
    → history_of_row number (map (changed_by changes) slots) ≡ option_map (changed_by changes) (history_of_row number slots)
found_changed changes number [] = refl
found_changed changes number (row ∷ slots) =
    let same : is_of_number number (changed_by changes row) ≡ is_of_number number row = ap (λ (n : ℕ). n == number) (number_kept changes row) in
    elim (cases-bool (is_of_number number row)) [
      | inl hit ↦ rw (same ∙ hit, hit) refl
      | inr miss ↦ rw (same ∙ miss, miss) (found_changed changes number slots)
    ]

find_mapped : {X Y : Type 0} (f : X → Y) (p : Y → Bool) (xs : List X) → find p (map f xs) ≡ option_map f (find (λ x. p (f x)) xs)
find_mapped f p [] = refl
find_mapped f p (x ∷ xs) = elim (cases-bool (p (f x))) [
  | inl hit ↦ rw hit refl
  | inr miss ↦ rw miss (find_mapped f p xs)
]

any_found : {X : Type 0} (p : X → Bool) (xs : List X) → list_any p xs ≡ is_some (find p xs)
any_found p [] = refl
any_found p (x ∷ xs) = elim (cases-bool (p x)) [
  | inl hit ↦ rw hit refl
  | inr miss ↦ rw miss (any_found p xs)
]

all_found : {X : Type 0} (P : X → Type 0) (p : X → Bool) (xs : List X) (x : X) → AllByRecursion P xs → find p xs ≡ Some x → P x
all_found P p [] x all is = cc
all_found P p (y ∷ ys) x all is = elim (cases-bool (p y)) [
  | inl hit ↦ let e : Some y ≡ Some x = rw hit at is in subst P (same-some y x e) all.0
  | inr miss ↦ all_found P p ys x all.1 (rw miss at is)
]

abbrev has_number : ℕ → TableRow → Bool
has_number number row = row.number == number

module _ (slots : List RowHistory) where
  -- rows that stand, each changed
  module _ (rows : List TableRow) (stand : AllByRecursion (λ row. IsStanding slots row.number) rows) (change : TableRow → ℕ × Change)
      (same : (row : TableRow) → (change row).0 ≡ row.number) where
    abbrev changes : List (ℕ × Change)
    changes = map change rows

    found_change : (number : ℕ) → find (λ c. c.0 == number) changes ≡ option_map change (find (has_number number) rows)
    found_change number = find_mapped change (λ c. c.0 == number) rows ∙ ap (λ (p : TableRow → Bool). option_map change (find p rows)) (λ j row. same row j == number)

    -- what is there of a number afterwards, where some row has it
    changed_some : (number : ℕ) (row : TableRow) → find (has_number number) rows ≡ Some row
        → (old : RowHistory) × (history_of_row number slots ≡ Some old) × begun old.changes
        × (history_of_row number (map (changed_by changes) slots) ≡ Some (record { number = old.number; changes = old.changes ++ (change row).1 ∷ [] }))
    changed_some number row is =
        let s : IsStanding slots row.number = all_found (λ (r : TableRow). IsStanding slots r.number) (has_number number) rows row stand is in
        let number_is : row.number ≡ number = nat_eq-true row.number number (found-passes (has_number number) rows row is) in
        let old_is : history_of_row number slots ≡ Some s.row = ap (λ (n : ℕ). history_of_row n slots) (sym number_is) ∙ s.is in
        let own : s.row.number ≡ number = nat_eq-true s.row.number number (found-passes (is_of_number number) slots s.row old_is) in
        let found : find (λ (c : ℕ × Change). c.0 == s.row.number) changes ≡ Some (change row) =
        ap (λ (n : ℕ). find (λ (c : ℕ × Change). c.0 == n) changes) own ∙ found_change number ∙ ap (option_map change) is in
        (s.row, old_is, s.now, found_changed changes number slots ∙ ap (option_map (changed_by changes)) old_is ∙ ap (λ (o : Option (ℕ × Change)). Some (with_change o s.row)) found)

    -- and where none has it
    changed_none : (number : ℕ) → find (has_number number) rows ≡ None → history_of_row number (map (changed_by changes) slots) ≡ history_of_row number slots
    changed_none number none = found_changed changes number slots ∙ by (history_of_row number slots) refl
      where
        by : (o : Option RowHistory) → history_of_row number slots ≡ o → option_map (changed_by changes) o ≡ o
        by None is = refl
        by (Some old) is =
            let own : old.number ≡ number = nat_eq-true old.number number (found-passes (is_of_number number) slots old is) in
            ap (λ (o : Option (ℕ × Change)). Some (with_change o old)) (ap (λ (n : ℕ). find (λ (c : ℕ × Change). c.0 == n) changes) own ∙ found_change number ∙ ap (option_map change) none)

  -- one more for each row that is written
  pub updates-rows_with_values : (time : ℕ) (rows : List TableRow) → AllByRecursion (λ row. IsStanding slots row.number) rows → (number : ℕ)
      → updates_of (history_of_row number (rows_with_values time rows slots)) ≡ (if list_any (has_number number) rows then updates_of (history_of_row number slots) + 1 else updates_of (history_of_row number slots))
  updates-rows_with_values time rows stand number = by (find (has_number number) rows) refl
    where
      any_is : (o : Option TableRow) → find (has_number number) rows ≡ o → list_any (has_number number) rows ≡ is_some o
      any_is o is = any_found (has_number number) rows ∙ ap is_some is

      by : (o : Option TableRow) → find (has_number number) rows ≡ o
          → updates_of (history_of_row number (rows_with_values time rows slots)) ≡ (if list_any (has_number number) rows then updates_of (history_of_row number slots) + 1 else updates_of (history_of_row number slots))
      by None is = rw (any_is None is) (ap updates_of (changed_none rows stand (row_write time) (λ row. refl) number is))
      by (Some row) is =
          let c = changed_some rows stand (row_write time) (λ row. refl) number row is in
          rw (any_is (Some row) is) (ap updates_of c.3 ∙ updates_written c.0.changes time row.values c.2 ∙ sym (ap (λ (o : Option RowHistory). updates_of o + 1) c.1))

  -- a row that is dropped keeps its number of updates
  pub updates-dropped : (time : ℕ) (rows : List TableRow) → AllByRecursion (λ row. IsStanding slots row.number) rows → (number : ℕ)
      → updates_of (history_of_row number (map (changed_by (map (λ row. row_delete time row.number) rows)) slots)) ≡ updates_of (history_of_row number slots)
  updates-dropped time rows stand number = by (find (has_number number) rows) refl
    where
      by : (o : Option TableRow) → find (has_number number) rows ≡ o
          → updates_of (history_of_row number (map (changed_by (map (λ row. row_delete time row.number) rows)) slots)) ≡ updates_of (history_of_row number slots)
      by None is = ap updates_of (changed_none rows stand (λ row. row_delete time row.number) (λ row. refl) number is)
      by (Some row) is =
          let c = changed_some rows stand (λ row. row_delete time row.number) (λ row. refl) number row is in
          ap updates_of c.3 ∙ updates_deleted c.0.changes time c.2 ∙ sym (ap updates_of c.1)

  -- new rows have none
  new_none : (time number : ℕ) (rows : List TableRow) → updates_of (history_of_row number (map (history_of_new_row time) rows)) ≡ 0
  new_none time number [] = refl
  new_none time number (row ∷ rows) = elim (cases-bool (row.number == number)) [
    | inl hit ↦ rw hit refl
    | inr miss ↦ rw miss (new_none time number rows)
  ]

  pub updates-history_of_new_row : (time : ℕ) (rows : List TableRow) (number : ℕ) → updates_of (history_of_row number (slots ++ map (history_of_new_row time) rows)) ≡ updates_of (history_of_row number slots)
  updates-history_of_new_row time rows number =
      ap updates_of (find-append (is_of_number number) slots (map (history_of_new_row time) rows)) ∙ by (history_of_row number slots)
    where
      by : (o : Option RowHistory) → updates_of (option_or o (history_of_row number (map (history_of_new_row time) rows))) ≡ updates_of o
      by None = new_none time number rows
      by (Some row) = refl

-- ---- the versions of a store

turned : (a b : List ℕ) → same_text a b ≡ false → same_text b a ≡ false
turned a b miss = elim (cases-bool (same_text b a)) [
  | inl hit ↦
      let back : same_text a b ≡ true = subst (λ (n : List ℕ). same_text n b ≡ true) (bytes_eq-true b a hit) (bytes_eq-itself b) in
      let wrong : true ≡ false = sym back ∙ miss in
      cc
  | inr other ↦ other
]

module _ (name : List ℕ) (store : StoreHistory) (table : TableHistory) (found : history_at name store ≡ Some table)
    (time : ℕ) (change : TableHistory → TableHistory) (kept : (t : TableHistory) → (change t).name ≡ t.name) where
  other_table : (other : List ℕ) (number : ℕ) → same_text name other ≡ false → (o : Option TableHistory) → history_at other store ≡ o
      → updates_in number (option_map (in_table name change) o) ≡ updates_in number o
  other_table other number miss None is = refl
  other_table other number miss (Some t) is =
      let named : t.name ≡ other = history-name other store t is in
      let apart : same_text t.name name ≡ false = ap (λ (n : List ℕ). same_text n name) named ∙ turned name other miss in
      ap (λ (u : TableHistory). updates_in number (Some u)) (in-table-other name change t apart)

  -- where the table of the name has them so, the store has
  module _ (updated : List Origin) (others : (other : List ℕ) (number : ℕ) → same_text name other ≡ false → list_any (is_row_of other number) updated ≡ false)
      (own : (number : ℕ) → updates_of (history_of_row number (change table).slots)
      ≡ (if list_any (is_row_of name number) updated then updates_of (history_of_row number table.slots) + 1 else updates_of (history_of_row number table.slots))) where
    version_at : (other : List ℕ) (number : ℕ) → versions_now (changed_at time name change store) other number ≡ versions_after updated (versions_now store) other number
    version_at other number = elim (cases-bool (same_text name other)) [
      | inl hit ↦
          subst (λ (n : List ℕ). versions_now (changed_at time name change store) n number ≡ versions_after updated (versions_now store) n number) (bytes_eq-true name other hit)
          (ap (updates_in number) (history-after name change kept time store name ∙ ap (option_map (in_table name change)) found ∙ ap Some (in-table-named name change table (history-name name store table found)))
          ∙ own number
          ∙ sym (ap (λ (o : Option TableHistory). if list_any (is_row_of name number) updated then updates_in number o + 1 else updates_in number o) found))
      | inr miss ↦
          ap (updates_in number) (history-after name change kept time store other)
          ∙ other_table other number miss (history_at other store) refl
          ∙ sym (ap (λ b. if b then versions_now store other number + 1 else versions_now store other number) (others other number miss))
    ]

    pub versions-changed : versions_now (changed_at time name change store) ≡ versions_after updated (versions_now store)
    versions-changed = λ j other number. version_at other number j
