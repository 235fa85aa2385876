-- The children that lose their parents, by the rows that are given or deleted.
use Rattle.std.proofs.Common.{◌≡◌, ℕ, List, [], ◌∷◌, ◌++◌, refl, sym, ap, ◌∙◌, Bool, true, false, inl, inr}
use Rattle.std.specs.Prelude.{Option, Some, None, map, filter, length, not, ◌&&◌, ◌||◌, ◌==◌, if◌then◌else◌}
use Rattle.std.specs.List.{flat_map, list_any}
use Rattle.std.specs.Option.{option_and_then}
use Rattle.std.proofs.lemmas.Bool.{cases_Bool}
use Rattle.std.proofs.lemmas.List.Folds.{flat_map-map}
use Rattle.std.proofs.lemmas.Grind.{flat_map-append as flat_append}
use Rattle.ldv_value.proofs.Booleans.{or-comm, or-false}
use Rattle.ldv_value.specs.Options.{first_some}
use Rattle.sql_model.proofs.Elsewhere.{no_orphans, elsewhere}
use Rattle.sql_model.proofs.ReferenceLists.{any_split, lost_same}
use Rattle.sql_model.proofs.UniqueRows.{apart_from}
use Rattle.sql_model.specs.ForeignKeys.{have_parents}
use Rattle.sql_model.specs.References.{Child, Orphan, first_in, reference, has_key, is_lost, orphan_by, orphans_of, other_rows, child_of, children, orphans}
use Rattle.sql_model.specs.Scope.{is_table, same_text, table_at, catalog_of}
use Rattle.sql_model.specs.Tables.{are_keys_unique}
use Rattle.sql_model.proofs.UniqueKeys.{values_in}
use Rattle.table_store.specs.inner.Afterwards.{loses, is_other, refers_to, orphan_in_row, orphan_in_other, orphan_in_slot, orphan_in_table, orphan_in_tables}
use Rattle.table_store.specs.Histories.{TableHistory, row_now, rows_now, table_now}
use Rattle.table_store.specs.Stops.{is_among, with_removed, with_replaced, had_rows}
use Rattle.table_store.specs.Types.{Foreign, Table, TableRow, Value}
use Rattle.table_store.proofs.FirstLaws.{first_flat, first_filter_map, first_agree, first_filter, first_filtered, first_none, first_none_of}
use Rattle.table_store.proofs.PutLaws.{TakesPlace, any_same, replaced_has}
use Rattle.table_store.proofs.GridLaws.{and_turned}

-- ---- the first child, table by table and slot by slot

module _ (has : TableRow → Bool) (target : List ℕ) (lost : List Value → Bool) where
  in_row : (t : Table) (row : TableRow) → first_in (orphans_of target lost (child_of t row)) ≡ orphan_in_row target lost t row
  in_row t row = first_filter_map (λ (f : Foreign). orphan_by target lost (child_of t row) f (reference f row.values)) t.schema.foreign

  in_others : (t : Table) (rows : List TableRow)
      → first_some (orphan_in_row target lost t) (if is_table target t then filter (λ row. not (has row)) rows else rows)
      ≡ first_some (orphan_in_other has target lost t) rows
  in_others t rows = by (is_table target t)
    where
      by : (b : Bool) → first_some (orphan_in_row target lost t) (if b then filter (λ row. not (has row)) rows else rows)
          ≡ first_some (λ row. if not (b && has row) then orphan_in_row target lost t row else None) rows
      by true = first_filter (orphan_in_row target lost t) (λ row. not (has row)) rows
      by false = refl

  in_table : (h : TableHistory)
      → first_in (flat_map (orphans_of target lost) (map (child_of (table_now h)) (other_rows has target (table_now h))))
      ≡ orphan_in_table has target lost h
  in_table h =
      let t : Table = table_now h in
      ap first_in (flat_map-map (orphans_of target lost) (child_of t) (other_rows has target t))
      ∙ first_flat (λ row. orphans_of target lost (child_of t row)) (other_rows has target t)
      ∙ first_agree (λ row. first_in (orphans_of target lost (child_of t row))) (orphan_in_row target lost t) (in_row t) (other_rows has target t)
      ∙ in_others t (rows_now h.slots)
      ∙ first_filtered (orphan_in_other has target lost t) row_now h.slots

  flat_flat : {X Y Z : Type 0} (f : Y → List Z) (g : X → List Y) (xs : List X) → flat_map f (flat_map g xs) ≡ flat_map (λ x. flat_map f (g x)) xs
  flat_flat f g [] = refl
  flat_flat {Z = Z} f g (x ∷ xs) = flat_append f (g x) (flat_map g xs) ∙ ap (λ (l : List Z). flat_map f (g x) ++ l) (flat_flat f g xs)

  pub in_tables : (hs : List TableHistory)
      → first_in (flat_map (orphans_of target lost) (children has target (map table_now hs))) ≡ orphan_in_tables has target lost hs
  in_tables hs =
      let own : Table → List Child = λ (t : Table). map (child_of t) (other_rows has target t) in
      ap first_in (flat_flat (orphans_of target lost) own (map table_now hs) ∙ flat_map-map (λ (t : Table). flat_map (orphans_of target lost) (own t)) table_now hs)
      ∙ first_flat (λ (h : TableHistory). flat_map (orphans_of target lost) (own (table_now h))) hs
      ∙ first_agree (λ (h : TableHistory). first_in (flat_map (orphans_of target lost) (own (table_now h)))) (orphan_in_table has target lost) in_table hs

-- ---- tables that don't refer to the target

module _ (has : TableRow → Bool) (target : List ℕ) (lost : List Value → Bool) where
  away_by : (child : Child) (f : Foreign) → same_text f.parent target ≡ false → (r : Option (List Value)) → orphan_by target lost child f r ≡ None
  away_by child f away None = refl
  away_by child f away (Some key) =
      ap (λ (b : Bool). if b && lost key then Some (record { table = child.table; row = child.row.number; key = key }) else None) away

  away_row : (t : Table) → refers_to target t ≡ false → (row : TableRow) → orphan_in_row target lost t row ≡ None
  away_row t away row =
      first_none_of (λ (f : Foreign). orphan_by target lost (child_of t row) f (reference f row.values)) (λ (f : Foreign). same_text f.parent target)
      (λ f other. away_by (child_of t row) f other (reference f row.values)) t.schema.foreign away

  away_other : (b : Bool) (o : Option Orphan) → o ≡ None → (if b then o else None) ≡ None
  away_other true o none = none
  away_other false o none = refl

  away_slot : (t : Table) → refers_to target t ≡ false → (o : Option TableRow) → option_and_then (orphan_in_other has target lost t) o ≡ None
  away_slot t away None = refl
  away_slot t away (Some row) = away_other (is_other has target t row) (orphan_in_row target lost t row) (away_row t away row)

  pub away_table : (h : TableHistory) → refers_to target (table_now h) ≡ false → orphan_in_table has target lost h ≡ None
  away_table h away = first_none (orphan_in_slot has target lost (table_now h)) (λ slot. away_slot (table_now h) away (row_now slot)) h.slots

  pub away_tables : (hs : List TableHistory) → list_any (λ (h : TableHistory). refers_to target (table_now h)) hs ≡ false
      → orphan_in_tables has target lost hs ≡ None
  away_tables hs away = first_none_of (orphan_in_table has target lost) (λ (h : TableHistory). refers_to target (table_now h)) away_table hs away

-- by the same keys the first child is the same
pub same_lost : (has : TableRow → Bool) (target : List ℕ) (one two : List Value → Bool) → ((key : List Value) → one key ≡ two key)
    → (hs : List TableHistory) → orphan_in_tables has target one hs ≡ orphan_in_tables has target two hs
same_lost has target one two same hs = ap (λ (lost : List Value → Bool). orphan_in_tables has target lost hs) (λ j key. same key j)

pub same_has : (one two : TableRow → Bool) → ((row : TableRow) → one row ≡ two row) → (target : List ℕ) (lost : List Value → Bool)
    → (hs : List TableHistory) → orphan_in_tables one target lost hs ≡ orphan_in_tables two target lost hs
same_has one two same target lost hs = ap (λ (has : TableRow → Bool). orphan_in_tables has target lost hs) (λ j row. same row j)

-- ---- which keys are lost

any_swapped : {X : Type 0} (p q : X → Bool) (xs : List X) → list_any p (filter q xs) ≡ list_any (λ x. q x && p x) xs
any_swapped p q [] = refl
any_swapped p q (x ∷ xs) = elim (cases_Bool (q x)) [
  | inl hit ↦ rw hit (ap (λ (b : Bool). p x || b) (any_swapped p q xs))
  | inr miss ↦ rw miss (any_swapped p q xs)
]

module _ (t : Table) (keyed : (length t.schema.key == 0) ≡ false) (unique : are_keys_unique t.schema.key (values_in t.rows) ≡ true)
    (numbers : List ℕ) (key : List Value) where
  abbrev p : TableRow → Bool
  p = has_key t.schema.key key

  abbrev out : Bool
  out = list_any p (filter (λ row. not (is_among numbers row)) t.rows)

  abbrev old : Bool
  old = list_any p (filter (is_among numbers) t.rows)

  apart : out ≡ true → old ≡ false
  apart is = apart_from t.schema.key t.rows keyed unique (is_among numbers) key is

  none : false ≡ true → out ≡ true
  none wrong = cc

  -- where the rows after have the key exactly where one that isn't given has it, or a given one
  lost_by : (new : Bool) (after : List TableRow) → list_any p after ≡ (out || new)
      → is_lost t.schema.key t.rows after key ≡ (list_any (λ row. is_among numbers row && p row) t.rows && not new)
  lost_by new after is =
      (λ j. any_split p (is_among numbers) t.rows j && not (is j))
      ∙ sym (lost_same false out old new none apart)
      ∙ ap (λ (b : Bool). b && not new) (any_swapped p (is_among numbers) t.rows)

  pub removed_lost : is_lost t.schema.key t.rows (with_removed numbers t).rows key ≡ loses (λ k. false) numbers t key
  removed_lost = lost_by false (with_removed numbers t).rows (sym (or-false out))

pub replaced_lost : (t : Table) → (length t.schema.key == 0) ≡ false → are_keys_unique t.schema.key (values_in t.rows) ≡ true
    → (given : List TableRow) → TakesPlace given given → had_rows given t ≡ true → (key : List Value)
    → is_lost t.schema.key t.rows (with_replaced given t).rows key
    ≡ loses (λ k. list_any (has_key t.schema.key k) given) (map (λ (row : TableRow). row.number) given) t key
replaced_lost t keyed unique given takes there key =
    let numbers : List ℕ = map (λ (row : TableRow). row.number) given in
    let p : TableRow → Bool = has_key t.schema.key key in
    lost_by t keyed unique numbers key (list_any p given) (with_replaced given t).rows
    (replaced_has given t takes there p
    ∙ or-comm (list_any p given) (list_any (λ row. p row && not (is_among numbers row)) t.rows)
    ∙ ap (λ (b : Bool). b || list_any p given)
    (any_same (λ row. p row && not (is_among numbers row)) (λ row. not (is_among numbers row) && p row) (λ row. and_turned (p row) (not (is_among numbers row))) t.rows
    ∙ sym (any_swapped p (λ row. not (is_among numbers row)) t.rows)))

-- ---- a table without a key loses no child

pub bare_orphans : (db : List Table) (t : Table) → have_parents (catalog_of db) ≡ true → table_at t.name db ≡ Some t
    → (length t.schema.key == 0) ≡ true → (has : TableRow → Bool) (after : Table)
    → first_in (orphans has t after db) ≡ None
bare_orphans db t parents found bare has after =
    ap first_in (no_orphans t.name (is_lost t.schema.key t.rows after.rows) has db (elsewhere db t parents found bare))
