-- The rows that pass masks, slot by slot.
use Rattle.std.proofs.Common.{◌≡◌, ◌∙◌, sym, ap, subst, refl, ℕ, zero, suc, ◌+◌, ◌-◌, ◌<◌, ◌≤◌, Bool, true, false, ◌&&◌, List, [], ◌∷◌, ◌++◌, map, drop, length, get_or, append_assoc, append-nil, inl, inr, arith, Option, Some, None}
use Rattle.std.specs.Prelude.{filter, cond, unwrap_or, is_some, IfSome, IsSome}
use Rattle.std.specs.List.{cons_option, filter_map, AllByRecursion}
use Rattle.std.proofs.lemmas.List.{drop-drop, get_or-drop, get_or_past}
use Rattle.std.specs.Option.{option_map, option_map_or, option_to_list}
use Rattle.std.proofs.lemmas.Bool.{cases_Bool, cases_lt}
use Rattle.lanes.specs.Sets.{member, IsNext}
use Rattle.query_eval.specs.inner.TableScan.{row_passes, slot_passes, rows_at_slots, with_version, source_row}
use Rattle.query_eval.specs.inner.TableScan.{rows_in}
use Rattle.query_eval.specs.inner.Sources.{table_row}
use Rattle.query_eval.specs.StoredSources.{HasVersion}
use Rattle.query_eval.specs.declared.source.SourceRow.{SourceRow}
use Rattle.sql_model.specs.ColumnTests.{passes, passes_all}
use Rattle.ldv_value.specs.Cells.{value_at}
use Rattle.sql_model.specs.declared.column_test.ColumnTest.{ColumnTest}
use Rattle.query_eval.specs.Types.{Null, TableRow, Value}
use Rattle.table_store.proofs.TableLaws.{history_here}
use Rattle.table_store.specs.CellTests.{passes_columns, slot_chosen}
use Rattle.table_store.specs.Histories.{RowHistory, TableHistory, no_history, row_now, rows_now, numbered_row, history_of_row, version_now}
use Rattle.table_store.specs.RowOrder.{AreInOrder}
use Rattle.row_version.specs.History.{current_values, version}

-- ---- masks, over the rows of a table

got-at : (row : List Value) (place : ℕ) → get_or row place Null ≡ value_at row place
got-at [] place = refl
got-at (v ∷ row) zero = refl
got-at (v ∷ row) (suc place) = got-at row place

row-alike : (masks : List ColumnTest) (row : TableRow) → passes_columns masks row ≡ passes_all masks row.values
row-alike [] row = refl
row-alike (mask ∷ masks) row = λ j. ap (passes mask.test) (got-at row.values mask.column) j && row-alike masks row j

slot-alike : (masks : List ColumnTest) (o : Option TableRow) → option_map_or (passes_columns masks) o false ≡ option_map_or (λ (row : TableRow). passes_all masks row.values) o false
slot-alike masks None = refl
slot-alike masks (Some row) = row-alike masks row

pub tested_alike : (masks : List ColumnTest) (slot : RowHistory) (here : Bool) → here ≡ slot_chosen masks slot → here ≡ slot_passes masks slot
tested_alike masks slot here same = same ∙ slot-alike masks (row_now slot)

passes-alike : (masks : List ColumnTest) (slot : RowHistory) (row : TableRow) → row_now slot ≡ Some row → slot_passes masks slot ≡ passes_all masks row.values
passes-alike masks slot row is = ap (λ (o : Option TableRow). option_map_or (λ (r : TableRow). passes_all masks r.values) o false) is

-- ---- rows of slots

module _ {A B C : Type 0} (now : A → Option B) (f : B → C) (back : C → B) (p : A → Bool) (q : B → Bool) (same : (b : B) → back (f b) ≡ b)
    (alike : (a : A) (b : B) → now a ≡ Some b → p a ≡ q b) where
  pub filter-before : (xs : List A) → map back (filter_map (λ a. option_map f (now a)) (filter p xs)) ≡ filter q (filter_map now xs)
  filter-before [] = refl
  filter-before (x ∷ xs) = by_now (now x) refl (filter-before xs)
    where
      by_now : (o : Option B) → now x ≡ o → map back (filter_map (λ a. option_map f (now a)) (filter p xs)) ≡ filter q (filter_map now xs)
          → map back (filter_map (λ a. option_map f (now a)) (filter p (x ∷ xs))) ≡ filter q (filter_map now (x ∷ xs))
      by_now None is rest = elim (cases_Bool (p x)) [
        | inl hit ↦ rw (hit, is) rest
        | inr miss ↦ rw (miss, is) rest
      ]
      by_now (Some b) is rest = elim (cases_Bool (p x)) [
        | inl hit ↦
            let there : q b ≡ true = sym (alike x b is) ∙ hit in
            rw (hit, is, there) (λ j. same b j ∷ rest j)
        | inr miss ↦
            let gone : q b ≡ false = sym (alike x b is) ∙ miss in
            rw (miss, is, gone) rest
      ]

-- the rows of the slots that are left are those of the table that pass
pub rows-left : (masks : List ColumnTest) (all slots : List RowHistory) → map table_row (rows_in all (filter (slot_passes masks) slots)) ≡ filter (row_passes masks) (rows_now slots)
rows-left masks all slots =
    filter-before row_now (with_version all) table_row (slot_passes masks) (row_passes masks) (λ row. refl) (passes-alike masks) slots

-- ---- slots that are chosen by bits

rows_at_slots-is : (words : List ℕ) (p : RowHistory → Bool) (at : ℕ) (slots : List RowHistory) → ((n : ℕ) → member words (at + n) ≡ p (get_or slots n no_history)) → rows_at_slots words at slots ≡ filter p slots
rows_at_slots-is words p at [] same = refl
rows_at_slots-is words p at (slot ∷ slots) same =
    let first : at ≡ at + 0 = omega arith in
    let here : member words at ≡ p slot = ap (member words) first ∙ same 0 in
    let rest : rows_at_slots words (suc at) slots ≡ filter p slots =
    rows_at_slots-is words p (suc at) slots (λ n. let next : suc at + n ≡ at + suc n = omega arith in ap (member words) next ∙ same (suc n)) in
    λ j. cond (here j) (slot ∷ rest j) (rest j)

pub rows_at_slots-left : (masks : List ColumnTest) (words : List ℕ) (slots : List RowHistory) → ((n : ℕ) → member words n ≡ slot_passes masks (get_or slots n no_history))
    → rows_at_slots words 0 slots ≡ filter (slot_passes masks) slots
rows_at_slots-left masks words slots same = rows_at_slots-is words (slot_passes masks) 0 slots (λ n. let whole : 0 + n ≡ n = omega arith in ap (member words) whole ∙ same n)

-- slots that aren't set are passed over
passed-over : (words : List ℕ) (at n : ℕ) (slots : List RowHistory) → ((m : ℕ) → at ≤ m → m < at + n → member words m ≡ false) → rows_at_slots words at slots ≡ rows_at_slots words (at + n) (drop n slots)
passed-over words at zero slots none = let same : at ≡ at + zero = omega arith in ap (λ (k : ℕ). rows_at_slots words k slots) same
passed-over words at (suc n) [] none = refl
passed-over words at (suc n) (slot ∷ slots) none =
    let here : member words at ≡ false = none at (omega arith) (omega arith) in
    let next : suc at + n ≡ at + suc n = omega arith in
    ap (λ (b : Bool). cond b (slot ∷ rows_at_slots words (suc at) slots) (rows_at_slots words (suc at) slots)) here
    ∙ passed-over words (suc at) n slots (λ m low high. none m (omega (arith, low)) (omega (arith, high)))
    ∙ ap (λ (k : ℕ). rows_at_slots words k (drop n slots)) next

rows_at_slots-none : (words : List ℕ) (at : ℕ) (slots : List RowHistory) → ((m : ℕ) → at ≤ m → member words m ≡ false) → rows_at_slots words at slots ≡ []
rows_at_slots-none words at [] none = refl
rows_at_slots-none words at (slot ∷ slots) none =
    ap (λ (b : Bool). cond b (slot ∷ rows_at_slots words (suc at) slots) (rows_at_slots words (suc at) slots)) (none at (omega arith))
    ∙ rows_at_slots-none words (suc at) slots (λ m low. none m (omega (arith, low)))

module _ (all : List RowHistory) where
  -- the rows of the slot at an index, and of those after it
  first-row : (words : List ℕ) (at : ℕ) (slots : List RowHistory) → member words at ≡ true
      → rows_in all (rows_at_slots words at slots) ≡ option_to_list (source_row all (get_or slots 0 no_history)) ++ rows_in all (rows_at_slots words (suc at) (drop 1 slots))
  first-row words at [] set = refl
  first-row words at (slot ∷ slots) set =
      ap (λ (b : Bool). rows_in all (cond b (slot ∷ rows_at_slots words (suc at) slots) (rows_at_slots words (suc at) slots))) set
      ∙ joined (source_row all slot) (rows_in all (rows_at_slots words (suc at) slots))
    where
      joined : (o : Option SourceRow) (rest : List SourceRow) → cons_option o rest ≡ option_to_list o ++ rest
      joined None rest = refl
      joined (Some row) rest = refl

  -- those of the next slot that is set, and of those after it
  pub next-row : (words : List ℕ) (slots : List RowHistory) (at slot : ℕ) → IsNext words at (Some slot)
      → rows_in all (rows_at_slots words at (drop at slots)) ≡ option_to_list (source_row all (get_or slots slot no_history)) ++ rows_in all (rows_at_slots words (slot + 1) (drop (slot + 1) slots))
  next-row words slots at slot next =
      let n : ℕ = slot - at in
      let reach : at + n ≡ slot = omega (arith, next.0) in
      let over : rows_at_slots words at (drop at slots) ≡ rows_at_slots words (at + n) (drop n (drop at slots)) =
      passed-over words at n (drop at slots) (λ m low high. next.2 m low (omega (arith, high, reach))) in
      let there : rows_at_slots words at (drop at slots) ≡ rows_at_slots words slot (drop slot slots) =
      over ∙ ap (rows_at_slots words (at + n)) (drop-drop n at slots) ∙ ap (λ (k : ℕ). rows_at_slots words k (drop k slots)) reach in
      ap (rows_in all) there
      ∙ first-row words slot (drop slot slots) next.1
      ∙ (λ j. option_to_list (source_row all (here j)) ++ rows_in all (rows_at_slots words (after j) (rest j)))
    where
      here : get_or (drop slot slots) 0 no_history ≡ get_or slots slot no_history
      here = let same : slot + 0 ≡ slot = omega arith in get_or-drop slot slots 0 no_history ∙ ap (λ (k : ℕ). get_or slots k no_history) same

      after : suc slot ≡ slot + 1
      after = omega arith

      rest : drop 1 (drop slot slots) ≡ drop (slot + 1) slots
      rest = drop-drop 1 slot slots

  pub no-row : (words : List ℕ) (slots : List RowHistory) (at : ℕ) → IsNext words at None → rows_in all (rows_at_slots words at (drop at slots)) ≡ []
  no-row words slots at none = ap (rows_in all) (rows_at_slots-none words at (drop at slots) none)

-- ---- versions

module _ (table : TableHistory) (next : ℕ) (order : AreInOrder table.slots next) where
  -- the row of a slot has its version
  abbrev Known : RowHistory → Type 0
  Known slot = IfSome (source_row table.slots slot) (HasVersion (Some table))

  told : (slot : RowHistory) (o : Option (List Value)) → current_values slot.changes ≡ o → history_of_row slot.number table.slots ≡ Some slot → Known slot
  told slot None is found = subst (λ (o : Option (List Value)). IfSome (option_map (with_version table.slots) (option_map (numbered_row slot.number) o)) (HasVersion (Some table))) (sym is) tt
  told slot (Some values) is found =
      let own : version_now (history_of_row slot.number table.slots) ≡ Some (version slot.changes) =
      ap version_now found ∙ ap (λ (o : Option (List Value)). cond (is_some o) (Some (version slot.changes)) None) is in
      subst (λ (o : Option (List Value)). IfSome (option_map (with_version table.slots) (option_map (numbered_row slot.number) o)) (HasVersion (Some table))) (sym is)
      (own ∙ sym (ap (λ (o : Option ℕ). Some (unwrap_or o 0)) own))

  known-at : (i : ℕ) → i < length table.slots → Known (get_or table.slots i no_history)
  known-at i below =
      let slot : RowHistory = get_or table.slots i no_history in
      told slot (current_values slot.changes) refl (history_here table.slots next order slot.number i below refl)

  one-known : (o : Option SourceRow) (rows : List SourceRow) → IfSome o (HasVersion (Some table)) → AllByRecursion (HasVersion (Some table)) rows → AllByRecursion (HasVersion (Some table)) (cons_option o rows)
  one-known None rows here rest = rest
  one-known (Some row) rows here rest = (here, rest)

  some-known : (o : Option SourceRow) → IfSome o (HasVersion (Some table)) → AllByRecursion (HasVersion (Some table)) (option_to_list o)
  some-known None known = tt
  some-known (Some row) known = (known, tt)

  -- the row of one slot
  pub slot_known : (slot : ℕ) (rows : List SourceRow) → rows ≡ option_to_list (source_row table.slots (get_or table.slots slot no_history)) → AllByRecursion (HasVersion (Some table)) rows
  slot_known slot rows is = subst (AllByRecursion (HasVersion (Some table))) (sym is) (elim (cases_lt slot (length table.slots)) [
    | inl below ↦ some-known (source_row table.slots (get_or table.slots slot no_history)) (known-at slot below)
    | inr past ↦ subst (λ (h : RowHistory). AllByRecursion (HasVersion (Some table)) (option_to_list (source_row table.slots h))) (sym (get_or_past table.slots slot no_history past)) tt
  ])

  each-known : (slots : List RowHistory) → ((i : ℕ) → i < length slots → Known (get_or slots i no_history)) → AllByRecursion Known slots
  each-known [] known = tt
  each-known (slot ∷ slots) known = (known 0 (omega arith), each-known slots (λ i below. known (suc i) (omega (arith, below))))

  rows-known : (p : RowHistory → Bool) (slots : List RowHistory) → AllByRecursion Known slots → AllByRecursion (HasVersion (Some table)) (rows_in table.slots (filter p slots))
  rows-known p [] known = tt
  rows-known p (slot ∷ slots) known = elim (cases_Bool (p slot)) [
    | inl hit ↦ rw hit (one-known (source_row table.slots slot) (rows_in table.slots (filter p slots)) known.0 (rows-known p slots known.1))
    | inr miss ↦ rw miss (rows-known p slots known.1)
  ]

  pub left_known : (masks : List ColumnTest) (rows : List SourceRow) → rows ≡ rows_in table.slots (filter (slot_passes masks) table.slots) → AllByRecursion (HasVersion (Some table)) rows
  left_known masks rows is =
      subst (AllByRecursion (HasVersion (Some table))) (sym is) (rows-known (slot_passes masks) table.slots (each-known table.slots known-at))

-- a slot with a row that stands has values
pub stands-row : (slot : RowHistory) (number : ℕ) → option_map (λ (row : TableRow). row.number) (row_now slot) ≡ Some number → IsSome (current_values slot.changes)
stands-row slot number is = by_values (current_values slot.changes) is
  where
    by_values : (o : Option (List Value)) → option_map (λ (row : TableRow). row.number) (option_map (numbered_row slot.number) o) ≡ Some number → IsSome o
    by_values None is = cc
    by_values (Some values) is = refl

-- and the version of its row
pub version-told : (slots : List RowHistory) (next : ℕ) → AreInOrder slots next → (slot number v : ℕ)
    → option_map (λ (row : TableRow). row.number) (row_now (get_or slots slot no_history)) ≡ Some number
    → v ≡ version (get_or slots slot no_history).changes → v ≡ unwrap_or (version_now (history_of_row number slots)) 0
version-told slots next order slot number v is own = elim (cases_lt slot (length slots)) [
  | inl below ↦ by_values below (current_values here.changes) refl is
  | inr past ↦ past-none (sym (ap (λ (h : RowHistory). option_map (λ (row : TableRow). row.number) (row_now h)) (get_or_past slots slot no_history past)) ∙ is)
]
  where
    here : RowHistory
    here = get_or slots slot no_history

    some-number : {a b : ℕ} → Some a ≡ Some b → a ≡ b
    some-number is = cc

    past-none : None ≡ Some number → v ≡ unwrap_or (version_now (history_of_row number slots)) 0
    past-none is = cc

    by_values : slot < length slots → (o : Option (List Value)) → current_values here.changes ≡ o
        → option_map (λ (row : TableRow). row.number) (option_map (numbered_row here.number) o) ≡ Some number
        → v ≡ unwrap_or (version_now (history_of_row number slots)) 0
    by_values below None at stands = cc
    by_values below (Some values) at stands =
        let same : here.number ≡ number = some-number stands in
        own
        ∙ sym (ap (λ (o : Option RowHistory). unwrap_or (version_now o) 0) (history_here slots next order number slot below same)
        ∙ ap (λ (o : Option (List Value)). unwrap_or (cond (is_some o) (Some (version here.changes)) None) 0) at)

pub row-made : (all : List RowHistory) (slot : RowHistory) (number version : ℕ) (values : List Value)
    → option_map (λ (row : TableRow). row.number) (row_now slot) ≡ Some number → Some values ≡ current_values slot.changes
    → version ≡ unwrap_or (version_now (history_of_row number all)) 0
    → ◌≡◌ {A = List SourceRow} (record { number = number; version = version; values = values } ∷ []) (option_to_list (source_row all slot))
row-made all slot number version values is has told =
    let same : slot.number ≡ number = some-number (ap (λ (o : Option (List Value)). option_map (λ (row : TableRow). row.number) (option_map (numbered_row slot.number) o)) has ∙ is) in
    (λ j. record { number = sym same j; version = (told ∙ ap (λ (n : ℕ). unwrap_or (version_now (history_of_row n all)) 0) (sym same)) j; values = values } ∷ [])
    ∙ ap (λ (o : Option (List Value)). option_to_list (option_map (with_version all) (option_map (numbered_row slot.number) o))) has
  where
    some-number : {a b : ℕ} → Some a ≡ Some b → a ≡ b
    some-number is = cc

pub no-row-made : (all : List RowHistory) (slot : RowHistory) → option_map (λ (row : TableRow). row.number) (row_now slot) ≡ None → option_to_list (source_row all slot) ≡ []
no-row-made all slot is = by_row (row_now slot) is
  where
    by_row : (o : Option TableRow) → option_map (λ (row : TableRow). row.number) o ≡ None → option_to_list (option_map (with_version all) o) ≡ []
    by_row None is = refl
    by_row (Some row) is = cc

-- ---- steps of the code

-- the row of the next slot that is set is added
pub chosen_next : (all : List RowHistory) (words : List ℕ) (slots : List RowHistory) (rows new total : List SourceRow) (at slot next : ℕ) → IsNext words at (Some slot)
    → new ≡ rows ++ option_to_list (source_row all (get_or slots slot no_history)) → next ≡ slot + 1
    → rows ++ rows_in all (rows_at_slots words at (drop at slots)) ≡ total → new ++ rows_in all (rows_at_slots words next (drop next slots)) ≡ total
chosen_next all words slots rows new total at slot next found is after same =
    ap (λ (l : List SourceRow). l ++ rows_in all (rows_at_slots words next (drop next slots))) is
    ∙ append_assoc rows (option_to_list (source_row all (get_or slots slot no_history))) (rows_in all (rows_at_slots words next (drop next slots)))
    ∙ ap (λ (n : ℕ). rows ++ (option_to_list (source_row all (get_or slots slot no_history)) ++ rows_in all (rows_at_slots words n (drop n slots)))) after
    ∙ ap (λ (l : List SourceRow). rows ++ l) (sym (next-row all words slots at slot found))
    ∙ same

pub chosen_end : (all : List RowHistory) (words : List ℕ) (slots : List RowHistory) (rows total : List SourceRow) (at : ℕ) → IsNext words at None
    → rows ++ rows_in all (rows_at_slots words at (drop at slots)) ≡ total → rows ≡ total
chosen_end all words slots rows total at none same = sym (append-nil rows) ∙ ap (λ (l : List SourceRow). rows ++ l) (sym (no-row all words slots at none)) ∙ same

-- the rows that are left are those of the slots that are set
pub left_chosen : (all slots : List RowHistory) (masks : List ColumnTest) (words : List ℕ) (rows : List SourceRow)
    → ((n : ℕ) → member words n ≡ slot_passes masks (get_or slots n no_history)) → rows ≡ rows_in all (rows_at_slots words 0 slots)
    → rows ≡ rows_in all (filter (slot_passes masks) slots)
left_chosen all slots masks words rows same is = is ∙ ap (rows_in all) (rows_at_slots-left masks words slots same)

-- a slot whose row stands is one for which no mask fails
none-fails : (o : Option TableRow) → is_some o ≡ option_map_or (λ (row : TableRow). passes_all [] row.values) o false
none-fails None = refl
none-fails (Some row) = refl

pub left_standing : (all slots : List RowHistory) (words : List ℕ) (rows : List SourceRow)
    → ((n : ℕ) → member words n ≡ is_some (row_now (get_or slots n no_history))) → rows ≡ rows_in all (rows_at_slots words 0 slots)
    → rows ≡ rows_in all (filter (slot_passes []) slots)
left_standing all slots words rows same is = left_chosen all slots [] words rows (λ n. same n ∙ none-fails (row_now (get_or slots n no_history))) is

pub ruleset made_rows = (stands-row, row-made, no-row-made)

pub ruleset slot_stands = (stands-row)
