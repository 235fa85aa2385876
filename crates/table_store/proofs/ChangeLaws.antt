-- Rows that change, with their log.
use Rattle.std.proofs.Common.{◌≡◌, ◌==◌, ◌≢◌, ℕ, zero, suc, ◌+◌, ◌-◌, ◌<◌, ◌≤◌, ◌⊎◌, inl, inr, Bool, true, false, cond, List, [], ◌∷◌, ◌++◌, map, length, get_or, set, refl, ap, sym, subst, ◌∙◌, arith, Option, Some, None, eq-eqb, get_or-set_same, get_or-set_other}
use Rattle.std.specs.Prelude.{IsSome, find, ◌^◌}
use Rattle.std.proofs.lemmas.Bool.{cases_Bool, cases_eq, cases_lt, ne_eqb, eqb-true}
use Rattle.std.proofs.lemmas.List.{append_assoc, length-append, length-set, length-map, map-append}
use Rattle.row_version.specs.History.{Change, write_at, delete_at, current_values, version, last_time, IsSorted, IsSortedFrom}
use Rattle.table_store.specs.Types.{Value, TableRow}
use Rattle.table_store.specs.inner.Grid.{Rows, Slot, no_slot, fits_kinds}
use Rattle.table_store.specs.Histories.{RowHistory, no_history, changed_by, with_change}
use Rattle.table_store.specs.inner.RowHistories.{Past, Ends, changes_at, history_of, histories_of, AreKept}
use Rattle.table_store.specs.inner.RowChanges.{RowChange, removal, rewrite, change_given, changes_given, RiseFrom, HasRow, AllStand, AreBefore, HasSlot, AllHaveSlots, row_given, rewrite_given, IsInSlot, AreInSlots, IsReady, AreReady, RewritesRow, HasOpenSlot, AllOpen, EndsRow}
use Rattle.table_store.specs.declared.rows.rewrites.RowRewrite.{RowRewrite}
use Rattle.table_store.proofs.RowLaws.{row_is, in_slots, number_is, with_end, length_open, length_ended, version_open, current_by}

abbrev pub Rising : List Slot → Type 0
Rising slots = (i j : ℕ) → i < j → j < length slots → (get_or slots i no_slot).number < (get_or slots j no_slot).number

-- ---- only one slot has a number

module _ (slots : List Slot) (rising : Rising slots) (slot number : ℕ) (within : slot < length slots) (is : (get_or slots slot no_slot).number ≡ number) where
  pub others_apart : (k : ℕ) → k < length slots → k ≢ slot → (get_or slots k no_slot).number ≢ number
  others_apart k below other same = elim (cases_lt k slot) [
    | inl low ↦ absurd (omega (arith, rising k slot low within, is, same))
    | inr from ↦ elim (cases_lt slot k) [
      | inl high ↦ absurd (omega (arith, rising slot k high below, is, same))
      | inr to ↦ other (omega (arith, from, to))
    ]
  ]

  slot_or : (k : ℕ) → k < length slots → (k ≡ slot) ⊎ (((get_or slots k no_slot).number == number) ≡ false)
  slot_or k below = elim (cases_eq k slot) [
    | inl same ↦ inl same
    | inr other ↦ inr (ne_eqb (get_or slots k no_slot).number number (others_apart k below other))
  ]

-- ---- one row that changes

module _ (number : ℕ) (change : Change) where
  missed : (row : RowHistory) → (number == row.number) ≡ false → changed_by ((number, change) ∷ []) row ≡ row
  missed row apart = ap (λ b. with_change (cond b (Some (number, change)) None) row) apart

  taken : (row : RowHistory) → (number == row.number) ≡ true → changed_by ((number, change) ∷ []) row ≡ record { number = row.number; changes = row.changes ++ change ∷ [] }
  taken row same = ap (λ b. with_change (cond b (Some (number, change)) None) row) same

  other_row : (was is : List Change) (end left : ℕ) (slot : Slot) → slot.number ≢ number → is ≡ was → left ≡ end → history_of is left slot ≡ changed_by ((number, change) ∷ []) (history_of was end slot)
  other_row was is end left slot away same kept =
      (λ j. history_of (same j) (kept j) slot)
      ∙ sym (missed (history_of was end slot) (ne_eqb number slot.number (λ one. away (sym one))))

  this_row : (was is : List Change) (end left : ℕ) (slot first : Slot) → slot.number ≡ number → first.number ≡ number → changes_at is left slot ≡ changes_at was end first ++ change ∷ []
      → history_of is left slot ≡ changed_by ((number, change) ∷ []) (history_of was end first)
  this_row was is end left slot first here there changes =
      let same : slot.number ≡ first.number = here ∙ sym there in
      (λ j. record { number = same j; changes = changes j }) ∙ sym (taken (history_of was end first) (eq-eqb number first.number (sym there)))

  none_changed : (earlier after : Past) (ends left : Ends) (slots : List Slot) → ((k : ℕ) → k < length slots → (get_or slots k no_slot).number ≢ number) → ((k : ℕ) → after k ≡ earlier k) → ((k : ℕ) → left k ≡ ends k)
      → histories_of after left slots ≡ map (changed_by ((number, change) ∷ [])) (histories_of earlier ends slots)
  none_changed earlier after ends left [] apart same kept = refl
  none_changed earlier after ends left (slot ∷ slots) apart same kept =
      λ j. other_row (earlier 0) (after 0) (ends 0) (left 0) slot (apart 0 (omega arith)) (same 0) (kept 0) j
      ∷ none_changed (λ k. earlier (suc k)) (λ k. after (suc k)) (λ k. ends (suc k)) (λ k. left (suc k)) slots (λ k below. apart (suc k) (omega (arith, below))) (λ k. same (suc k)) (λ k. kept (suc k)) j

  pub slot_changed : (earlier after : Past) (ends left : Ends) (slots : List Slot) (k : ℕ) (slot : Slot) → k < length slots → (get_or slots k no_slot).number ≡ number → slot.number ≡ number
      → ((i : ℕ) → i < length slots → i ≢ k → (get_or slots i no_slot).number ≢ number)
      → changes_at (after k) (left k) slot ≡ changes_at (earlier k) (ends k) (get_or slots k no_slot) ++ change ∷ []
      → ((i : ℕ) → i ≢ k → after i ≡ earlier i) → ((i : ℕ) → i ≢ k → left i ≡ ends i)
      → histories_of after left (set slots k slot) ≡ map (changed_by ((number, change) ∷ [])) (histories_of earlier ends slots)
  slot_changed earlier after ends left [] k slot within was is apart changes same kept = absurd (omega (arith, within))
  slot_changed earlier after ends left (first ∷ slots) zero slot within was is apart changes same kept =
      λ j. this_row (earlier 0) (after 0) (ends 0) (left 0) slot first is was changes j
      ∷ none_changed (λ i. earlier (suc i)) (λ i. after (suc i)) (λ i. ends (suc i)) (λ i. left (suc i)) slots (λ i below. apart (suc i) (omega (arith, below)) (omega arith))
      (λ i. same (suc i) (omega arith)) (λ i. kept (suc i) (omega arith)) j
  slot_changed earlier after ends left (first ∷ slots) (suc k) slot within was is apart changes same kept =
      λ j. other_row (earlier 0) (after 0) (ends 0) (left 0) first (apart 0 (omega arith) (omega arith)) (same 0 (omega arith)) (kept 0 (omega arith)) j
      ∷ slot_changed (λ i. earlier (suc i)) (λ i. after (suc i)) (λ i. ends (suc i)) (λ i. left (suc i)) slots k slot (omega (arith, within)) was is
      (λ i below other. apart (suc i) (omega (arith, below)) (λ one. other (omega (arith, one)))) changes
      (λ i other. same (suc i) (λ one. other (omega (arith, one)))) (λ i other. kept (suc i) (λ one. other (omega (arith, one)))) j

-- the rows are kept as they should be if one slot changes
pub kept_changed : (earlier after : Past) (ends left : Ends) (slots : List Slot) (k : ℕ) (slot : Slot) → AreKept earlier ends slots → k < length slots
    → slot.stands ≡ (left k == 0) → length (changes_at (after k) (left k) slot) ≤ 2 ^ 32
    → ((i : ℕ) → i ≢ k → after i ≡ earlier i) → ((i : ℕ) → i ≢ k → left i ≡ ends i) → AreKept after left (set slots k slot)
kept_changed earlier after ends left slots k slot kept within stands few same unended = record {
  stands = λ i below.
      let inside : i < length slots = omega (arith, below, length-set slots k slot) in
      elim (cases_eq i k) [
        | inl one ↦
            subst (λ (s : Slot). s.stands ≡ (left i == 0)) (sym (here i one))
            (stands ∙ ap (λ (n : ℕ). left n == 0) (sym one))
        | inr other ↦
            subst (λ (s : Slot). s.stands ≡ (left i == 0)) (sym (get_or-set_other slots k i slot no_slot other))
            (kept.stands i inside ∙ ap (λ (n : ℕ). n == 0) (sym (unended i other)))
      ];
  few = λ i below.
      let inside : i < length slots = omega (arith, below, length-set slots k slot) in
      elim (cases_eq i k) [
        | inl one ↦
            subst (λ (s : Slot). length (changes_at (after i) (left i) s) ≤ 2 ^ 32) (sym (here i one))
            (subst (λ (n : ℕ). length (changes_at (after n) (left n) slot) ≤ 2 ^ 32) (sym one) few)
        | inr other ↦
            subst (λ (s : Slot). length (changes_at (after i) (left i) s) ≤ 2 ^ 32) (sym (get_or-set_other slots k i slot no_slot other))
            (subst (λ (n : ℕ). length (changes_at (after i) n (get_or slots i no_slot)) ≤ 2 ^ 32) (sym (unended i other))
            (subst (λ (l : List Change). length (changes_at l (ends i) (get_or slots i no_slot)) ≤ 2 ^ 32) (sym (same i other)) (kept.few i inside)))
      ];
  fresh = λ i from.
      let past : length slots ≤ i = omega (arith, from, length-set slots k slot) in
      same i (λ one. omega (arith, one, past, within)) ∙ kept.fresh i past;
  open_ended = λ i from.
      let past : length slots ≤ i = omega (arith, from, length-set slots k slot) in
      unended i (λ one. omega (arith, one, past, within)) ∙ kept.open_ended i past;
} where
  here : (i : ℕ) → i ≡ k → get_or (set slots k slot) i no_slot ≡ slot
  here i one = ap (λ (n : ℕ). get_or (set slots k slot) n no_slot) one ∙ get_or-set_same slots k slot no_slot within

-- ---- a row that gets other values

module _ (earlier after : Past) (ends : Ends) (old : Rows) (given : RowRewrite) (time : ℕ) (kept : AreKept earlier ends old.slots) (rising : Rising old.slots) (at : IsInSlot old.slots given)
    (ready : IsReady (earlier given.slot) (ends given.slot))
    (here : after given.slot ≡ earlier given.slot ++ write_at (get_or old.slots given.slot no_slot).since given.old ∷ []) (same : (k : ℕ) → k ≢ given.slot → after k ≡ earlier k) where
  abbrev was : Slot
  was = get_or old.slots given.slot no_slot

  abbrev put : Slot
  put = record was { since = time; values = given.new }

  abbrev new : Rows
  new = record old { slots = set old.slots given.slot put }

  old_values : after given.slot ≡ changes_at (earlier given.slot) 0 was
  old_values = here ∙ ap (λ (v : List Value). earlier given.slot ++ write_at was.since v ∷ []) (sym at.values)

  put_changes : changes_at (after given.slot) (ends given.slot) put ≡ changes_at (earlier given.slot) (ends given.slot) was ++ write_at time given.new ∷ []
  put_changes =
      ap (λ (n : ℕ). changes_at (after given.slot) n put) ready.0
      ∙ ap (λ (l : List Change). l ++ write_at time given.new ∷ []) old_values
      ∙ ap (λ (n : ℕ). changes_at (earlier given.slot) n was ++ write_at time given.new ∷ []) (sym ready.0)

  apart_from : (k : ℕ) → k < length old.slots → k ≢ given.slot → (get_or old.slots k no_slot).number ≢ given.number
  apart_from = others_apart old.slots rising given.slot given.number at.within at.number

  other_slot : (one : RowRewrite) → one.number ≢ given.number → IsInSlot old.slots one → one.slot ≢ given.slot
  other_slot one away is same_slot = away (sym is.number ∙ ap (λ (n : ℕ). (get_or old.slots n no_slot).number) same_slot ∙ at.number)

  still_there : (one : RowRewrite) → one.number ≢ given.number → IsInSlot old.slots one → IsInSlot new.slots one
  still_there one away is =
      let left : get_or (set old.slots given.slot put) one.slot no_slot ≡ get_or old.slots one.slot no_slot = get_or-set_other old.slots given.slot one.slot put no_slot (other_slot one away is) in
      record {
        within = omega (arith, is.within, length-set old.slots given.slot put);
        number = ap (λ (s : Slot). s.number) left ∙ is.number;
        values = ap (λ (s : Slot). s.values) left ∙ is.values;
      }

  pub row_rewritten : RewritesRow time given earlier after ends old new
  row_rewritten = record {
    kept =
        let long : length (changes_at (after given.slot) (ends given.slot) put) ≡ length (earlier given.slot) + 1 + 1 =
        ap length put_changes ∙ length-append (changes_at (earlier given.slot) (ends given.slot) was) (write_at time given.new ∷ [])
        ∙ ap (λ (n : ℕ). n + 1) (length_open (earlier given.slot) (ends given.slot) was ready.0) in
        kept_changed earlier after ends ends old.slots given.slot put kept at.within (kept.stands given.slot at.within) (omega (arith, long, ready.1)) same (λ i other. refl);
    seen = slot_changed given.number (write_at time given.new) earlier after ends ends old.slots given.slot put at.within at.number at.number apart_from put_changes same (λ i other. refl);
    slots = still_there;
    ready = λ one away is unended. subst (λ (l : List Change). IsReady l (ends one.slot)) (sym (same one.slot (other_slot one away is))) unended;
    count = length-set old.slots given.slot put;
    kinds = refl;
    next = refl;
  }

-- the others are where they were, and as ready
module _ (time : ℕ) (given : RowRewrite) (earlier after : Past) (ends : Ends) (old new : Rows) (row : RewritesRow time given earlier after ends old new) where
  pub still_in_slots : (low : ℕ) (rest : List RowRewrite) → given.number < low → RiseFrom low (map rewrite_given rest) → AreInSlots old.slots rest → AreInSlots new.slots rest
  still_in_slots low [] below rise are = tt
  still_in_slots low (first ∷ rest) below rise are = (
    row.slots first (λ one. omega (arith, one, rise.0, below)) are.0,
    still_in_slots (first.number + 1) rest (omega (arith, rise.0, below)) rise.1 are.1,
  )

  pub still_ready : (low : ℕ) (rest : List RowRewrite) → given.number < low → RiseFrom low (map rewrite_given rest) → AreInSlots old.slots rest → AreReady earlier ends rest → AreReady after ends rest
  still_ready low [] below rise are all = tt
  still_ready low (first ∷ rest) below rise are all = (
    row.ready first (λ one. omega (arith, one, rise.0, below)) are.0 all.0,
    still_ready (first.number + 1) rest (omega (arith, rise.0, below)) rise.1 are.1 all.1,
  )

-- ---- a row that is deleted

module _ (earlier : Past) (ends left : Ends) (old : Rows) (slot number time : ℕ) (kept : AreKept earlier ends old.slots) (rising : Rising old.slots) (within : slot < length old.slots)
    (is : (get_or old.slots slot no_slot).number ≡ number) (unended : ends slot ≡ 0) (few : length (earlier slot) + 2 ≤ 2 ^ 32) (later : 0 < time)
    (here : left slot ≡ time) (same : (k : ℕ) → k ≢ slot → left k ≡ ends k) where
  abbrev stood : Slot
  stood = get_or old.slots slot no_slot

  abbrev gone : Slot
  gone = record stood { stands = false }

  abbrev after : Rows
  after = record old { slots = set old.slots slot gone }

  end_changes : (n : ℕ) → n ≡ time → 0 < n → changes_at (earlier slot) n gone ≡ changes_at (earlier slot) 0 stood ++ delete_at time ∷ []
  end_changes zero one some = absurd (omega (arith, some))
  end_changes (suc n) one some = with_end (earlier slot) n gone ∙ ap (λ (t : ℕ). changes_at (earlier slot) 0 stood ++ delete_at t ∷ []) one

  gone_changes : changes_at (earlier slot) (left slot) gone ≡ changes_at (earlier slot) (ends slot) stood ++ delete_at time ∷ []
  gone_changes =
      end_changes (left slot) here (omega (arith, here, later))
      ∙ ap (λ (n : ℕ). changes_at (earlier slot) n stood ++ delete_at time ∷ []) (sym unended)

  apart_too : (k : ℕ) → k < length old.slots → k ≢ slot → (get_or old.slots k no_slot).number ≢ number
  apart_too = others_apart old.slots rising slot number within is

  still_open : (other : ℕ) → other ≢ number → HasOpenSlot earlier ends old.slots other → HasOpenSlot earlier left after.slots other
  still_open other away has =
      let k = has.0 in
      let apart : k ≢ slot = λ one. away (sym has.2 ∙ ap (λ (n : ℕ). (get_or old.slots n no_slot).number) one ∙ is) in (
        k,
        omega (arith, has.1, length-set old.slots slot gone),
        ap (λ (s : Slot). s.number) (get_or-set_other old.slots slot k gone no_slot apart) ∙ has.2,
        (same k apart ∙ has.3.0, has.3.1),
      )

  pub row_ended : EndsRow time number earlier ends old earlier left after
  row_ended = record {
    kept =
        let long : length (changes_at (earlier slot) (left slot) gone) ≡ length (earlier slot) + 2 = length_ended (earlier slot) (left slot) gone (λ none. omega (arith, none, here, later)) in
        kept_changed earlier earlier ends left old.slots slot gone kept within (sym (ne_eqb (left slot) 0 (λ none. omega (arith, none, here, later)))) (omega (arith, long, few)) (λ i other. refl) same;
    seen = slot_changed number (delete_at time) earlier earlier ends left old.slots slot gone within is is apart_too gone_changes (λ i other. refl) same;
    others = still_open;
    count = length-set old.slots slot gone;
    kinds = refl;
    next = refl;
  }

pub all_still_open : (time number : ℕ) (earlier after : Past) (ends left : Ends) (old new : Rows) → EndsRow time number earlier ends old after left new
    → (low : ℕ) (rest : List ℕ) → number < low → RiseFrom low (map removal rest) → AllOpen earlier ends old.slots rest → AllOpen after left new.slots rest
all_still_open time number earlier after ends left old new row low [] below rise all = tt
all_still_open time number earlier after ends left old new row low (first ∷ rest) below rise all = (
  row.others first (λ one. omega (arith, one, rise.0, below)) all.0,
  all_still_open time number earlier after ends left old new row (first + 1) rest (omega (arith, rise.0, below)) rise.1 all.1,
)

-- ---- one change after the other

rest_apart : (time low number : ℕ) (rest : List RowChange) → RiseFrom low rest → number < low → find (λ change. change.0 == number) (changes_given time rest) ≡ None
rest_apart time low number [] rise below = refl
rest_apart time low number (first ∷ rest) rise below =
    ap (λ b. cond b (Some (change_given time first)) (find (λ change. change.0 == number) (changes_given time rest))) (ne_eqb first.number number (omega (arith, rise.0, below)))
    ∙ rest_apart time (first.number + 1) number rest rise.1 (omega (arith, rise.0, below))

row_first : (time low : ℕ) (first : RowChange) (rest : List RowChange) → RiseFrom low (first ∷ rest) → (row : RowHistory)
    → changed_by (changes_given time (first ∷ rest)) row ≡ changed_by (changes_given time rest) (changed_by (change_given time first ∷ []) row)
row_first time low first rest rise row = elim (cases_Bool (first.number == row.number)) [
  | inl same ↦
      let one : first.number ≡ row.number = eqb-true first.number row.number same in
      let after : RowHistory = record { number = row.number; changes = row.changes ++ (change_given time first).1 ∷ [] } in
      ap (λ b. with_change (cond b (Some (change_given time first)) (find (λ change. change.0 == row.number) (changes_given time rest))) row) same
      ∙ sym (ap (λ (h : RowHistory). changed_by (changes_given time rest) h) (ap (λ b. with_change (cond b (Some (change_given time first)) None) row) same)
      ∙ ap (λ (o : Option (ℕ × Change)). with_change o after) (rest_apart time (first.number + 1) row.number rest rise.1 (omega (arith, one))))
  | inr apart ↦
      ap (λ b. with_change (cond b (Some (change_given time first)) (find (λ change. change.0 == row.number) (changes_given time rest))) row) apart
      ∙ sym (ap (λ (h : RowHistory). changed_by (changes_given time rest) h) (ap (λ b. with_change (cond b (Some (change_given time first)) None) row) apart))
]

pub changed_first : (time low : ℕ) (first : RowChange) (rest : List RowChange) → RiseFrom low (first ∷ rest) → (slots : List RowHistory)
    → map (changed_by (changes_given time (first ∷ rest))) slots ≡ map (changed_by (changes_given time rest)) (map (changed_by (change_given time first ∷ [])) slots)
changed_first time low first rest rise [] = refl
changed_first time low first rest rise (row ∷ slots) = λ j. row_first time low first rest rise row j ∷ changed_first time low first rest rise slots j

pub unchanged : (time : ℕ) (slots : List RowHistory) → map (changed_by (changes_given time [])) slots ≡ slots
unchanged time [] = refl
unchanged time (row ∷ slots) = ap (λ (l : List RowHistory). row ∷ l) (unchanged time slots)

-- ---- ready for a change

pub count_from : (first : Change) (rest : List Change) → IsSortedFrom first.time rest → first.time + length rest ≤ last_time (first ∷ rest)
count_from first [] sorted = omega arith
count_from first (next ∷ rest) sorted = omega (arith, sorted.0, count_from next rest sorted.1)

-- each change takes a time of its own
pub version_by : (changes : List Change) → IsSorted changes → version changes ≤ last_time changes
version_by [] sorted = omega arith
version_by (first ∷ rest) sorted = omega (arith, count_from first rest sorted)

-- a row that stands can change once more
module _ (earlier : Past) (ends : Ends) (slots : List Slot) (kept : AreKept earlier ends slots) (seen : List RowHistory) (same : histories_of earlier ends slots ≡ seen) where
  ends_none : (b : Bool) (n : ℕ) (values : List Value) (now : Option (List Value)) → now ≡ cond b (Some values) None → IsSome now → b ≡ (n == 0) → n ≡ 0
  ends_none true n values now is some stands = eqb-true n 0 (sym stands)
  ends_none false n values None is some stands = cc
  ends_none false n values (Some other) is some stands = cc

  one_ready : (time k : ℕ) → time < 2 ^ 32 → k < length seen → AreBefore time seen → IsSome (current_values (get_or seen k no_history).changes) → IsReady (earlier k) (ends k)
  one_ready time k small within before some =
      let inside : k < length slots = in_slots earlier ends slots kept seen same k within in
      let slot : Slot = get_or slots k no_slot in
      let row : get_or seen k no_history ≡ history_of (earlier k) (ends k) slot = row_is earlier ends slots kept seen same k within in
      let now : current_values (get_or seen k no_history).changes ≡ cond slot.stands (Some slot.values) None =
      ap (λ (h : RowHistory). current_values h.changes) row ∙ current_by (earlier k) (ends k) slot (kept.stands k inside) in
      let unended : ends k ≡ 0 = ends_none slot.stands (ends k) slot.values (current_values (get_or seen k no_history).changes) now some (kept.stands k inside) in
      let often : version (get_or seen k no_history).changes ≡ length (earlier k) = ap (λ (h : RowHistory). version h.changes) row ∙ version_open (earlier k) (ends k) slot unended in
      let early = before k within in
      (unended, omega (arith, often, version_by (get_or seen k no_history).changes early.0, early.1, small))

  pub all_have_slots : (rows : List TableRow) → AllStand seen (map rewrite rows) → AllHaveSlots slots rows
  all_have_slots [] stand = tt
  all_have_slots (row ∷ rows) stand =
      let one = stand 0 (omega arith) in (
        (one.0, in_slots earlier ends slots kept seen same one.0 one.1, number_is earlier ends slots kept seen same one.0 one.1 ∙ one.2),
        all_have_slots rows (λ j below. stand (suc j) (omega (arith, below))),
      )

  pub all_open : (time : ℕ) → time < 2 ^ 32 → AreBefore time seen → (numbers : List ℕ) → AllStand seen (map removal numbers) → AllOpen earlier ends slots numbers
  all_open time small before [] stand = tt
  all_open time small before (number ∷ numbers) stand =
      let one = stand 0 (omega arith) in (
        (one.0, in_slots earlier ends slots kept seen same one.0 one.1, number_is earlier ends slots kept seen same one.0 one.1 ∙ one.2, one_ready time one.0 small one.1 before one.3),
        all_open time small before numbers (λ j below. stand (suc j) (omega (arith, below))),
      )

  -- rows in their slots are those that stand
  pub all_ready : (time : ℕ) → time < 2 ^ 32 → AreBefore time seen → Rising slots → (given : List RowRewrite) → AllStand seen (map rewrite_given given) → AreInSlots slots given → AreReady earlier ends given
  all_ready time small before rising [] stand are = tt
  all_ready time small before rising (first ∷ rest) stand are =
      let one = stand 0 (omega arith) in
      let inside : one.0 < length slots = in_slots earlier ends slots kept seen same one.0 one.1 in
      let number : (get_or slots one.0 no_slot).number ≡ first.number = number_is earlier ends slots kept seen same one.0 one.1 ∙ one.2 in
      let here : one.0 ≡ first.slot = elim (cases_eq one.0 first.slot) [
        | inl is ↦ is
        | inr other ↦ absurd (others_apart slots rising first.slot first.number are.0.within are.0.number one.0 inside other number)
      ] in (
        subst (λ (k : ℕ). IsReady (earlier k) (ends k)) here (one_ready time one.0 small one.1 before one.3),
        all_ready time small before rising rest (λ j below. stand (suc j) (omega (arith, below))) are.1,
      )

-- there are no more rows than numbers below the next one
pub rise_fits : (next : ℕ) (slots : List Slot) → ((i : ℕ) → i < length slots → (get_or slots i no_slot).number < next) → (low : ℕ) (given : List RowRewrite) → low ≤ next → RiseFrom low (map rewrite_given given) → AreInSlots slots given
    → low + length given ≤ next
rise_fits next slots below low [] within rise are = omega (arith, within)
rise_fits next slots below low (first ∷ rest) within rise are =
    let small : first.number < next = omega (arith, below first.slot are.0.within, are.0.number) in
    omega (arith, rise.0, rise_fits next slots below (first.number + 1) rest (omega (arith, small)) rise.1 are.1)

-- the changes by slots are those by rows
pub same_rewrites : (given : List RowRewrite) (rows : List TableRow) → map row_given given ≡ rows → map rewrite_given given ≡ map rewrite rows
same_rewrites given rows same = parts given ∙ ap (map rewrite) same where
  parts : (l : List RowRewrite) → map rewrite_given l ≡ map rewrite (map row_given l)
  parts [] = refl
  parts (one ∷ l) = ap (λ (rest : List RowChange). rewrite_given one ∷ rest) (parts l)

pub in_slots_more : (slots : List Slot) (made : List RowRewrite) (one : RowRewrite) → AreInSlots slots made → IsInSlot slots one → AreInSlots slots (made ++ one ∷ [])
in_slots_more slots [] one are is = (is, tt)
in_slots_more slots (first ∷ made) one are is = (are.0, in_slots_more slots made one are.1 is)

pub rise_lower : (low lower : ℕ) (rest : List RowChange) → lower ≤ low → RiseFrom low rest → RiseFrom lower rest
rise_lower low lower [] below rise = tt
rise_lower low lower (first ∷ rest) below rise = (omega (arith, below, rise.0), rise.1)

pub nil_from : {X : Type 0} (xs : List X) → length xs ≡ 0 → xs ≡ []
nil_from [] is = refl
nil_from (x ∷ xs) is = absurd (omega (arith, is))
