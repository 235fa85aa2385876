-- Reasons for the rows that wait for one, read by read.
use Rattle.std.proofs.Common.{◌≡◌, ◌%◌, ℕ, List, [], ◌∷◌, ◌++◌, Bool, true, false, not, ◌&&◌, ◌||◌, refl, sym, ap, ◌∙◌, inl, inr}
use Rattle.std.specs.Prelude.{Option, Some, None, is_some, String}
use Rattle.std.specs.declared.alloc.Global.{Global}
use Rattle.std.specs.BTreeMap.{BTreeMap}
use Rattle.std.specs.Option.{option_or}
use Rattle.std.proofs.lemmas.Bool.{cases_Bool}
use Rattle.ldv_value.specs.Options.{only_if}
use Rattle.ldv_value.proofs.Options.{option_or-none, option_or-assoc, is_some-true, is_some-false}
use Rattle.run_model.specs.Types.{Need}
use Rattle.run_model.specs.Slice.{Reason, is_read, reason_in}
use Rattle.run_model.specs.declared.first_reasons.Why.{Why}
use Rattle.run_model.specs.Packing.{reason_at, reason_of_read}
use Rattle.lanes.specs.Sets.{member}
use Rattle.slicer.specs.inner.Rows.{asks, has_row, reason_due}
use Rattle.run_model.proofs.ReasonLaws.{reason_step}
use Rattle.slicer.proofs.RowSetLaws.{rows_same}

only_none : (b : Bool) → only_if {A = Reason} b None ≡ None
only_none true = refl
only_none false = refl

abbrev Rows : Type 0
Rows = BTreeMap (String Global) (BTreeMap ℕ (List ℕ))

abbrev Reasons : Type 0
Reasons = BTreeMap (String Global) (BTreeMap ℕ Why)

-- where no reason comes later
pub due_last : (reasons : Reasons) (initial needed : Rows) (table : List ℕ) (row : ℕ)
    → reason_due reasons initial needed table row None ≡ reason_at reasons table row
due_last reasons initial needed table row =
    ap (option_or (reason_at reasons table row)) (only_none (has_row initial table row && not (has_row needed table row)))
    ∙ option_or-none (reason_at reasons table row)

-- ---- one read

-- a row's bit is set, and the row is initial
abbrev is_marked : Rows → List ℕ → List ℕ → ℕ → Bool
is_marked initial fresh table row = member fresh (row % 4096) && has_row initial table row

module _ (initial : Rows) (fresh : List ℕ) (statement : ℕ) (need : Need) where
  -- a read has a reason where its own row is marked
  pub read_marked : (table : List ℕ) (row : ℕ)
      → only_if (is_marked initial fresh table row) (reason_of_read statement need table row)
      ≡ only_if (is_marked initial fresh need.member.table need.member.row) (reason_of_read statement need table row)
  read_marked table row = elim (cases_Bool (is_read table row need)) [
    | inl hit ↦
        let same = rows_same need.member.table need.member.row table row hit in
        λ j. only_if (is_marked initial fresh (sym same.0 j) (sym same.1 j)) (reason_of_read statement need table row)
    | inr miss ↦ rw miss (only_none (is_marked initial fresh table row) ∙ sym (only_none (is_marked initial fresh need.member.table need.member.row)))
  ]

  pub read_noted : (old new : Reasons) → is_marked initial fresh need.member.table need.member.row ≡ true
      → ((table : List ℕ) (row : ℕ) → reason_at new table row ≡ option_or (reason_at old table row) (reason_of_read statement need table row))
      → (table : List ℕ) (row : ℕ)
      → reason_at new table row ≡ option_or (reason_at old table row) (only_if (is_marked initial fresh table row) (reason_of_read statement need table row))
  read_noted old new marked noted table row =
      noted table row
      ∙ ap (option_or (reason_at old table row)) (sym (read_marked table row ∙ ap (λ b. only_if b (reason_of_read statement need table row)) marked))

  pub read_passed : (old : Reasons) → is_marked initial fresh need.member.table need.member.row ≡ false → (table : List ℕ) (row : ℕ)
      → reason_at old table row ≡ option_or (reason_at old table row) (only_if (is_marked initial fresh table row) (reason_of_read statement need table row))
  read_passed old unmarked table row =
      sym (ap (option_or (reason_at old table row)) (read_marked table row ∙ ap (λ b. only_if b (reason_of_read statement need table row)) unmarked)
      ∙ option_or-none (reason_at old table row))

-- ---- the reads of a list

both_due : (b : Bool) (had one others : Option Reason)
    → option_or (option_or had (only_if b one)) (only_if b others) ≡ option_or had (only_if b (option_or one others))
both_due true had one others = option_or-assoc had one others
both_due false had one others = option_or-none (option_or had None)

-- a list of reads is its first and the others
pub reads_step : (b : Bool) (had : Option Reason) (statement : ℕ) (need : Need) (needs : List Need) (table : List ℕ) (row : ℕ)
    → option_or (option_or had (only_if b (reason_of_read statement need table row))) (only_if b (reason_in statement table row needs))
    ≡ option_or had (only_if b (reason_in statement table row (need ∷ needs)))
reads_step b had statement need needs table row =
    both_due b had (reason_of_read statement need table row) (reason_in statement table row needs)
    ∙ ap (λ o. option_or had (only_if b o)) (sym (reason_step statement need needs table row))

-- two lists of reads, one after the other
pub reads_append : (statement : ℕ) (own others : List Need) (table : List ℕ) (row : ℕ)
    → reason_in statement table row (own ++ others) ≡ option_or (reason_in statement table row own) (reason_in statement table row others)
reads_append statement [] others table row = refl
reads_append statement (need ∷ own) others table row = elim (cases_Bool (is_read table row need)) [
  | inl hit ↦ rw hit refl
  | inr miss ↦ rw miss (reads_append statement own others table row)
]

pub reads_parts : (statement : ℕ) (own others all : List Need) → own ++ others ≡ all → (table : List ℕ) (row : ℕ) (later : Option Reason)
    → option_or (reason_in statement table row own) (option_or (reason_in statement table row others) later)
    ≡ option_or (reason_in statement table row all) later
reads_parts statement own others all is table row later =
    sym (option_or-assoc (reason_in statement table row own) (reason_in statement table row others) later)
    ∙ ap (λ o. option_or o later) (sym (reads_append statement own others table row) ∙ ap (reason_in statement table row) is)

-- a row has a reason exactly where one of the reads is of it
asked : (statement : ℕ) (needs : List Need) (table : List ℕ) (row : ℕ) → is_some (reason_in statement table row needs) ≡ asks table row needs
asked statement [] table row = refl
asked statement (need ∷ needs) table row = elim (cases_Bool (is_read table row need)) [
  | inl hit ↦ rw hit refl
  | inr miss ↦ rw miss (asked statement needs table row)
]

-- reads whose new rows are noted, and are needed from then on
pub block_noted : (old new : Reasons) (initial needed left : Rows) (fresh : List ℕ) (statement : ℕ) (needs : List Need)
    → ((table : List ℕ) (row : ℕ) → has_row left table row ≡ (asks table row needs || has_row needed table row))
    → ((table : List ℕ) (row : ℕ) → asks table row needs ≡ true → member fresh (row % 4096) ≡ not (has_row needed table row))
    → ((table : List ℕ) (row : ℕ) → reason_at new table row
    ≡ option_or (reason_at old table row) (only_if (is_marked initial fresh table row) (reason_in statement table row needs)))
    → (table : List ℕ) (row : ℕ) (later : Option Reason)
    → reason_due new initial left table row later ≡ reason_due old initial needed table row (option_or (reason_in statement table row needs) later)
block_noted old new initial needed left fresh statement needs united taken noted table row later =
    (λ j. option_or (noted table row j) (only_if (has_row initial table row && not (united table row j)) later))
    ∙ elim (cases_Bool (asks table row needs)) [
      | inl hit ↦
          let some = is_some-true (reason_in statement table row needs) (asked statement needs table row ∙ hit) in
          rw (hit, taken table row hit, some.1) (first_due (has_row initial table row) (not (has_row needed table row)) (reason_at old table row) some.0 later)
      | inr miss ↦
          let none : reason_in statement table row needs ≡ None = is_some-false (reason_in statement table row needs) (asked statement needs table row ∙ miss) in
          rw (miss, none)
          (ap (λ o. option_or (option_or (reason_at old table row) o) (only_if (has_row initial table row && not (has_row needed table row)) later))
          (only_none (is_marked initial fresh table row))
          ∙ ap (λ o. option_or o (only_if (has_row initial table row && not (has_row needed table row)) later)) (option_or-none (reason_at old table row)))
    ]
  where
    first_due : (is_first is_new : Bool) (had : Option Reason) (why : Reason) (later : Option Reason)
        → option_or (option_or had (only_if (is_new && is_first) (Some why))) (only_if (is_first && false) later)
        ≡ option_or had (only_if (is_first && is_new) (Some why))
    first_due true true had why later = option_or-none (option_or had (Some why))
    first_due true false had why later = option_or-none (option_or had None)
    first_due false true had why later = option_or-none (option_or had None)
    first_due false false had why later = option_or-none (option_or had None)
