-- The map of reasons, step by step.
use Rattle.std.proofs.Common.{◌≡◌, ℕ, List, [], ◌∷◌, refl, sym, ap, ◌∙◌, cond, true, false, arith, inl, inr}
use Rattle.std.specs.Prelude.{Option, Some, None, is_some, ◌==◌, nat_lt, String, string_bytes, bytes_eq}
use Rattle.std.specs.Cmp.Lexicographic.{slice_cmp}
use Rattle.std.specs.List.{filter_map}
use Rattle.std.specs.Option.{option_map, option_or}
use Rattle.std.specs.declared.alloc.Global.{Global}
use Rattle.std.specs.BTreeMap.{BTreeMap, get, get_by_text, is_at, IsUnchanged, Updates}
use Rattle.std.specs.Map.{lookup}
use Rattle.std.specs.Ordering.{nat_cmp, is_eq}
use Rattle.std.proofs.lemmas.Bool.{cases_Bool}
use Rattle.std.proofs.lemmas.Bool.Decides.{nat_tests, Decides-eqb}
use Rattle.std.proofs.lemmas.Slice.Eq.{bytes_eq-Decides}
use Rattle.ldv_value.proofs.Options.{option_or-none}
use Rattle.sql_model.specs.Scope.{same_text}
use Rattle.run_model.specs.Types.{Need, TableRow}
use Rattle.run_model.specs.Slice.{Reason, is_read, reason_in}
use Rattle.run_model.specs.declared.first_reasons.Why.{Why}
use Rattle.run_model.specs.Packing.{reason_from, row_reason, reason_among, reason_at, reason_of_row}
use Rattle.run_model.specs.Packing.{reason_of_read, row_because}

-- a list of reads is its first and the others
pub reason_step : (statement : ℕ) (need : Need) (needs : List Need) (table : List ℕ) (row : ℕ)
    → reason_in statement table row (need ∷ needs) ≡ option_or (reason_of_read statement need table row) (reason_in statement table row needs)
reason_step statement need needs table row = elim (cases_Bool (is_read table row need)) [
  | inl hit ↦ rw hit refl
  | inr miss ↦ rw miss refl
]

pub number_equal : (x y : ℕ) → is_eq (nat_cmp x y) ≡ (x == y)
number_equal x y = elim (cases_Bool (nat_lt x y)) [
  | inl below ↦ let differ : (x == y) ≡ false = grind (arith, nat_tests) in rw (below, differ) refl
  | inr other ↦ elim (cases_Bool (x == y)) [
    | inl same ↦ rw (other, same) refl
    | inr above ↦ rw (other, above) refl
  ]
]

-- ---- the rows of a table

module _ (m n : BTreeMap ℕ Why) (row : ℕ) (why : Why) where
  same_row : (q : ℕ) → (row == q) ≡ true → get nat_cmp m q ≡ get nat_cmp m row
  same_row q hit = ap (get nat_cmp m) (sym ((Decides-eqb row q).0 hit))

  -- a row that wasn't needed yet
  pub put_row : get nat_cmp m row ≡ None → Updates nat_cmp m n row (Some why) → (q : ℕ) → row_reason n q ≡ option_or (row_reason m q) (reason_of_row row why q)
  put_row absent updates q = elim (cases_Bool (row == q)) [
    | inl hit ↦
        let at : is_at (nat_cmp row) q ≡ true = number_equal row q ∙ hit in
        let none : get nat_cmp m q ≡ None = same_row q hit ∙ absent in
        ap (option_map reason_from) (updates.0 q) ∙ rw (at, none, hit) refl
    | inr miss ↦
        let at : is_at (nat_cmp row) q ≡ false = number_equal row q ∙ miss in
        ap (option_map reason_from) (updates.0 q) ∙ rw (at, miss) (sym (option_or-none (row_reason m q)))
  ]

  -- a row that was needed before
  pub kept_row : is_some (get nat_cmp m row) ≡ true → (q : ℕ) → row_reason m q ≡ option_or (row_reason m q) (reason_of_row row why q)
  kept_row there q = elim (cases_Bool (row == q)) [
    | inl hit ↦ kept (row_reason m q) (reason_of_row row why q) (some_mapped (get nat_cmp m q) (ap is_some (same_row q hit) ∙ there))
    | inr miss ↦ rw miss (sym (option_or-none (row_reason m q)))
  ]
    where
      some_mapped : (o : Option Why) → is_some o ≡ true → is_some (option_map reason_from o) ≡ true
      some_mapped None some = cc
      some_mapped (Some w) some = refl

      kept : (a b : Option Reason) → is_some a ≡ true → a ≡ option_or a b
      kept None b some = cc
      kept (Some r) b some = refl

pub none_empty : (m : BTreeMap ℕ Why) → m.entries ≡ [] → (q : ℕ) → row_reason m q ≡ None
none_empty m empty q = ap (λ (entries : List (ℕ × Why)). option_map reason_from (lookup (is_at (nat_cmp q)) entries)) empty

-- rows that a refused insertion left as they were
pub row_unchanged : (m n : BTreeMap ℕ Why) → IsUnchanged m n → (q : ℕ) → row_reason n q ≡ row_reason m q
row_unchanged m n same q = ap (λ (entries : List (ℕ × Why)). option_map reason_from (lookup (is_at (nat_cmp q)) entries)) same

-- ---- the tables

-- and so for the tables
pub reasons_unchanged : (m n : BTreeMap (String Global) (BTreeMap ℕ Why)) → IsUnchanged m n → (table : List ℕ) (row : ℕ)
    → reason_at n table row ≡ reason_at m table row
reasons_unchanged m n same table row =
    ap (λ (es : List (String Global × BTreeMap ℕ Why)). reason_among (lookup (is_at (λ k. slice_cmp nat_cmp table (string_bytes k))) es) row) same

-- the rows of a table, whose reasons are as before
pub read_kept : (m n : BTreeMap (String Global) (BTreeMap ℕ Why)) (rows : BTreeMap ℕ Why) (named : List ℕ)
    → ((table : List ℕ) → get_by_text n table ≡ cond (bytes_eq named table) (Some rows) (get_by_text m table))
    → ((row : ℕ) → row_reason rows row ≡ reason_at m named row)
    → (table : List ℕ) (row : ℕ) → reason_at n table row ≡ reason_at m table row
read_kept m n rows named updates kept table row = elim (cases_Bool (bytes_eq named table)) [
  | inl hit ↦
      let same : named ≡ table = (bytes_eq-Decides named table).0 hit in
      ap (λ (o : Option (BTreeMap ℕ Why)). reason_among o row) (updates table)
      ∙ rw hit (kept row ∙ ap (λ (t : List ℕ). reason_at m t row) same)
  | inr miss ↦ ap (λ (o : Option (BTreeMap ℕ Why)). reason_among o row) (updates table) ∙ rw miss refl
]

-- the rows of a table that a read is of, before and after it
pub read_step : (m n : BTreeMap (String Global) (BTreeMap ℕ Why)) (rows : BTreeMap ℕ Why) (statement : ℕ) (need : Need)
    → ((table : List ℕ) → get_by_text n table ≡ cond (bytes_eq need.member.table table) (Some rows) (get_by_text m table))
    → ((row : ℕ) → row_reason rows row ≡ option_or (reason_at m need.member.table row) (reason_of_row need.member.row (record { statement = statement; rule = need.rule }) row))
    → (table : List ℕ) (row : ℕ) → reason_at n table row ≡ option_or (reason_at m table row) (reason_of_read statement need table row)
read_step m n rows statement need updates steps table row = elim (cases_Bool (same_text need.member.table table)) [
  | inl hit ↦
      let same : need.member.table ≡ table = (bytes_eq-Decides need.member.table table).0 hit in
      let step : row_reason rows row ≡ option_or (reason_at m table row) (reason_of_row need.member.row (record { statement = statement; rule = need.rule }) row) =
      steps row ∙ ap (λ (t : List ℕ). option_or (reason_at m t row) (reason_of_row need.member.row (record { statement = statement; rule = need.rule }) row)) same in
      ap (λ (o : Option (BTreeMap ℕ Why)). reason_among o row) (updates table) ∙ rw hit step
  | inr miss ↦ ap (λ (o : Option (BTreeMap ℕ Why)). reason_among o row) (updates table) ∙ rw miss (sym (option_or-none (reason_at m table row)))
]

-- without a reason no row is packed
pub none_packed : (reason : ℕ → Option Reason) → ((row : ℕ) → reason row ≡ None) → (rows : List TableRow) → [] ≡ filter_map (row_because reason) rows
none_packed reason none [] = refl
none_packed reason none (row ∷ rows) = rw (none row.number) (none_packed reason none rows)
