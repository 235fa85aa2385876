-- Selections that grow index by index.
use Rattle.std.proofs.Common.{◌≡◌, ◌==◌, ◌≢◌, ℕ, ◌+◌, ◌<◌, inl, inr, Bool, true, false, ◌&&◌, ◌||◌, List, length, get_or, refl, ap, sym, ◌∙◌, arith, lt-ltb, eq-eqb}
use Rattle.std.specs.Prelude.{ℤ, pos, nat_lt, Option}
use Rattle.std.specs.Option.{option_map_or}
use Rattle.std.proofs.lemmas.Bool.{cases_lt, le-ltb, ne_eqb}
use Rattle.std.proofs.lemmas.Option.{slice_get_past, slice_get-get_or}
use Rattle.std.proofs.Math.Nat.{eq-or-lt_of_le}
use Rattle.ldv_value.specs.declared.value.Cmp.{Cmp}
use Rattle.lanes.specs.Selection.{passes, holds_at}
use Rattle.ldv_value.proofs.Booleans.{or-false}

-- the indexes below an index are selected, and then that one too
pub selected_more : (holds old new : ℕ → Bool) (place : ℕ) → ((n : ℕ) → old n ≡ (nat_lt n place && holds n)) → ((n : ℕ) → new n ≡ ((n == place && holds place) || old n))
    → (n : ℕ) → new n ≡ (nat_lt n (place + 1) && holds n)
selected_more holds old new place before step n = elim (cases_lt n place) [
  | inl below ↦
      let apart : n ≢ place = omega arith in
      let miss : (n == place) ≡ false = ne_eqb n place apart in
      let early : nat_lt n place ≡ true = lt-ltb n place below in
      let late : nat_lt n (place + 1) ≡ true = lt-ltb n (place + 1) (omega arith) in
      step n ∙ ap (λ (b : Bool). (b && holds place) || old n) miss ∙ before n ∙ ap (λ (b : Bool). b && holds n) (early ∙ sym late)
  | inr from ↦ elim (eq-or-lt_of_le from) [
    | inl is ↦
        let hit : (n == place) ≡ true = eq-eqb n place (sym is) in
        let early : nat_lt n place ≡ false = le-ltb n place from in
        let late : nat_lt n (place + 1) ≡ true = lt-ltb n (place + 1) (omega arith) in
        step n ∙ ap (λ (b : Bool). (b && holds place) || old n) hit ∙ ap (λ (b : Bool). holds place || b) (before n ∙ ap (λ (b : Bool). b && holds n) early)
        ∙ or-false (holds place) ∙ ap holds is ∙ sym (ap (λ (b : Bool). b && holds n) late)
    | inr above ↦
        let apart : n ≢ place = omega arith in
        let miss : (n == place) ≡ false = ne_eqb n place apart in
        let early : nat_lt n place ≡ false = le-ltb n place from in
        let late : nat_lt n (place + 1) ≡ false = le-ltb n (place + 1) (omega arith) in
        step n ∙ ap (λ (b : Bool). (b && holds place) || old n) miss ∙ before n ∙ ap (λ (b : Bool). b && holds n) (early ∙ sym late)
  ]
]

-- past the column's end no index is selected
pub selected_all : (op : Cmp) (column : List ℤ) (constant : ℤ) (n : ℕ) → (nat_lt n (length column) && holds_at op column constant n) ≡ holds_at op column constant n
selected_all op column constant n = elim (cases_lt n (length column)) [
  | inl within ↦ ap (λ (b : Bool). b && holds_at op column constant n) (lt-ltb n (length column) within)
  | inr past ↦
      ap (λ (b : Bool). b && holds_at op column constant n) (le-ltb n (length column) past)
      ∙ sym (ap (λ (o : Option ℤ). option_map_or (passes op constant) o false) (slice_get_past column n past))
]

-- whether the comparison holds at an index within the column
pub held : (op : Cmp) (column : List ℤ) (constant : ℤ) (place : ℕ) → place < length column → holds_at op column constant place ≡ passes op constant (get_or column place (pos 0))
held op column constant place within = ap (λ (o : Option ℤ). option_map_or (passes op constant) o false) (slice_get-get_or column place (pos 0) within)

pub and-when_true : (a b : Bool) → b ≡ true → (a && b) ≡ a
and-when_true true b is = is
and-when_true false b is = refl
