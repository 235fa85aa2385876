-- Sets of rows, step by step.
use Rattle.std.proofs.Common.{◌≡◌, ◌==◌, ◌/◌, ◌%◌, ℕ, List, [], ◌∷◌, ◌++◌, Bool, true, false, refl, sym, ap, ◌∙◌, cond, arith, inl, inr, eq-eqb}
use Rattle.std.specs.Prelude.{Option, Some, None, String, bytes_eq, unwrap_or, ◌&&◌}
use Rattle.std.specs.declared.alloc.Global.{Global}
use Rattle.std.specs.BTreeMap.{BTreeMap, get, get_by_text, is_at, Updates}
use Rattle.std.specs.Int.{bit_at}
use Rattle.std.specs.Cmp.{both_ways}
use Rattle.std.specs.Map.{lookup}
use Rattle.std.specs.Ordering.{nat_cmp}
use Rattle.std.proofs.lemmas.Bool.{cases_Bool}
use Rattle.std.proofs.lemmas.Bool.Decides.{Decides-eqb}
use Rattle.std.proofs.lemmas.Nat.Bits.{bit_at-zero}
use Rattle.std.proofs.lemmas.Slice.Eq.{bytes_eq-Decides}
use Rattle.ldv_value.proofs.Booleans.{false≢true}
use Rattle.lanes.specs.Sets.{member}
use Rattle.sql_model.specs.Scope.{same_text}
use Rattle.slicer.specs.inner.Rows.{words_at, words_among, words_in, has_number, has_among, has_row, is_row}
use Rattle.run_model.proofs.ReasonLaws.{number_equal}
use Rattle.ldv_value.proofs.Lists.{zero-last}

-- ---- the bits of a block

-- a word more has no member
pub padded : (words : List ℕ) (n : ℕ) → member (words ++ 0 ∷ []) n ≡ member words n
padded words n = ap (λ (w : ℕ). bit_at w (n % 64) == 1) (zero-last words (n / 64))

no_bit : (k : ℕ) → member [] k ≡ false
no_bit k = ap (λ (p : ℕ). p == 1) (bit_at-zero (k % 64))

-- ---- the numbers of a table

-- a number is told by its block and its place in it
in_block : (number q : ℕ) → number / 4096 ≡ q / 4096 → (q % 4096 == number % 4096) ≡ (number == q)
in_block number q block = both_ways (q % 4096 == number % 4096) (number == q)
    (λ is. eq-eqb number q (omega (arith, block, (Decides-eqb (q % 4096) (number % 4096)).0 is)))
    (λ is. eq-eqb (q % 4096) (number % 4096) (ap (λ (k : ℕ). k % 4096) (sym ((Decides-eqb number q).0 is))))

other_block : (number q : ℕ) → (number / 4096 == q / 4096) ≡ false → (number == q) ≡ false
other_block number q miss = elim (cases_Bool (number == q)) [
  | inl hit ↦
      let block : (number / 4096 == q / 4096) ≡ true = eq-eqb (number / 4096) (q / 4096) (ap (λ (k : ℕ). k / 4096) ((Decides-eqb number q).0 hit)) in
      absurd (false≢true (sym miss ∙ block))
  | inr apart ↦ apart
]

pub place_told : (number q : ℕ) → (number / 4096 == q / 4096 && q % 4096 == number % 4096) ≡ (number == q)
place_told number q = elim (cases_Bool (number / 4096 == q / 4096)) [
  | inl hit ↦ rw hit (in_block number q ((Decides-eqb (number / 4096) (q / 4096)).0 hit))
  | inr miss ↦ rw miss (sym (other_block number q miss))
]

module _ (m n : BTreeMap ℕ (List ℕ)) (block : ℕ) (old new : List ℕ) (was : words_at m block ≡ old)
    (wrote : Updates nat_cmp m n block (Some new)) (op : Bool → Bool → Bool) (stays : (b : Bool) → op false b ≡ b) where
  -- a block written, or made where the words that were there are none
  pub block_written : (p : ℕ → Bool) → ((k : ℕ) → member new k ≡ op (p k) (member old k))
      → (q : ℕ) → has_number n q ≡ op (block == q / 4096 && p (q % 4096)) (has_number m q)
  block_written p bits q = elim (cases_Bool (block == q / 4096)) [
    | inl hit ↦
        let same : block ≡ q / 4096 = (Decides-eqb block (q / 4096)).0 hit in
        let at : is_at (nat_cmp block) (q / 4096) ≡ true = number_equal block (q / 4096) ∙ hit in
        let here : words_at n (q / 4096) ≡ new =
        ap (λ (o : Option (List ℕ)). unwrap_or o []) (wrote.0 (q / 4096) ∙ ap (λ b. cond b (Some new) (get nat_cmp m (q / 4096))) at) in
        let before : old ≡ words_at m (q / 4096) = sym was ∙ ap (words_at m) same in
        ap (λ (w : List ℕ). member w (q % 4096)) here ∙ bits (q % 4096)
        ∙ ap (λ (w : List ℕ). op (p (q % 4096)) (member w (q % 4096))) before
        ∙ sym (ap (λ b. op (b && p (q % 4096)) (has_number m q)) hit)
    | inr miss ↦
        let at : is_at (nat_cmp block) (q / 4096) ≡ false = number_equal block (q / 4096) ∙ miss in
        ap (λ (o : Option (List ℕ)). member (unwrap_or o []) (q % 4096)) (wrote.0 (q / 4096) ∙ ap (λ b. cond b (Some new) (get nat_cmp m (q / 4096))) at)
        ∙ sym (ap (λ b. op (b && p (q % 4096)) (has_number m q)) miss ∙ stays (has_number m q))
  ]

-- one number of a block put in, or taken out
pub numbers_written : (m n : BTreeMap ℕ (List ℕ)) (number : ℕ) (old new : List ℕ) → words_at m (number / 4096) ≡ old
    → Updates nat_cmp m n (number / 4096) (Some new)
    → (op : Bool → Bool → Bool) → ((b : Bool) → op false b ≡ b) → ((k : ℕ) → member new k ≡ op (k == number % 4096) (member old k))
    → (q : ℕ) → has_number n q ≡ op (number == q) (has_number m q)
numbers_written m n number old new was wrote op stays bits q =
    block_written m n (number / 4096) old new was wrote op stays (λ k. k == number % 4096) bits q
    ∙ ap (λ b. op b (has_number m q)) (place_told number q)

pub no_words : (m : BTreeMap ℕ (List ℕ)) → m.entries ≡ [] → (block : ℕ) → words_at m block ≡ []
no_words m empty block =
    ap (λ (entries : List (ℕ × List ℕ)). unwrap_or (lookup (is_at (nat_cmp block)) entries) []) empty

pub no_numbers : (m : BTreeMap ℕ (List ℕ)) → m.entries ≡ [] → (q : ℕ) → has_number m q ≡ false
no_numbers m empty q =
    ap (λ (entries : List (ℕ × List ℕ)). member (unwrap_or (lookup (is_at (nat_cmp (q / 4096))) entries) []) (q % 4096)) empty
    ∙ no_bit (q % 4096)

-- ---- the rows of all tables

pub rows_written : (m n : BTreeMap (String Global) (BTreeMap ℕ (List ℕ))) (table : List ℕ) (p : ℕ → Bool) (numbers : BTreeMap ℕ (List ℕ))
    → ((q : List ℕ) → get_by_text n q ≡ cond (bytes_eq table q) (Some numbers) (get_by_text m q))
    → (op : Bool → Bool → Bool) → ((b : Bool) → op false b ≡ b) → ((r : ℕ) → has_number numbers r ≡ op (p r) (has_row m table r))
    → (q : List ℕ) (r : ℕ) → has_row n q r ≡ op (same_text table q && p r) (has_row m q r)
rows_written m n table p numbers updates op stays steps q r = elim (cases_Bool (same_text table q)) [
  | inl hit ↦
      let same : table ≡ q = (bytes_eq-Decides table q).0 hit in
      let step : has_number numbers r ≡ op (p r) (has_row m q r) = steps r ∙ ap (λ (t : List ℕ). op (p r) (has_row m t r)) same in
      ap (λ (o : Option (BTreeMap ℕ (List ℕ))). has_among o r) (updates q) ∙ rw hit step
  | inr miss ↦ ap (λ (o : Option (BTreeMap ℕ (List ℕ))). has_among o r) (updates q) ∙ rw miss (sym (stays (has_row m q r)))
]

-- a row is in the words of its block
pub row_told : (rows : BTreeMap (String Global) (BTreeMap ℕ (List ℕ))) (table : List ℕ) (row : ℕ)
    → has_row rows table row ≡ member (words_in rows table (row / 4096)) (row % 4096)
row_told rows table row = told (get_by_text rows table)
  where
    told : (o : Option (BTreeMap ℕ (List ℕ))) → has_among o row ≡ member (words_among o (row / 4096)) (row % 4096)
    told None = sym (no_bit (row % 4096))
    told (Some numbers) = refl

-- one row is another exactly where both have the same table and number
pub rows_same : (table : List ℕ) (row : ℕ) (q : List ℕ) (r : ℕ) → is_row table row q r ≡ true → (table ≡ q) × (row ≡ r)
rows_same table row q r hit = elim (cases_Bool (same_text table q)) [
  | inl same ↦ elim (cases_Bool (row == r)) [
    | inl is ↦ ((bytes_eq-Decides table q).0 same, (Decides-eqb row r).0 is)
    | inr other ↦ absurd (false≢true (sym (rw (same, other) refl) ∙ hit))
  ]
  | inr other ↦ absurd (false≢true (sym (rw other refl) ∙ hit))
]
