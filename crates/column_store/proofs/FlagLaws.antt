-- Bits of slots as a list.
use Rattle.std.proofs.Common.{◌≡◌, ◌==◌, ◌≢◌, ℕ, zero, suc, ◌+◌, ◌*◌, ◌/◌, ◌%◌, ◌^◌, ◌<◌, ◌≤◌, inl, inr, Bool, true, false, cond, List, [], ◌∷◌, ◌++◌, map, length, get_or, set, refl, ap, sym, subst, ◌∙◌, arith, bit_or, bit_and, w64, get_or-set_same, get_or-set_other, eq-eqb}
use Rattle.std.specs.Int.{bit_at, bit_not}
use Rattle.std.specs.List.{range_with_len}
use Rattle.std.proofs.lemmas.Bool.{cases_eq, ne_eqb}
use Rattle.std.proofs.lemmas.List.FromFn.{length-map-range_with_len, get_or-map-range_with_len, map-range_with_len_more, fill_by_all}
use Rattle.std.proofs.lemmas.List.{length-set}
use Rattle.std.proofs.lemmas.Nat.Bits.{bit_at-zero, bit_at_set_same, bit_at_set_other, bit_at_clear_same, bit_at_clear_other}
use Rattle.column_store.specs.Flags.{Flags, flag_in, flags_of}
use Rattle.ldv_value.proofs.Lists.{zero-last}

pub flags_len : (words : List ℕ) (count : ℕ) → length (flags_of words count) ≡ count
flags_len words count = length-map-range_with_len (flag_in words) 0 count

pub flag_at : (words : List ℕ) (count n : ℕ) → n < count → get_or (flags_of words count) n false ≡ flag_in words n
flag_at words count n within = get_or-map-range_with_len (flag_in words) 0 count n n false within (omega arith)

-- lists of functions that agree below a number
pub same_below : {X : Type 0} (f g : ℕ → X) (a n : ℕ) → ((k : ℕ) → k < a + n → f k ≡ g k) → map f (range_with_len a n) ≡ map g (range_with_len a n)
same_below f g a zero same = refl
same_below f g a (suc n) same = λ j. same a (omega arith) j ∷ same_below f g (a + 1) n (λ k below. same k (omega (arith, below))) j

pub flags_same : (old new : List ℕ) (count : ℕ) → ((n : ℕ) → flag_in new n ≡ flag_in old n) → flags_of new count ≡ flags_of old count
flags_same old new count same = same_below (flag_in new) (flag_in old) 0 count (λ k below. same k)

-- one more bit
pub flags_more : (old wide new : List ℕ) (count : ℕ) (bit : Bool) → ((n : ℕ) → flag_in wide n ≡ flag_in old n) → ((n : ℕ) → flag_in new n ≡ cond (n == count) bit (flag_in wide n))
    → flags_of new (count + 1) ≡ flags_of old count ++ bit ∷ []
flags_more old wide new count bit same put =
    let front : flags_of new count ≡ flags_of old count = same_below (flag_in new) (flag_in old) 0 count (λ k below. put k ∙ ap (λ b. cond b bit (flag_in wide k)) (ne_eqb k count (omega (arith, below))) ∙ same k) in
    let last : flag_in new count ≡ bit = put count ∙ ap (λ b. cond b bit (flag_in wide count)) (eq-eqb count count refl) in
    map-range_with_len_more (flag_in new) 0 count count (omega arith) ∙ (λ j. front j ++ last j ∷ [])

-- one bit changed
pub flags_set : (old new : List ℕ) (count slot : ℕ) (bit : Bool) → slot < count → ((n : ℕ) → flag_in new n ≡ cond (n == slot) bit (flag_in old n))
    → flags_of new count ≡ set (flags_of old count) slot bit
flags_set old new count slot bit within put =
    sym (fill_by_all (flag_in new) (set (flags_of old count) slot bit) count false (length-set (flags_of old count) slot bit ∙ flags_len old count) (λ k below. elim (cases_eq k slot) [
      | inl is ↦ let long : slot < length (flags_of old count) = subst (λ (n : ℕ). slot < n) (sym (flags_len old count)) within in
          ap (λ (n : ℕ). get_or (set (flags_of old count) slot bit) n false) is ∙ get_or-set_same (flags_of old count) slot bit false long
          ∙ sym (put k ∙ ap (λ b. cond b bit (flag_in old k)) (eq-eqb k slot is))
      | inr other ↦ get_or-set_other (flags_of old count) slot k bit false other ∙ flag_at old count k below
          ∙ sym (put k ∙ ap (λ b. cond b bit (flag_in old k)) (ne_eqb k slot other))
    ]))

-- a word with one bit written
module _ (words : List ℕ) (slot : ℕ) (room : slot / 64 < length words) (word : ℕ) (bit : Bool) where
  written : ((bit_at word (slot % 64) == 1) ≡ bit) → ((i : ℕ) → i < 64 → i ≢ slot % 64 → bit_at word i ≡ bit_at (get_or words (slot / 64) 0) i)
      → (n : ℕ) → flag_in (set words (slot / 64) word) n ≡ cond (n == slot) bit (flag_in words n)
  written here there n = elim (cases_eq (n / 64) (slot / 64)) [
    | inl same ↦
        let at : get_or (set words (slot / 64) word) (n / 64) 0 ≡ word = ap (λ (k : ℕ). get_or (set words (slot / 64) word) k 0) same ∙ get_or-set_same words (slot / 64) word 0 room in
        elim (cases_eq (n % 64) (slot % 64)) [
          | inl bits ↦
              let is : n ≡ slot = omega arith in
              ap (λ (w : ℕ). bit_at w (n % 64) == 1) at ∙ ap (λ (k : ℕ). bit_at word k == 1) bits ∙ here ∙ ap (λ b. cond b bit (flag_in words n)) (sym (eq-eqb n slot is))
          | inr other ↦
              let apart : n ≢ slot = λ is. other (ap (λ (k : ℕ). k % 64) is) in
              let low : n % 64 < 64 = omega arith in
              ap (λ (w : ℕ). bit_at w (n % 64) == 1) at ∙ ap (λ (p : ℕ). p == 1) (there (n % 64) low other)
              ∙ ap (λ (k : ℕ). bit_at (get_or words k 0) (n % 64) == 1) (sym same)
              ∙ ap (λ b. cond b bit (flag_in words n)) (sym (ne_eqb n slot apart))
        ]
    | inr apart_words ↦
        let apart : n ≢ slot = λ is. apart_words (ap (λ (k : ℕ). k / 64) is) in
        ap (λ (w : ℕ). bit_at w (n % 64) == 1) (get_or-set_other words (slot / 64) (n / 64) word 0 apart_words) ∙ ap (λ b. cond b bit (flag_in words n)) (sym (ne_eqb n slot apart))
  ]

bit_set_at : (words : List ℕ) (slot : ℕ) → slot / 64 < length words → (n : ℕ)
    → flag_in (set words (slot / 64) (bit_or (get_or words (slot / 64) 0) (1 * 2 ^ (slot % 64) % 2 ^ 64))) n ≡ cond (n == slot) true (flag_in words n)
bit_set_at words slot room =
    let low : slot % 64 < 64 = omega arith in
    written words slot room _ true (ap (λ (p : ℕ). p == 1) (bit_at_set_same w64 (get_or words (slot / 64) 0) (slot % 64) low)) (λ i within other. bit_at_set_other w64 (get_or words (slot / 64) 0) (slot % 64) low i other)

pub bit_cleared_at : (words : List ℕ) (slot : ℕ) → slot / 64 < length words → (n : ℕ)
    → flag_in (set words (slot / 64) (bit_and (get_or words (slot / 64) 0) (bit_not w64 (1 * 2 ^ (slot % 64) % 2 ^ 64)))) n ≡ cond (n == slot) false (flag_in words n)
bit_cleared_at words slot room =
    let low : slot % 64 < 64 = omega arith in
    written words slot room _ false (ap (λ (p : ℕ). p == 1) (bit_at_clear_same w64 (get_or words (slot / 64) 0) (slot % 64) low)) (λ i within other. bit_at_clear_other w64 (get_or words (slot / 64) 0) (slot % 64) low i within other)

pub default_free : {X : Type 0} (xs : List X) (i : ℕ) (d e : X) → i < length xs → get_or xs i d ≡ get_or xs i e
default_free [] i d e within = absurd (omega (arith, within))
default_free (x ∷ xs) zero d e within = refl
default_free (x ∷ xs) (suc i) d e within = default_free xs i d e (omega (arith, within))

-- the same by the word that was read
pub bit_set : (words : List ℕ) (slot word : ℕ) → slot / 64 < length words → word ≡ get_or words (slot / 64) word → (n : ℕ)
    → flag_in (set words (slot / 64) (bit_or word (1 * 2 ^ (slot % 64) % 2 ^ 64))) n ≡ cond (n == slot) true (flag_in words n)
bit_set words slot word room read n =
    ap (λ (w : ℕ). flag_in (set words (slot / 64) (bit_or w (1 * 2 ^ (slot % 64) % 2 ^ 64))) n) (read ∙ default_free words (slot / 64) word 0 room) ∙ bit_set_at words slot room n

pub bit_cleared : (words : List ℕ) (slot word : ℕ) → slot / 64 < length words → word ≡ get_or words (slot / 64) word → (n : ℕ)
    → flag_in (set words (slot / 64) (bit_and word (bit_not w64 (1 * 2 ^ (slot % 64) % 2 ^ 64)))) n ≡ cond (n == slot) false (flag_in words n)
bit_cleared words slot word room read n =
    ap (λ (w : ℕ). flag_in (set words (slot / 64) (bit_and w (bit_not w64 (1 * 2 ^ (slot % 64) % 2 ^ 64)))) n) (read ∙ default_free words (slot / 64) word 0 room) ∙ bit_cleared_at words slot room n

-- the same of a list that is seen
pub flags_set_seen : (old new : List ℕ) (count slot : ℕ) (bit : Bool) (seen : Flags) (spare : ℕ) → record { items = flags_of old count; spare = spare } ≡ seen → slot < length seen.items → ((n : ℕ) → flag_in new n ≡ cond (n == slot) bit (flag_in old n))
    → flags_of new count ≡ set seen.items slot bit
flags_set_seen old new count slot bit seen spare is within put =
    let items : flags_of old count ≡ seen.items = ap (λ (f : Flags). f.items) is in
    flags_set old new count slot bit (subst (λ (n : ℕ). slot < n) (sym (ap length items) ∙ flags_len old count) within) put ∙ ap (λ (l : List Bool). set l slot bit) items

pub flags_more_seen : (old wide new : List ℕ) (count : ℕ) (bit : Bool) (seen : Flags) (spare : ℕ) → record { items = flags_of old count; spare = spare } ≡ seen
    → ((n : ℕ) → flag_in wide n ≡ flag_in old n) → ((n : ℕ) → flag_in new n ≡ cond (n == count) bit (flag_in wide n))
    → flags_of new (count + 1) ≡ seen.items ++ bit ∷ []
flags_more_seen old wide new count bit seen spare is same put = flags_more old wide new count bit same put ∙ ap (λ (f : Flags). f.items ++ bit ∷ []) is

-- a further empty word has no bit
pub zero_word : (words : List ℕ) (n : ℕ) → flag_in (words ++ 0 ∷ []) n ≡ flag_in words n
zero_word words n = ap (λ (w : ℕ). bit_at w (n % 64) == 1) (zero-last words (n / 64))

-- ---- no bit past the slots

pub clear_none : (n : ℕ) → 0 ≤ n → flag_in [] n ≡ false
clear_none n from = ap (λ (p : ℕ). p == 1) (bit_at-zero (n % 64))

pub clear_more : (old wide new : List ℕ) (count : ℕ) (bit : Bool) → ((n : ℕ) → count ≤ n → flag_in old n ≡ false)
    → ((n : ℕ) → flag_in wide n ≡ flag_in old n) → ((n : ℕ) → flag_in new n ≡ cond (n == count) bit (flag_in wide n))
    → (n : ℕ) → count + 1 ≤ n → flag_in new n ≡ false
clear_more old wide new count bit clear same put n from =
    put n ∙ ap (λ b. cond b bit (flag_in wide n)) (ne_eqb n count (omega (arith, from))) ∙ same n ∙ clear n (omega (arith, from))

pub clear_set : (old new : List ℕ) (count slot : ℕ) (bit : Bool) → ((n : ℕ) → count ≤ n → flag_in old n ≡ false) → slot < count
    → ((n : ℕ) → flag_in new n ≡ cond (n == slot) bit (flag_in old n)) → (n : ℕ) → count ≤ n → flag_in new n ≡ false
clear_set old new count slot bit clear within put n from =
    put n ∙ ap (λ b. cond b bit (flag_in old n)) (ne_eqb n slot (omega (arith, within, from))) ∙ clear n from

pub ruleset flag_rules = (flags_len, flag_at, flags_same, flags_more_seen, flags_set_seen)
