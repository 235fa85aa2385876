-- Sets after one number is added or removed, by one bit of one word.
use Rattle.std.proofs.Common.{◌≡◌, ◌==◌, ◌≢◌, ℕ, ◌*◌, ◌/◌, ◌%◌, ◌^◌, ◌<◌, inl, inr, Bool, true, false, ◌&&◌, ◌||◌, not, List, length, get_or, set, refl, ap, sym, ◌∙◌, arith, bit_and, bit_or, w64, get_or-set_same, get_or-set_other, eq-eqb}
use Rattle.std.specs.Int.{bit_at, bit_not}
use Rattle.std.proofs.lemmas.Bool.{cases_eq, ne_eqb}
use Rattle.std.proofs.lemmas.Nat.Bits.{bit_at_set_same, bit_at_set_other, bit_at_clear_same, bit_at_clear_other}
use Rattle.lanes.specs.Sets.{member}

-- a word with a number's bit as `op` says, and all other bits as they were
module _ (op : Bool → Bool → Bool) (stays : (b : Bool) → op false b ≡ b) (words : List ℕ) (number word : ℕ) (room : number / 64 < length words)
    (bit : (bit_at word (number % 64) == 1) ≡ op true (member words number))
    (others : (k : ℕ) → k < 64 → k ≢ number % 64 → bit_at word k ≡ bit_at (get_or words (number / 64) 0) k) where
  changed : (n : ℕ) → member (set words (number / 64) word) n ≡ op (n == number) (member words n)
  changed n =
      let place : ℕ = number / 64 in
      let new : List ℕ = set words place word in
      elim (cases_eq (n / 64) place) [
        | inl here ↦
            let at : get_or new (n / 64) 0 ≡ word = ap (λ (k : ℕ). get_or new k 0) here ∙ rw get_or-set_same refl in
            elim (cases_eq (n % 64) (number % 64)) [
              | inl same ↦
                  let is : n ≡ number = omega arith in
                  let hit : (n == number) ≡ true = eq-eqb n number is in
                  ap (λ (w : ℕ). bit_at w (n % 64) == 1) at ∙ ap (λ (k : ℕ). bit_at word k == 1) same ∙ bit
                  ∙ (λ j. op (sym hit j) (member words (sym is j)))
              | inr other ↦
                  let apart : n ≢ number = λ is. other (ap (λ (k : ℕ). k % 64) is) in
                  ap (λ (w : ℕ). bit_at w (n % 64) == 1) at ∙ ap (λ (p : ℕ). p == 1) (others (n % 64) (omega arith) other)
                  ∙ ap (λ (k : ℕ). bit_at (get_or words k 0) (n % 64) == 1) (sym here)
                  ∙ sym (ap (λ (b : Bool). op b (member words n)) (ne_eqb n number apart) ∙ stays (member words n))
            ]
        | inr there ↦
            let apart : n ≢ number = λ is. there (ap (λ (k : ℕ). k / 64) is) in
            ap (λ (w : ℕ). bit_at w (n % 64) == 1) (rw get_or-set_other refl)
            ∙ sym (ap (λ (b : Bool). op b (member words n)) (ne_eqb n number apart) ∙ stays (member words n))
      ]

-- a number put in
pub inserted : (words : List ℕ) (number : ℕ) → number / 64 < length words → (n : ℕ)
    → member (set words (number / 64) (bit_or (get_or words (number / 64) 0) (1 * 2 ^ (number % 64) % 2 ^ 64))) n ≡ (n == number || member words n)
inserted words number room n =
    let old : ℕ = get_or words (number / 64) 0 in
    let within : number % 64 < 64 = omega arith in
    changed (λ e b. e || b) (λ b. refl) words number (bit_or old (1 * 2 ^ (number % 64) % 2 ^ 64)) room
    (ap (λ (p : ℕ). p == 1) (bit_at_set_same w64 old (number % 64) within))
    (λ k below other. bit_at_set_other w64 old (number % 64) within k other) n

-- a number taken out
pub cleared : (words : List ℕ) (number : ℕ) → number / 64 < length words → (n : ℕ)
    → member (set words (number / 64) (bit_and (get_or words (number / 64) 0) (bit_not w64 (1 * 2 ^ (number % 64) % 2 ^ 64)))) n ≡ (not (n == number) && member words n)
cleared words number room n =
    let old : ℕ = get_or words (number / 64) 0 in
    let within : number % 64 < 64 = omega arith in
    changed (λ e b. not e && b) (λ b. refl) words number (bit_and old (bit_not w64 (1 * 2 ^ (number % 64) % 2 ^ 64))) room
    (ap (λ (p : ℕ). p == 1) (bit_at_clear_same w64 old (number % 64) within))
    (λ k below other. bit_at_clear_other w64 old (number % 64) within k below other) n
