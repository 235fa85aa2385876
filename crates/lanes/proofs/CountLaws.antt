-- The number of a set's members is the number of one bits in its words.
use Rattle.std.proofs.Common.{◌≡◌, ◌==◌, ℕ, zero, suc, ◌+◌, ◌*◌, ◌/◌, ◌%◌, ◌^◌, ◌<◌, ◌≤◌, inl, inr, Bool, true, false, cond, List, [], ◌∷◌, length, get_or, refl, ap, sym, subst, ◌∙◌, arith, add-one, add-zero, zero-add, add_assoc, take, Fits, w64}
use Rattle.std.specs.Prelude.{count_by, sum_by, count_ones, slice_index}
use Rattle.std.specs.List.{range_with_len}
use Rattle.std.specs.Int.{bit_at}
use lib.Count.{ones_step}
use Rattle.std.proofs.lemmas.Nat.{ones-le, shr_below}
use Rattle.std.proofs.lemmas.Nat.Bits.{bit_at_lowest, bit_at-suc}
use Rattle.std.proofs.lemmas.List.Sums.{sum_by-cons, sum_by-append, count_by-le-length}
use Rattle.std.proofs.lemmas.List.FromFn.{length-range_with_len}
use mir.Val.{bool_byte}
use Rattle.std.proofs.Math.Seq.{take-add}
use lib.Lanes.{chunk}
use Rattle.lanes.specs.Sets.{member, size}
use Rattle.lanes.proofs.SetLaws.{two}

count_cons : (p : ℕ → Bool) (x : ℕ) (xs : List ℕ) → count_by p (x ∷ xs) ≡ cond (p x) 1 0 + count_by p xs
count_cons p x xs = sum_by-cons (λ (y : ℕ). cond (p y) 1 0) x xs

-- a count from a on, of a test that is another's at the same distance from b
count_moved : (p q : ℕ → Bool) (a b n : ℕ) → ((i : ℕ) → i < n → p (a + i) ≡ q (b + i)) → count_by p (range_with_len a n) ≡ count_by q (range_with_len b n)
count_moved p q a b zero same = refl
count_moved p q a b (suc n) same =
    let first : p a ≡ q b = subst (λ (k : ℕ). p k ≡ q b) (omega arith) (subst (λ (k : ℕ). p (a + 0) ≡ q k) (omega arith) (same 0 (omega arith))) in
    let rest : count_by p (range_with_len (a + 1) n) ≡ count_by q (range_with_len (b + 1) n) = count_moved p q (a + 1) (b + 1) n (λ i below.
    subst (λ (k : ℕ). p k ≡ q (b + 1 + i)) (omega arith) (subst (λ (k : ℕ). p (a + suc i) ≡ q k) (omega arith) (same (suc i) (omega arith)))) in
    count_cons p a (range_with_len (a + 1) n) ∙ ap (λ (b : Bool). cond b 1 0 + count_by p (range_with_len (a + 1) n)) first ∙ ap (λ (k : ℕ). cond (q b) 1 0 + k) rest ∙ sym (count_cons q b (range_with_len (b + 1) n))

suc_sum : (m n : ℕ) → suc m + n ≡ suc (m + n)
suc_sum m n = omega arith

one_on : (a m : ℕ) → a + 1 + m ≡ a + suc m
one_on a m = omega arith

higher_bit : (word i : ℕ) → (bit_at (word / 2) (0 + i) == 1) ≡ (bit_at word (1 + i) == 1)
higher_bit word i =
    let low : 0 + i ≡ i = omega arith in
    let high : suc i ≡ 1 + i = omega arith in
    ap (λ (k : ℕ). bit_at (word / 2) k == 1) low ∙ sym (ap (λ (k : ℕ). k == 1) (bit_at-suc word i)) ∙ ap (λ (k : ℕ). bit_at word k == 1) high

count_split : (p : ℕ → Bool) (a m n : ℕ) → count_by p (range_with_len a (m + n)) ≡ count_by p (range_with_len a m) + count_by p (range_with_len (a + m) n)
count_split p a zero n =
    ap (λ (k : ℕ). count_by p (range_with_len a k)) (zero-add n) ∙ ap (λ (k : ℕ). count_by p (range_with_len k n)) (sym (add-zero a)) ∙ sym (zero-add (count_by p (range_with_len (a + 0) n)))
count_split p a (suc m) n =
    let first : ℕ = cond (p a) 1 0 in
    let near : ℕ = count_by p (range_with_len (a + 1) m) in
    ap (λ (k : ℕ). count_by p (range_with_len a k)) (suc_sum m n) ∙ count_cons p a (range_with_len (a + 1) (m + n))
    ∙ ap (λ (k : ℕ). first + k) (count_split p (a + 1) m n ∙ ap (λ (k : ℕ). near + count_by p (range_with_len k n)) (one_on a m))
    ∙ sym (add_assoc first near (count_by p (range_with_len (a + suc m) n)))
    ∙ ap (λ (k : ℕ). k + count_by p (range_with_len (a + suc m) n)) (sym (count_cons p a (range_with_len (a + 1) m)))

lowest_one : (word : ℕ) → word % 2 ≡ cond (bit_at word 0 == 1) 1 0
lowest_one word =
    elim (two (word % 2) (omega arith)) [
      | inl e ↦ e ∙ sym (ap (λ (k : ℕ). cond (k == 1) 1 0) (bit_at_lowest word ∙ e))
      | inr e ↦ e ∙ sym (ap (λ (k : ℕ). cond (k == 1) 1 0) (bit_at_lowest word ∙ e))
    ]

-- a number's ones, bit by bit
ones_are : (k word : ℕ) → word < 2 ^ k → count_ones word ≡ count_by (λ (i : ℕ). bit_at word i == 1) (range_with_len 0 k)
ones_are zero word small = omega (arith, ones-le 0 word small)
ones_are (suc k) word small =
    let half : ℕ = word / 2 in
    let less : half < 2 ^ k = shr_below word k 1 (rw add-one small) in
    let test : ℕ → Bool = λ (i : ℕ). bit_at word i == 1 in
    let rest : count_ones half ≡ count_by test (range_with_len 1 k) =
    ones_are k half less ∙ count_moved (λ (i : ℕ). bit_at half i == 1) test 0 1 k (λ i below. higher_bit word i) in
    ones_step word ∙ ap (λ (n : ℕ). n + count_ones half) (lowest_one word) ∙ ap (λ (n : ℕ). cond (test 0) 1 0 + n) rest ∙ sym (count_cons test 0 (range_with_len 1 k))

member_here : (word : ℕ) (words : List ℕ) (i : ℕ) → i < 64 → member (word ∷ words) (0 + i) ≡ (bit_at word (0 + i) == 1)
member_here word words i below =
    let place : (0 + i) / 64 ≡ 0 = omega arith in
    let bit : (0 + i) % 64 ≡ 0 + i = omega arith in
    ap (λ (k : ℕ). bit_at (slice_index (word ∷ words) k) ((0 + i) % 64) == 1) place ∙ ap (λ (k : ℕ). bit_at word k == 1) bit

member_later : (word : ℕ) (words : List ℕ) (i : ℕ) → member (word ∷ words) (64 + i) ≡ member words (0 + i)
member_later word words i =
    let place : (64 + i) / 64 ≡ suc ((0 + i) / 64) = omega arith in
    let bit : (64 + i) % 64 ≡ (0 + i) % 64 = omega arith in
    ap (λ (k : ℕ). bit_at (slice_index (word ∷ words) k) ((64 + i) % 64) == 1) place ∙ ap (λ (k : ℕ). bit_at (slice_index words ((0 + i) / 64)) k == 1) bit

pub size_is : (words : List ℕ) → ((k : ℕ) → Fits w64 (get_or words k 0)) → size words ≡ sum_by count_ones words
size_is [] fit = refl
size_is (word ∷ words) fit =
    let test : ℕ → Bool = member (word ∷ words) in
    let long : 64 * length (word ∷ words) ≡ 64 + 64 * length words = omega arith in
    let here : count_by test (range_with_len 0 64) ≡ count_ones word =
    count_moved test (λ (i : ℕ). bit_at word i == 1) 0 0 64 (member_here word words) ∙ sym (ones_are 64 word (fit 0).fits) in
    let later : count_by test (range_with_len 64 (64 * length words)) ≡ sum_by count_ones words =
    count_moved test (member words) 64 0 (64 * length words) (λ i below. member_later word words i) ∙ size_is words (λ k. fit (suc k)) in
    ap (λ (k : ℕ). count_by test (range_with_len 0 k)) long ∙ count_split test 0 64 (64 * length words)
    ∙ ap (λ (n : ℕ). n + count_by test (range_with_len 64 (64 * length words))) here ∙ ap (λ (n : ℕ). count_ones word + n) later
    ∙ sym (sum_by-cons count_ones word words)

-- a list of words has at most 64 ones a word
pub ones_bound : (words : List ℕ) → ((k : ℕ) → Fits w64 (get_or words k 0)) → sum_by count_ones words ≤ 64 * length words
ones_bound [] fit = omega arith
ones_bound (word ∷ words) fit = omega (arith, sum_by-cons count_ones word words, ones-le 64 word (fit 0).fits, ones_bound words (λ k. fit (suc k)))

-- eight words further on
pub ones_eight : (words : List ℕ) (at : ℕ) → sum_by count_ones (take at words) + sum_by count_ones (chunk at 8 words) ≡ sum_by count_ones (take (at + 8) words)
ones_eight words at = sym (ap (sum_by count_ones) (take-add at 8 words) ∙ sum_by-append count_ones (take at words) (chunk at 8 words))

-- one number further on
pub count_next : (p : ℕ → Bool) (n : ℕ) → count_by p (range_with_len 0 (n + 1)) ≡ count_by p (range_with_len 0 n) + cond (p n) 1 0
count_next p n =
    let from : 0 + n ≡ n = omega arith in
    count_split p 0 n 1 ∙ ap (λ (k : ℕ). count_by p (range_with_len 0 n) + count_by p (range_with_len k 1)) from ∙ ap (λ (k : ℕ). count_by p (range_with_len 0 n) + k) (zero-add (cond (p n) 1 0))

pub count_bound : (p : ℕ → Bool) (n : ℕ) → count_by p (range_with_len 0 n) ≤ n
count_bound p n = omega (arith, count_by-le-length p (range_with_len 0 n), length-range_with_len 0 n)

pub byte_is : (b : Bool) → bool_byte b ≡ cond b 1 0
byte_is true = refl
byte_is false = refl
