-- Versions of rows, written and moved.
use Rattle.std.proofs.Common.{◌≡◌, ◌≢◌, ◌==◌, ◌∙◌, sym, ap, ℕ, ◌+◌, ◌-◌, ◌<◌, ◌≤◌, List, [], ◌∷◌, ◌++◌, length, true, false, cond, get_or, set, replicate, arith, inl, inr, lt-ltb, eq-eqb, get_or-set_same, get_or-set_other}
use Rattle.std.specs.Prelude.{nat_lt}
use Rattle.std.proofs.lemmas.List.{get_or_append_left, get_or-replicate, length-replicate}
use Rattle.std.proofs.Math.Seq.{get_or-append_right}
use Rattle.std.proofs.lemmas.Bool.{cases_lt, le-ltb, ne_eqb, cases_eq}
use Rattle.lineage.specs.inner.Blocks.{version_of, HasPlace}
use Rattle.lineage.specs.declared.versions.Versions.{Versions}
use Rattle.ldv_value.proofs.Lists.{zero-last}

-- before the first there is none
pub version_before : (v : Versions) (n : ℕ) → n < v.first → version_of v n ≡ 0
version_before v n below = ap (λ b. cond b 0 (get_or v.numbers (n - v.first) 0)) (lt-ltb n v.first below)

pub version_from : (v : Versions) (n : ℕ) → v.first ≤ n → version_of v n ≡ get_or v.numbers (n - v.first) 0
version_from v n on = ap (λ b. cond b 0 (get_or v.numbers (n - v.first) 0)) (le-ltb n v.first on)

zeros_first : (numbers : List ℕ) (count n : ℕ) → get_or (replicate count 0 ++ numbers) n 0 ≡ cond (nat_lt n count) 0 (get_or numbers (n - count) 0)
zeros_first numbers count n = elim (cases_lt n count) [
  | inl early ↦
      get_or_append_left (replicate count 0) numbers 0 n (omega (arith, early, length-replicate {A = ℕ} count 0))
      ∙ get_or-replicate count n 0 0 early
      ∙ sym (ap (λ b. cond b 0 (get_or numbers (n - count) 0)) (lt-ltb n count early))
  | inr late ↦
      get_or-append_right (replicate count 0) numbers n 0 (omega (arith, late, length-replicate {A = ℕ} count 0))
      ∙ ap (λ (k : ℕ). get_or numbers (n - k) 0) (length-replicate {A = ℕ} count 0)
      ∙ sym (ap (λ b. cond b 0 (get_or numbers (n - count) 0)) (le-ltb n count late))
]

-- zeros in front, and counted from 0
pub lowered : (old new : Versions) → new.numbers ≡ replicate old.first 0 ++ old.numbers → new.first ≡ 0 → (m : ℕ) → version_of new m ≡ version_of old m
lowered old new numbers first m =
    version_from new m (omega (arith, first))
    ∙ (λ j. get_or (numbers j) (m - first j) 0)
    ∙ ap (λ (k : ℕ). get_or (replicate old.first 0 ++ old.numbers) k 0) (omega arith)
    ∙ zeros_first old.numbers old.first m

-- a zero more at the end
pub longer : (first : ℕ) (numbers : List ℕ) (m : ℕ)
    → cond (nat_lt m first) 0 (get_or (numbers ++ 0 ∷ []) (m - first) 0) ≡ cond (nat_lt m first) 0 (get_or numbers (m - first) 0)
longer first numbers m = ap (λ (v : ℕ). cond (nat_lt m first) 0 v) (zero-last numbers (m - first))

-- one version written
pub noted : (old new : Versions) (n version : ℕ) → HasPlace old n → new.numbers ≡ set old.numbers (n - old.first) version → new.first ≡ old.first
    → (m : ℕ) → version_of new m ≡ cond (m == n) version (version_of old m)
noted old new n version (on, below) numbers first m =
    let moved : version_of new m ≡ cond (nat_lt m old.first) 0 (get_or (set old.numbers (n - old.first) version) (m - old.first) 0) =
    (λ j. cond (nat_lt m (first j)) 0 (get_or (numbers j) (m - first j) 0)) in
    elim (cases_eq m n) [
      | inl is ↦
          let hit : (m == n) ≡ true = eq-eqb m n is in
          let late : nat_lt m old.first ≡ false = le-ltb m old.first (omega (arith, is, on)) in
          let place : m - old.first ≡ n - old.first = ap (λ (k : ℕ). k - old.first) is in
          let room : n - old.first < length old.numbers = omega (arith, on, below) in
          moved ∙ ap (λ b. cond b 0 (get_or (set old.numbers (n - old.first) version) (m - old.first) 0)) late
          ∙ ap (λ (k : ℕ). get_or (set old.numbers (n - old.first) version) k 0) place
          ∙ get_or-set_same old.numbers (n - old.first) version 0 room
          ∙ sym (ap (λ b. cond b version (version_of old m)) hit)
      | inr apart ↦
          let miss : (m == n) ≡ false = ne_eqb m n apart in
          let kept : version_of new m ≡ version_of old m = elim (cases_lt m old.first) [
            | inl early ↦ moved ∙ ap (λ b. cond b 0 (get_or (set old.numbers (n - old.first) version) (m - old.first) 0)) (lt-ltb m old.first early) ∙ sym (version_before old m early)
            | inr late ↦
                let other : m - old.first ≢ n - old.first = λ is. apart (omega (arith, is, late, on)) in
                moved ∙ ap (λ (v : ℕ). cond (nat_lt m old.first) 0 v) (get_or-set_other old.numbers (n - old.first) (m - old.first) version 0 other)
          ] in
          kept ∙ sym (ap (λ b. cond b version (version_of old m)) miss)
    ]
