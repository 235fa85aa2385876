-- Logs sorted by process: the place of the log of a process.
use Rattle.std.proofs.Common.{◌≡◌, ℕ, zero, suc, ◌<◌, inl, inr, Bool, true, false, ◌&&◌, List, [], ◌∷◌, length, get_or, set, refl, ap, sym, ◌∙◌, arith}
use Rattle.std.specs.Ordering.{nat_cmp, is_lt, is_eq, ordering_reverse}
use Rattle.std.specs.List.Sorted.{IsPartitionedBy}
use Rattle.std.specs.declared.cmp.Ordering.{Ordering}
use Rattle.std.specs.declared.cmp.Ordering.TheVariants.{Less, Equal, Greater}
use Rattle.std.specs.Cmp.Lexicographic.{slice_cmp, nat_list_cmp_total}
use Rattle.std.specs.Prelude.{bytes_eq}
use Rattle.std.proofs.lemmas.Bool.{cases_lt}
use Rattle.std.proofs.lemmas.Map.Text.{is_eq-slice_cmp}
use Rattle.ldv_value.proofs.Booleans.{and-parts}
use Rattle.ldv_value.specs.Sorted.{is_strictly_sorted, precedes_first, text_precedes}
use Rattle.ldv_value.proofs.SameBytes.{bytes_eq-true, bytes_eq-itself, bytes_eq-other}
use Rattle.ldv_value.proofs.TextOrders.{text_trans, text_apart}
use Rattle.run_model.specs.LogDatabase.{is_log_of}
use Rattle.replay_log.specs.Types.{Log}
use Rattle.run_model.specs.ValidPackage.{log_precedes}
use Rattle.replay_log.specs.inner.Places.{no_log, IsAt, IsNowhere}

-- ---- names

-- a name that isn't before another, and isn't that one, is after it
name_after : (a b : List ℕ) → text_precedes a b ≡ false → bytes_eq b a ≡ false → text_precedes b a ≡ true
name_after a b not_before apart = by (slice_cmp nat_cmp a b) refl where
  by : (o : Ordering) → slice_cmp nat_cmp a b ≡ o → text_precedes b a ≡ true
  by Less is = let wrong : true ≡ false = sym (ap is_lt is) ∙ not_before in cc
  by Equal is =
      let same : a ≡ b = bytes_eq-true a b (sym (is_eq-slice_cmp a b) ∙ ap is_eq is) in
      let wrong : true ≡ false = sym (bytes_eq-itself a) ∙ ap (λ (l : List ℕ). bytes_eq l a) same ∙ apart in
      cc
  by Greater is = ap is_lt (nat_list_cmp_total.antisymm b a ∙ ap ordering_reverse is)

-- ---- logs

abbrev is_sorted : List Log → Bool
is_sorted logs = is_strictly_sorted log_precedes logs

abbrev name_at : List Log → ℕ → List ℕ
name_at logs k = (get_or logs k no_log).process.parts

rest_sorted : (log : Log) (logs : List Log) → is_sorted (log ∷ logs) ≡ true → is_sorted logs ≡ true
rest_sorted log logs sorted = (and-parts (precedes_first log_precedes log logs) (is_sorted logs) sorted).1

module _ (d : Log) where
  after_first : (log : Log) (logs : List Log) → is_sorted (log ∷ logs) ≡ true → (k : ℕ) → k < length logs
      → text_precedes log.process.parts (get_or logs k d).process.parts ≡ true
  after_first log [] sorted k below = absurd (omega (arith, below))
  after_first log (next ∷ logs) sorted zero below = (and-parts (log_precedes log next) (is_sorted (next ∷ logs)) sorted).0
  after_first log (next ∷ logs) sorted (suc k) below =
      let both = and-parts (log_precedes log next) (is_sorted (next ∷ logs)) sorted in
      text_trans log.process.parts next.process.parts (get_or logs k d).process.parts both.0 (after_first next logs both.1 k (omega (arith, below)))

  names_rise : (logs : List Log) → is_sorted logs ≡ true → (i j : ℕ) → i < j → j < length logs
      → text_precedes (get_or logs i d).process.parts (get_or logs j d).process.parts ≡ true
  names_rise [] sorted i j less below = absurd (omega (arith, below))
  names_rise (log ∷ logs) sorted i zero less below = absurd (omega (arith, less))
  names_rise (log ∷ logs) sorted zero (suc j) less below = after_first log logs sorted j (omega (arith, below))
  names_rise (log ∷ logs) sorted (suc i) (suc j) less below =
      names_rise logs (rest_sorted log logs sorted) i j (omega (arith, less)) (omega (arith, below))

-- those that are before a name come first
pub logs_parted : (process : List ℕ) (logs : List Log) → is_sorted logs ≡ true
    → IsPartitionedBy (λ (log : Log). text_precedes log.process.parts process) logs
logs_parted process logs sorted i j d to within before = elim (cases_lt i j) [
  | inl less ↦ text_trans (get_or logs i d).process.parts (get_or logs j d).process.parts process (names_rise d logs sorted i j less within) before
  | inr from ↦
      let same : i ≡ j = omega (arith, from, to) in
      ap (λ (k : ℕ). text_precedes (get_or logs k d).process.parts process) same ∙ before
]

-- a log before a name isn't its log
before_other : (process : List ℕ) (log : Log) → text_precedes log.process.parts process ≡ true → is_log_of process log ≡ false
before_other process log before =
    bytes_eq-other process log.process.parts (λ same. text_apart log.process.parts process before (sym same))

-- nor is one after it
after_other : (process : List ℕ) (log : Log) → text_precedes process log.process.parts ≡ true → is_log_of process log ≡ false
after_other process log after = bytes_eq-other process log.process.parts (text_apart process log.process.parts after)

-- the first that isn't before the name, where it is the one of the name
pub found_at : (process : List ℕ) (logs : List Log) (n : ℕ) → n < length logs
    → ((k : ℕ) → k < n → text_precedes (name_at logs k) process ≡ true)
    → is_log_of process (get_or logs n no_log) ≡ true → IsAt process n logs
found_at process [] n within before is = absurd (omega (arith, within))
found_at process (log ∷ logs) zero within before is = is
found_at process (log ∷ logs) (suc n) within before is = (
  before_other process log (before 0 (omega arith)),
  found_at process logs n (omega (arith, within)) (λ k below. before (suc k) (omega (arith, below))) is,
)

-- all are after the name
none_after : (process : List ℕ) (log : Log) (logs : List Log) → is_sorted (log ∷ logs) ≡ true
    → text_precedes process log.process.parts ≡ true → IsNowhere process (log ∷ logs)
none_after process log [] sorted after = (after_other process log after, tt)
none_after process log (next ∷ logs) sorted after =
    let both = and-parts (log_precedes log next) (is_sorted (next ∷ logs)) sorted in (
      after_other process log after,
      none_after process next logs both.1 (text_trans process log.process.parts next.process.parts after both.0),
    )

-- the first that isn't before the name, where it isn't the one of the name
pub found_nowhere : (process : List ℕ) (logs : List Log) (n : ℕ) → is_sorted logs ≡ true → n < length logs
    → ((k : ℕ) → k < n → text_precedes (name_at logs k) process ≡ true)
    → text_precedes (name_at logs n) process ≡ false
    → is_log_of process (get_or logs n no_log) ≡ false → IsNowhere process logs
found_nowhere process [] n sorted within before not_before other = absurd (omega (arith, within))
found_nowhere process (log ∷ logs) zero sorted within before not_before other =
    none_after process log logs sorted (name_after log.process.parts process not_before other)
found_nowhere process (log ∷ logs) (suc n) sorted within before not_before other = (
  before_other process log (before 0 (omega arith)),
  found_nowhere process logs n (rest_sorted log logs sorted) (omega (arith, within))
      (λ k below. before (suc k) (omega (arith, below))) not_before other,
)

-- all are before the name
pub all_before : (process : List ℕ) (logs : List Log)
    → ((k : ℕ) → k < length logs → text_precedes (name_at logs k) process ≡ true) → IsNowhere process logs
all_before process [] before = tt
all_before process (log ∷ logs) before = (
  before_other process log (before 0 (omega arith)),
  all_before process logs (λ k below. before (suc k) (omega (arith, below))),
)

-- ---- a log in place of one of the same process

first_same : (a b : Log) (logs : List Log) → a.process ≡ b.process
    → precedes_first log_precedes a logs ≡ precedes_first log_precedes b logs
first_same a b [] same = refl
first_same a b (log ∷ logs) same = λ j. text_precedes (same j).parts log.process.parts

first_set : (log : Log) (logs : List Log) (n : ℕ) (new : Log) → new.process ≡ (get_or logs n no_log).process
    → precedes_first log_precedes log (set logs n new) ≡ precedes_first log_precedes log logs
first_set log [] n new same = refl
first_set log (next ∷ logs) zero new same = λ j. text_precedes log.process.parts (same j).parts
first_set log (next ∷ logs) (suc n) new same = refl

pub set_sorted : (logs : List Log) (n : ℕ) (new : Log) → new.process ≡ (get_or logs n no_log).process
    → is_sorted (set logs n new) ≡ is_sorted logs
set_sorted [] n new same = refl
set_sorted (log ∷ logs) zero new same = ap (λ (b : Bool). b && is_sorted logs) (first_same new log logs same)
set_sorted (log ∷ logs) (suc n) new same =
    λ j. first_set log logs n new same j && set_sorted logs n new same j
