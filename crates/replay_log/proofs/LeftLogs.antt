-- The logs without their used entries: the entries of a process, and the logs once one more was used.
use Rattle.std.proofs.Common.{◌≡◌, ℕ, zero, suc, ◌+◌, ◌-◌, ◌<◌, ◌≤◌, Bool, true, false, List, [], ◌∷◌, ◌++◌, length, get_or, set, drop, take, replicate, add-one, refl, ap, sym, ◌∙◌, subst, arith}
use Rattle.std.specs.Prelude.{Option, Some, None, is_some, slice_get, ◌&&◌, if◌then◌else◌}
use Rattle.std.proofs.lemmas.List.{take_all}
use Rattle.sql_model.specs.Keys.{same_values}
use Rattle.sql_model.specs.Scope.{same_text}
use Rattle.run_model.specs.Database.{Question, Gives, Diverges}
use Rattle.run_model.specs.LogDatabase.{LogDatabase, entries_left, without_first, logs_after, no_lists, is_recorded, answer_from, log_base}
use Rattle.replay_log.specs.Types.{Entry, Log, ProcName, Reply, Value}
use Rattle.replay_log.specs.inner.Left.{without_first_ones, logs_left, next_reply, question}
use Rattle.replay_log.specs.inner.Places.{no_log, IsAt, IsNowhere}

-- ---- a process that has no log

pub entries_left-none : (process : List ℕ) (logs : List Log) (used : List ℕ) → IsNowhere process logs
    → entries_left process (logs_left logs used) ≡ []
entries_left-none process [] [] none = refl
entries_left-none process [] (n ∷ used) none = refl
entries_left-none process (log ∷ logs) [] none =
    ap (λ (b : Bool). if b then log.entries else entries_left process logs) none.0 ∙ entries_left-none process logs [] none.1
entries_left-none process (log ∷ logs) (n ∷ used) none =
    ap (λ (b : Bool). if b then drop n log.entries else entries_left process (logs_left logs used)) none.0
    ∙ entries_left-none process logs used none.1

-- ---- a process that has one

pub some_left : (process : List ℕ) (i : ℕ) (logs : List Log) (used : List ℕ) → IsAt process i logs → i < length used
    → entries_left process (logs_left logs used) ≡ drop (get_or used i 0) (get_or logs i no_log).entries
some_left process i [] used at within = absurd at
some_left process i (log ∷ logs) [] at within = absurd (omega (arith, within))
some_left process zero (log ∷ logs) (n ∷ used) at within =
    ap (λ (b : Bool). if b then drop n log.entries else entries_left process (logs_left logs used)) at
some_left process (suc i) (log ∷ logs) (n ∷ used) at within =
    ap (λ (b : Bool). if b then drop n log.entries else entries_left process (logs_left logs used)) at.0
    ∙ some_left process i logs used at.1 (omega (arith, within))

drop_suc : {X : Type 0} (n : ℕ) (xs : List X) → drop 1 (drop n xs) ≡ drop (suc n) xs
drop_suc zero xs = refl
drop_suc (suc n) [] = refl
drop_suc (suc n) (x ∷ xs) = drop_suc n xs

drop_next : {X : Type 0} (n : ℕ) (xs : List X) → drop 1 (drop n xs) ≡ drop (n + 1) xs
drop_next n xs = rw add-one (drop_suc n xs)

-- an entry of it was used: its number is one more, and what follows the entry stays
pub used_one : (process : List ℕ) (i : ℕ) (logs : List Log) (used : List ℕ) (new : Log) → IsAt process i logs
    → i < length used
    → new.process ≡ (get_or logs i no_log).process
    → drop (get_or used i 0 + 1) new.entries ≡ drop (get_or used i 0 + 1) (get_or logs i no_log).entries
    → logs_after process (logs_left logs used)
    ≡ logs_left (set logs i new) (set used i (get_or used i 0 + 1))
used_one process i [] used new at within same rest = absurd at
used_one process i (log ∷ logs) [] new at within same rest = absurd (omega (arith, within))
used_one process zero (log ∷ logs) (n ∷ used) new at within same rest =
    let left : List Log = logs_left logs used in
    ap (λ (b : Bool). if b then without_first (without_first_ones n log) ∷ left else without_first_ones n log ∷ logs_after process left) at
    ∙ λ j. record { process = sym same j; entries = (drop_next n log.entries ∙ sym rest) j } ∷ left
used_one process (suc i) (log ∷ logs) (n ∷ used) new at within same rest =
    let left : List Log = logs_left logs used in
    ap (λ (b : Bool). if b then without_first (without_first_ones n log) ∷ left else without_first_ones n log ∷ logs_after process left) at.0
    ∙ ap (λ (ls : List Log). without_first_ones n log ∷ ls) (used_one process i logs used new at.1 (omega (arith, within)) same rest)

-- ---- logs of which nothing was used

pub unused : (k : ℕ) (logs : List Log) → logs_left logs (replicate k 0) ≡ logs
unused zero logs = refl
unused (suc k) [] = refl
unused (suc k) (log ∷ logs) = ap (λ (ls : List Log). log ∷ ls) (unused k logs)

pub more_unused : (k : ℕ) (logs : List Log) (used : List ℕ) → logs_left logs (used ++ replicate k 0) ≡ logs_left logs used
more_unused k logs [] = unused k logs
more_unused k [] (n ∷ used) = refl
more_unused k (log ∷ logs) (n ∷ used) = ap (λ (ls : List Log). without_first_ones n log ∷ ls) (more_unused k logs used)

pub resized : (logs : List Log) (old new : List ℕ) (ok : Bool) (count size : ℕ) → size ≡ length old → size ≤ count
    → new ≡ (if ok then take count old ++ replicate (count - size) 0 else old)
    → logs_left logs new ≡ logs_left logs old
resized logs old new true count size sized few is =
    ap (logs_left logs) (is ∙ ap (λ (ns : List ℕ). ns ++ replicate (count - size) 0) (take_all count old (subst (λ (n : ℕ). n ≤ count) sized few)))
    ∙ more_unused (count - size) logs old
resized logs old new false count size sized few is = ap (logs_left logs) is

-- ---- answers

gives_if : (b : Bool) (reply other : Reply) → (if b then Some other else None) ≡ Some reply → (b ≡ true) × (other ≡ reply)
gives_if true reply other is = (refl, cc)
gives_if false reply other is = cc

none_if : (b : Bool) (other : Reply) → (if b then Some other else None) ≡ None → b ≡ false
none_if true other is = cc
none_if false other is = refl

pub answer_gives : (logs after : LogDatabase) (q : Question) (entries : List Entry) (reply : Reply)
    → next_reply entries q.text q.params ≡ Some reply → logs_after q.process logs ≡ after
    → answer_from logs q entries ≡ Gives reply after no_lists
answer_gives logs after q [] reply is same = cc
answer_gives logs after q (entry ∷ entries) reply is same =
    let both = gives_if (is_recorded q entry) reply entry.reply is in
    ap (λ (b : Bool). if b then Gives entry.reply (logs_after q.process logs) no_lists else Diverges) both.0
    ∙ λ j. Gives (both.1 j) (same j) no_lists

pub answer_diverges : (logs : LogDatabase) (q : Question) (entries : List Entry)
    → next_reply entries q.text q.params ≡ None → answer_from logs q entries ≡ Diverges
answer_diverges logs q [] none = refl
answer_diverges logs q (entry ∷ entries) none =
    ap (λ (b : Bool). if b then Gives entry.reply (logs_after q.process logs) no_lists else Diverges)
    (none_if (is_recorded q entry) entry.reply none)

-- ---- the next reply

is_some-if : {X : Type 0} (b : Bool) (x : X) → is_some (if b then Some x else None) ≡ b
is_some-if true x = refl
is_some-if false x = refl

-- whether there is one is whether the entry is recorded so
pub is_next : (text : List ℕ) (params : List Value) (entries rest : List Entry) (entry : Entry) → entries ≡ entry ∷ rest
    → (same_text text entry.text && same_values params entry.params) ≡ is_some (next_reply entries text params)
is_next text params entries rest entry is =
    sym (ap (λ (es : List Entry). is_some (next_reply es text params)) is
    ∙ is_some-if (same_text text entry.text && same_values params entry.params) entry.reply)

pub no_next : (text : List ℕ) (params : List Value) (entries : List Entry) → entries ≡ []
    → false ≡ is_some (next_reply entries text params)
no_next text params entries none = sym (ap (λ (es : List Entry). is_some (next_reply es text params)) none)

pub none_next : (o : Option Reply) → is_some o ≡ false → o ≡ None
none_next None none = refl
none_next (Some reply) none = cc

some_if : (b : Bool) (reply other : Reply) → is_some (if b then Some other else None) ≡ true → reply ≡ other
    → (if b then Some other else None) ≡ Some reply
some_if true reply other is same = ap (λ (r : Reply). Some r) (sym same)
some_if false reply other is same = cc

-- the one that is taken
pub next_taken : (text : List ℕ) (params : List Value) (entries : List Entry) (place : ℕ) (reply : Reply)
    → is_some (next_reply (drop place entries) text params) ≡ true
    → ((entry : Entry) → slice_get entries place ≡ Some entry → reply ≡ entry.reply)
    → next_reply (drop place entries) text params ≡ Some reply
next_taken text params [] zero reply is taken = cc
next_taken text params [] (suc place) reply is taken = cc
next_taken text params (entry ∷ entries) zero reply is taken =
    some_if (same_text text entry.text && same_values params entry.params) reply entry.reply is (taken entry refl)
next_taken text params (entry ∷ entries) (suc place) reply is taken = next_taken text params entries place reply is taken

-- ---- what the database of recorded replies says

module _ (process : ProcName) (text : List ℕ) (params : List Value) (logs : List Log) (used : List ℕ) where
  -- a process that has no log
  pub diverges_nowhere : IsNowhere process.parts logs → log_base (logs_left logs used) (question process text params) ≡ Diverges
  diverges_nowhere none =
      answer_diverges (logs_left logs used) (question process text params) (entries_left process.parts (logs_left logs used))
      (ap (λ (es : List Entry). next_reply es text params) (entries_left-none process.parts logs used none))

  -- one that has: how many of its entries were used, its log, and the log without the next entry
  module _ (i place : ℕ) (old : Log) (at : IsAt process.parts i logs) (within : i < length used)
      (placed : place ≡ get_or used i 0) (here : old ≡ get_or logs i no_log) where
    next_same : drop place old.entries ≡ drop (get_or used i 0) (get_or logs i no_log).entries
    next_same = λ j. drop (placed j) (here j).entries

    next_left : entries_left process.parts (logs_left logs used) ≡ drop place old.entries
    next_left = some_left process.parts i logs used at within ∙ sym next_same

    pub diverges_next : next_reply (drop place old.entries) text params ≡ None
        → log_base (logs_left logs used) (question process text params) ≡ Diverges
    diverges_next none =
        answer_diverges (logs_left logs used) (question process text params) (entries_left process.parts (logs_left logs used))
        (ap (λ (es : List Entry). next_reply es text params) next_left ∙ none)

    pub gives_next : (new : Log) (reply : Reply) → new.process ≡ old.process
        → drop (place + 1) new.entries ≡ drop (place + 1) old.entries
        → next_reply (drop place old.entries) text params ≡ Some reply
        → log_base (logs_left logs used) (question process text params)
        ≡ Gives reply (logs_left (set logs i new) (set used i (place + 1))) no_lists
    gives_next new reply same rest next =
        let kept : drop (get_or used i 0 + 1) new.entries ≡ drop (get_or used i 0 + 1) (get_or logs i no_log).entries =
        sym (ap (λ (n : ℕ). drop (n + 1) new.entries) placed) ∙ rest ∙ λ j. drop (placed j + 1) (here j).entries in
        let after : logs_after process.parts (logs_left logs used) ≡ logs_left (set logs i new) (set used i (place + 1)) =
        used_one process.parts i logs used new at within (same ∙ ap (λ (l : Log). l.process) here) kept
        ∙ sym (ap (λ (n : ℕ). logs_left (set logs i new) (set used i (n + 1))) placed) in
        answer_gives (logs_left logs used) (logs_left (set logs i new) (set used i (place + 1)))
        (question process text params) (entries_left process.parts (logs_left logs used)) reply
        (ap (λ (es : List Entry). next_reply es text params) next_left ∙ next) after
