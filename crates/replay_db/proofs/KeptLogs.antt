-- The logs made from kept replies, sorted by process, are the logs of the run.
use Rattle.std.proofs.Common.{◌≡◌, ℕ, List, [], ◌∷◌, ◌++◌, refl, sym, ap, ◌∙◌, Bool, true, false, append_assoc, length, arith, inl, inr}
use Rattle.std.specs.Prelude.{bytes_eq, if◌then◌else◌}
use Rattle.std.specs.Cmp.{IsTotalOrder}
use Rattle.std.specs.Cmp.Lexicographic.{slice_cmp, nat_list_cmp_total}
use Rattle.std.specs.Ordering.{nat_cmp, is_eq, is_gt}
use Rattle.std.specs.declared.cmp.Ordering.{Ordering}
use Rattle.std.specs.declared.cmp.Ordering.TheVariants.{Less, Equal, Greater}
use Rattle.std.proofs.lemmas.Cmp.{on_total}
use Rattle.std.proofs.lemmas.Bool.{cases_Bool}
use Rattle.std.proofs.lemmas.Map.Text.{is_eq-slice_cmp}
use Rattle.ldv_value.proofs.SameBytes.{bytes_eq-true, bytes_eq-itself, bytes_eq-sym}
use Rattle.std.proofs.lemmas.List.{append-nil}
use Rattle.sql_model.specs.Sorting.{put_sorted, sorted_by}
use Rattle.replay_db.specs.Types.{Log}
use Rattle.run_laws.specs.declared.kept.Kept.{Kept}
use Rattle.run_laws.specs.KeptReplies.{name_cmp, new_log, with_first, put_where, put_first, logs_kept}
use Rattle.replay_db.specs.inner.KeptGroups.{kept_cmp, is_of, with_last, logs_with, with_kept, grouped_onto, logs_of_kept}

pub kept_total : IsTotalOrder kept_cmp
kept_total = on_total (λ (k : Kept). k.process.parts) nat_list_cmp_total

-- ---- groups from the right

abbrev front_if : Bool → Kept → Log → List Log → List Log
front_if true k log logs = with_first k log ∷ logs
front_if false k log logs = new_log k ∷ log ∷ logs

-- to the first log, where it is of that process
abbrev front : Kept → List Log → List Log
front k [] = new_log k ∷ []
front k (log ∷ logs) = front_if (is_of k log) k log logs

abbrev runs : List Kept → List Log
runs [] = []
runs (k ∷ kept) = front k (runs kept)

-- ---- one more at the end

joined_is : (b : Bool) (s k : Kept) (log : Log) → is_of k log ≡ b
    → front s (if b then with_last k log ∷ [] else log ∷ new_log k ∷ [])
    ≡ with_kept k (front s (log ∷ []))
joined_is true s k log is = by (is_of s log) where
  by : (c : Bool) → front_if c s (with_last k log) [] ≡ with_kept k (front_if c s log [])
  by true = sym (ap (λ (b : Bool). if b then with_last k (with_first s log) ∷ [] else with_first s log ∷ new_log k ∷ []) is)
  by false = sym (ap (λ (b : Bool). new_log s ∷ (if b then with_last k log ∷ [] else log ∷ new_log k ∷ [])) is)
joined_is false s k log is = by (is_of s log) where
  by : (c : Bool) → front_if c s log (new_log k ∷ []) ≡ with_kept k (front_if c s log [])
  by true = sym (ap (λ (b : Bool). if b then with_last k (with_first s log) ∷ [] else with_first s log ∷ new_log k ∷ []) is)
  by false = sym (ap (λ (b : Bool). new_log s ∷ (if b then with_last k log ∷ [] else log ∷ new_log k ∷ [])) is)

first_joined : (b : Bool) (s k : Kept) → bytes_eq s.process.parts k.process.parts ≡ b
    → front_if b s (new_log k) []
    ≡ (if b then with_last k (new_log s) ∷ [] else new_log s ∷ new_log k ∷ [])
first_joined true s k is =
    let same : k.process.parts ≡ s.process.parts = sym (bytes_eq-true s.process.parts k.process.parts is) in
    λ j. record { process = record { parts = same j }; entries = s.entry ∷ k.entry ∷ [] } ∷ []
first_joined false s k is = refl

more_front : (c : Bool) (s k : Kept) (d e : Log) (logs : List Log)
    → front_if c s d (with_kept k (e ∷ logs)) ≡ with_kept k (front_if c s d (e ∷ logs))
more_front true s k d e logs = refl
more_front false s k d e logs = refl

front_kept : (s k : Kept) (logs : List Log) → front s (with_kept k logs) ≡ with_kept k (front s logs)
front_kept s k [] =
    first_joined (is_of s (new_log k)) s k refl
    ∙ ap (λ (b : Bool). if b then with_last k (new_log s) ∷ [] else new_log s ∷ new_log k ∷ [])
    (bytes_eq-sym s.process.parts k.process.parts)
front_kept s k (d ∷ []) = joined_is (is_of k d) s k d refl
front_kept s k (d ∷ e ∷ logs) = more_front (is_of s d) s k d e logs

runs_more : (kept : List Kept) (k : Kept) → runs (kept ++ k ∷ []) ≡ with_kept k (runs kept)
runs_more [] k = refl
runs_more (s ∷ kept) k = ap (front s) (runs_more kept k) ∙ front_kept s k (runs kept)

onto_runs : (before after : List Kept) → grouped_onto (runs before) after ≡ runs (before ++ after)
onto_runs before [] = ap runs (sym (append-nil before))
onto_runs before (k ∷ after) =
    ap (λ (logs : List Log). grouped_onto logs after) (sym (runs_more before k))
    ∙ onto_runs (before ++ k ∷ []) after
    ∙ ap runs (append_assoc before (k ∷ []) after)

grouped_runs : (kept : List Kept) → logs_of_kept kept ≡ runs kept
grouped_runs kept = onto_runs [] kept

-- ---- one more in its place

-- the first log is of the process
abbrev IsFirst : Kept → List Log → Type 0
IsFirst s [] = ⊥
IsFirst s (log ∷ logs) = log.process.parts ≡ s.process.parts

is_first : (s : Kept) (logs : List Log) → IsFirst s (front s logs)
is_first s [] = refl
is_first s (d ∷ logs) = by (is_of s d) refl where
  by : (b : Bool) → is_of s d ≡ b → IsFirst s (front_if b s d logs)
  by true is = sym (bytes_eq-true s.process.parts d.process.parts is)
  by false is = refl

eq_is : (k : Kept) (log : Log) → is_of k log ≡ is_eq (name_cmp k log)
eq_is k log = sym (is_eq-slice_cmp k.process.parts log.process.parts)

-- before a first log that isn't before it
put_here : (o : Ordering) (k : Kept) (log : Log) (logs more : List Log) → is_gt o ≡ false
    → put_where o k log logs more ≡ front_if (is_eq o) k log logs
put_here Less k log logs more not_after = refl
put_here Equal k log logs more not_after = refl
put_here Greater k log logs more not_after = cc

put_at_front : (k s : Kept) (logs : List Log) → IsFirst s logs → is_gt (kept_cmp k s) ≡ false
    → front k logs ≡ put_first k logs
put_at_front k s [] first not_after = absurd first
put_at_front k s (log ∷ logs) first not_after =
    let same : kept_cmp k s ≡ name_cmp k log = ap (slice_cmp nat_cmp k.process.parts) (sym first) in
    ap (λ (b : Bool). front_if b k log logs) (eq_is k log)
    ∙ sym (put_here (name_cmp k log) k log logs (put_first k logs) (sym (ap is_gt same) ∙ not_after))

-- what comes before it goes to the front first or afterwards
not_of : (s k : Kept) (log : Log) → kept_cmp k s ≡ Greater → (is_gt (name_cmp k log) ≡ false) → is_of s log ≡ false
not_of s k log after not_after = by (is_of s log) refl where
  by : (b : Bool) → is_of s log ≡ b → b ≡ false
  by false is = refl
  by true is =
      let same : s.process.parts ≡ log.process.parts = bytes_eq-true s.process.parts log.process.parts is in
      let wrong : true ≡ false = ap is_gt (sym after) ∙ ap (λ (l : List ℕ). is_gt (slice_cmp nat_cmp k.process.parts l)) same ∙ not_after in
      wrong

not_new : (s k : Kept) → kept_cmp k s ≡ Greater → is_of s (new_log k) ≡ false
not_new s k after = by (is_of s (new_log k)) refl where
  by : (b : Bool) → is_of s (new_log k) ≡ b → b ≡ false
  by false is = refl
  by true is =
      let same : s.process.parts ≡ k.process.parts = bytes_eq-true s.process.parts k.process.parts is in
      let itself : kept_cmp k s ≡ kept_cmp k k = ap (slice_cmp nat_cmp k.process.parts) same in
      let equal : is_eq (kept_cmp k k) ≡ true = is_eq-slice_cmp k.process.parts k.process.parts ∙ bytes_eq-itself k.process.parts in
      let wrong : false ≡ true = ap is_eq (sym after ∙ itself) ∙ equal in
      sym wrong

-- the first log goes before it
past_new : (s k : Kept) (logs : List Log) → kept_cmp k s ≡ Greater → put_first k (new_log s ∷ logs) ≡ new_log s ∷ put_first k logs
past_new s k logs after = ap (λ (o : Ordering). put_where o k (new_log s) logs (put_first k logs)) after

swap_at : (o : Ordering) (s k : Kept) (d : Log) (logs : List Log) → kept_cmp k s ≡ Greater → name_cmp k d ≡ o
    → front s (put_where o k d logs (put_first k logs)) ≡ put_first k (front s (d ∷ logs))
swap_at Less s k d logs after is =
    let away : is_of s d ≡ false = not_of s k d after (ap is_gt is) in
    ap (λ (b : Bool). front_if b s (new_log k) (d ∷ logs)) (not_new s k after)
    ∙ sym (ap (λ (b : Bool). put_first k (front_if b s d logs)) away
    ∙ past_new s k (d ∷ logs) after
    ∙ ap (λ (o : Ordering). new_log s ∷ put_where o k d logs (put_first k logs)) is)
swap_at Equal s k d logs after is =
    let away : is_of s d ≡ false = not_of s k d after (ap is_gt is) in
    ap (λ (b : Bool). front_if b s (with_first k d) logs) away
    ∙ sym (ap (λ (b : Bool). put_first k (front_if b s d logs)) away
    ∙ past_new s k (d ∷ logs) after
    ∙ ap (λ (o : Ordering). new_log s ∷ put_where o k d logs (put_first k logs)) is)
swap_at Greater s k d logs after is = by (is_of s d) where
  by : (b : Bool) → front_if b s d (put_first k logs) ≡ put_first k (front_if b s d logs)
  by true = sym (ap (λ (o : Ordering). put_where o k (with_first s d) logs (put_first k logs)) is)
  by false =
      sym (past_new s k (d ∷ logs) after
      ∙ ap (λ (o : Ordering). new_log s ∷ put_where o k d logs (put_first k logs)) is)

front_put : (s k : Kept) (logs : List Log) → kept_cmp k s ≡ Greater → front s (put_first k logs) ≡ put_first k (front s logs)
front_put s k [] after =
    ap (λ (b : Bool). front_if b s (new_log k) []) (not_new s k after) ∙ sym (past_new s k [] after)
front_put s k (d ∷ logs) after = swap_at (name_cmp k d) s k d logs after refl

greater_is : (o : Ordering) → is_gt o ≡ true → o ≡ Greater
greater_is Less is = cc
greater_is Equal is = cc
greater_is Greater is = refl

runs_put : (k : Kept) (kept : List Kept) → runs (put_sorted kept_cmp k kept) ≡ put_first k (runs kept)
runs_put k [] = refl
runs_put k (s ∷ kept) = elim (cases_Bool (is_gt (kept_cmp k s))) [
  | inl after ↦
      ap (λ (b : Bool). runs (if b then s ∷ put_sorted kept_cmp k kept else k ∷ s ∷ kept)) after
      ∙ ap (front s) (runs_put k kept)
      ∙ front_put s k (runs kept) (greater_is (kept_cmp k s) after)
  | inr not_after ↦
      ap (λ (b : Bool). runs (if b then s ∷ put_sorted kept_cmp k kept else k ∷ s ∷ kept)) not_after
      ∙ put_at_front k s (front s (runs kept)) (is_first s (runs kept)) not_after
]

runs_sorted : (kept : List Kept) → runs (sorted_by kept_cmp kept) ≡ logs_kept kept
runs_sorted [] = refl
runs_sorted (k ∷ kept) = runs_put k (sorted_by kept_cmp kept) ∙ ap (put_first k) (runs_sorted kept)

pub grouped_sorted : (kept : List Kept) → logs_of_kept (sorted_by kept_cmp kept) ≡ logs_kept kept
grouped_sorted kept = grouped_runs (sorted_by kept_cmp kept) ∙ runs_sorted kept

-- ---- the last log

pub last_kept : (front : List Log) (last : Log) (k : Kept) → with_kept k (front ++ last ∷ []) ≡ front ++ logs_with k last
last_kept [] last k = refl
last_kept (log ∷ []) last k = refl
last_kept (log ∷ next ∷ front) last k = ap (λ (logs : List Log). log ∷ logs) (last_kept (next ∷ front) last k)

-- the first log
pub first_kept : (logs front new : List Log) (first : Log) (k : Kept) → logs ≡ front ++ [] → length logs ≡ 0
    → first ≡ new_log k → new ≡ front ++ first ∷ [] → new ≡ with_kept k logs
first_kept [] front new first k is empty same made =
    made
    ∙ ap (λ (ls : List Log). ls ++ first ∷ []) (sym (append-nil front) ∙ sym is)
    ∙ ap (λ (log : Log). log ∷ []) same
first_kept (log ∷ logs) front new first k is empty same made = absurd (omega (arith, empty))
