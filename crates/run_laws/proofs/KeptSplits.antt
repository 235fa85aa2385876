-- Kept replies divided into those of one process and the rest: its log goes in between the others.
use Rattle.std.proofs.Common.{◌≡◌, ℕ, List, [], ◌∷◌, refl, sym, ap, ◌∙◌, subst, Bool, true, false, inl, inr}
use Rattle.std.specs.Prelude.{bytes_eq, filter, not, if◌then◌else◌}
use Rattle.std.specs.List.{AllByRecursion}
use Rattle.std.specs.Cmp.Lexicographic.{slice_cmp, nat_list_cmp_total}
use Rattle.std.specs.Ordering.{nat_cmp, is_lt, is_eq, ordering_reverse}
use Rattle.std.specs.declared.cmp.Ordering.{Ordering}
use Rattle.std.specs.declared.cmp.Ordering.TheVariants.{Less, Equal, Greater}
use Rattle.std.proofs.lemmas.Bool.{cases_Bool}
use Rattle.std.proofs.lemmas.Map.Text.{is_eq-slice_cmp}
use Rattle.ldv_value.proofs.Orderings.{is_lt-true, is_eq-true}
use Rattle.ldv_value.proofs.SameBytes.{bytes_eq-true, bytes_eq-itself}
use Rattle.run_laws.specs.Types.{Entry, Log}
use Rattle.run_laws.specs.declared.kept.Kept.{Kept}
use Rattle.run_laws.specs.KeptReplies.{name_cmp, new_log, with_first, put_where, put_first, logs_kept}

-- ---- names

abbrev pub cmp : List ℕ → List ℕ → Ordering
cmp a b = slice_cmp nat_cmp a b

cmp_itself : (a : List ℕ) → cmp a a ≡ Equal
cmp_itself a = is_eq-true (cmp a a) (is_eq-slice_cmp a a ∙ bytes_eq-itself a)

cmp_apart : (a b : List ℕ) → bytes_eq a b ≡ false → cmp a b ≡ Equal → ⊥
cmp_apart a b apart same = let wrong : true ≡ false = ap is_eq (sym same) ∙ is_eq-slice_cmp a b ∙ apart in absurd cc

not_less_apart : (a b : List ℕ) → bytes_eq a b ≡ false → is_lt (cmp a b) ≡ false → cmp a b ≡ Greater
not_less_apart a b apart not_less = by (cmp a b) refl where
  by : (o : Ordering) → cmp a b ≡ o → cmp a b ≡ Greater
  by Less is = let wrong : true ≡ false = ap is_lt (sym is) ∙ not_less in cc
  by Equal is = absurd (cmp_apart a b apart is)
  by Greater is = is

turned : (a b : List ℕ) → cmp b a ≡ ordering_reverse (cmp a b)
turned a b = nat_list_cmp_total.antisymm b a

less_turned : (a b : List ℕ) → cmp a b ≡ Greater → is_lt (cmp b a) ≡ true
less_turned a b is = ap is_lt (turned a b ∙ ap ordering_reverse is)

not_turned : (a b : List ℕ) → cmp a b ≡ Less → is_lt (cmp b a) ≡ false
not_turned a b is = ap is_lt (turned a b ∙ ap ordering_reverse is)

-- ---- what was kept of a process, and the rest

abbrev pub is_by : List ℕ → Kept → Bool
is_by name k = bytes_eq name k.process.parts

abbrev pub entries_kept : List ℕ → List Kept → List Entry
entries_kept name [] = []
entries_kept name (k ∷ kept) = if is_by name k then k.entry ∷ entries_kept name kept else entries_kept name kept

abbrev pub others : List ℕ → List Kept → List Kept
others name kept = filter (λ k. not (is_by name k)) kept

-- ---- a log among others

abbrev pub log_under : List ℕ → List Entry → Log
log_under name entries = record { process = record { parts = name }; entries = entries }

abbrev pub insert_log : Log → List Log → List Log
insert_log x [] = x ∷ []
insert_log x (log ∷ logs) =
    if is_lt (cmp x.process.parts log.process.parts) then x ∷ log ∷ logs else log ∷ insert_log x logs

-- none where it has no entry
abbrev pub with_log : List ℕ → List Entry → List Log → List Log
with_log name [] logs = logs
with_log name (e ∷ es) logs = insert_log (log_under name (e ∷ es)) logs

abbrev HasNo : List ℕ → List Log → Type 0
HasNo name logs = AllByRecursion (λ (log : Log). bytes_eq name log.process.parts ≡ false) logs

abbrev insert_if : Bool → Log → Log → List Log → List Log → List Log
insert_if b x log logs more = if b then x ∷ log ∷ logs else log ∷ more

-- ---- an entry of that process

put_at : (o : Ordering) (k : Kept) (log : Log) (logs more : List Log) → name_cmp k log ≡ o
    → put_where (name_cmp k log) k log logs more ≡ put_where o k log logs more
put_at o k log logs more is = ap (λ (p : Ordering). put_where p k log logs more) is

put_self : (k : Kept) (es : List Entry) (logs : List Log)
    → put_first k (log_under k.process.parts es ∷ logs) ≡ log_under k.process.parts (k.entry ∷ es) ∷ logs
put_self k es logs =
    put_at Equal k (log_under k.process.parts es) logs (put_first k logs) (cmp_itself k.process.parts)

put_old : (k : Kept) (es : List Entry) (logs : List Log) → HasNo k.process.parts logs
    → put_first k (insert_log (log_under k.process.parts es) logs) ≡ insert_log (log_under k.process.parts (k.entry ∷ es)) logs
put_old k es [] none = put_self k es []
put_old k es (log ∷ logs) none =
    let old : Log = log_under k.process.parts es in
    let new : Log = log_under k.process.parts (k.entry ∷ es) in
    elim (cases_Bool (is_lt (name_cmp k log))) [
      | inl less ↦
          ap (λ (b : Bool). put_first k (insert_if b old log logs (insert_log old logs))) less
          ∙ put_self k es (log ∷ logs)
          ∙ sym (ap (λ (b : Bool). insert_if b new log logs (insert_log new logs)) less)
      | inr not_less ↦
          ap (λ (b : Bool). put_first k (insert_if b old log logs (insert_log old logs))) not_less
          ∙ put_at Greater k log (insert_log old logs) (put_first k (insert_log old logs)) (not_less_apart k.process.parts log.process.parts none.0 not_less)
          ∙ ap (λ (ls : List Log). log ∷ ls) (put_old k es logs none.1)
          ∙ sym (ap (λ (b : Bool). insert_if b new log logs (insert_log new logs)) not_less)
    ]

put_new : (k : Kept) (logs : List Log) → HasNo k.process.parts logs
    → put_first k logs ≡ insert_log (log_under k.process.parts (k.entry ∷ [])) logs
put_new k [] none = refl
put_new k (log ∷ logs) none =
    let new : Log = log_under k.process.parts (k.entry ∷ []) in
    elim (cases_Bool (is_lt (name_cmp k log))) [
      | inl less ↦
          put_at Less k log logs (put_first k logs) (is_lt-true (name_cmp k log) less)
          ∙ sym (ap (λ (b : Bool). insert_if b new log logs (insert_log new logs)) less)
      | inr not_less ↦
          put_at Greater k log logs (put_first k logs) (not_less_apart k.process.parts log.process.parts none.0 not_less)
          ∙ ap (λ (ls : List Log). log ∷ ls) (put_new k logs none.1)
          ∙ sym (ap (λ (b : Bool). insert_if b new log logs (insert_log new logs)) not_less)
    ]

put_same : (k : Kept) (es : List Entry) (logs : List Log) → HasNo k.process.parts logs
    → put_first k (with_log k.process.parts es logs) ≡ with_log k.process.parts (k.entry ∷ es) logs
put_same k [] logs none = put_new k logs none
put_same k (e ∷ es) logs none = put_old k (e ∷ es) logs none

-- ---- an entry of another process

-- where the log comes before
swap_before : (o p : Ordering) (k : Kept) (x log : Log) (logs : List Log) → bytes_eq k.process.parts x.process.parts ≡ false
    → cmp x.process.parts log.process.parts ≡ Less
    → name_cmp k x ≡ o → name_cmp k log ≡ p
    → put_where o k x (log ∷ logs) (put_where p k log logs (put_first k logs))
    ≡ insert_log x (put_where p k log logs (put_first k logs))
swap_before Less Less k x log logs apart before kx kl =
    sym (ap (λ (b : Bool). insert_if b x (new_log k) (log ∷ logs) (insert_log x (log ∷ logs))) (not_turned k.process.parts x.process.parts kx)
    ∙ ap (λ (b : Bool). new_log k ∷ insert_if b x log logs (insert_log x logs)) (ap is_lt before))
swap_before Less Equal k x log logs apart before kx kl =
    let less : cmp k.process.parts log.process.parts ≡ Less = nat_list_cmp_total.trans k.process.parts x.process.parts log.process.parts kx before in
    let wrong : Less ≡ Equal = sym less ∙ kl in
    absurd cc
swap_before Less Greater k x log logs apart before kx kl =
    let less : cmp k.process.parts log.process.parts ≡ Less = nat_list_cmp_total.trans k.process.parts x.process.parts log.process.parts kx before in
    let wrong : Less ≡ Greater = sym less ∙ kl in
    absurd cc
swap_before Equal p k x log logs apart before kx kl = absurd (cmp_apart k.process.parts x.process.parts apart kx)
swap_before Greater Less k x log logs apart before kx kl =
    sym (ap (λ (b : Bool). insert_if b x (new_log k) (log ∷ logs) (insert_log x (log ∷ logs))) (less_turned k.process.parts x.process.parts kx))
swap_before Greater Equal k x log logs apart before kx kl =
    sym (ap (λ (b : Bool). insert_if b x (with_first k log) logs (insert_log x logs)) (ap is_lt before))
swap_before Greater Greater k x log logs apart before kx kl =
    sym (ap (λ (b : Bool). insert_if b x log (put_first k logs) (insert_log x (put_first k logs))) (ap is_lt before))

-- where it doesn't
swap_after : (p : Ordering) (k : Kept) (x log : Log) (logs : List Log) → bytes_eq k.process.parts x.process.parts ≡ false
    → is_lt (cmp x.process.parts log.process.parts) ≡ false → name_cmp k log ≡ p
    → put_first k (insert_log x logs) ≡ insert_log x (put_first k logs)
    → put_where p k log (insert_log x logs) (put_first k (insert_log x logs))
    ≡ insert_log x (put_where p k log logs (put_first k logs))
swap_after Less k x log logs apart not_before kl rest =
    sym (ap (λ (b : Bool). insert_if b x (new_log k) (log ∷ logs) (insert_log x (log ∷ logs))) (later (is_lt (cmp x.process.parts k.process.parts)) refl)
    ∙ ap (λ (b : Bool). new_log k ∷ insert_if b x log logs (insert_log x logs)) not_before) where
      later : (b : Bool) → is_lt (cmp x.process.parts k.process.parts) ≡ b → is_lt (cmp x.process.parts k.process.parts) ≡ false
      later false is = is
      later true is =
          let less : cmp x.process.parts log.process.parts ≡ Less = nat_list_cmp_total.trans x.process.parts k.process.parts log.process.parts (is_lt-true _ is) kl in
          let wrong : true ≡ false = sym (ap is_lt less) ∙ not_before in
          absurd cc
swap_after Equal k x log logs apart not_before kl rest =
    sym (ap (λ (b : Bool). insert_if b x (with_first k log) logs (insert_log x logs)) not_before)
swap_after Greater k x log logs apart not_before kl rest =
    ap (λ (ls : List Log). log ∷ ls) rest
    ∙ sym (ap (λ (b : Bool). insert_if b x log (put_first k logs) (insert_log x (put_first k logs))) not_before)

alone : (o : Ordering) (k : Kept) (x : Log) → bytes_eq k.process.parts x.process.parts ≡ false → name_cmp k x ≡ o
    → put_where o k x [] (new_log k ∷ []) ≡ insert_log x (new_log k ∷ [])
alone Less k x apart kx =
    sym (ap (λ (b : Bool). insert_if b x (new_log k) [] (x ∷ [])) (not_turned k.process.parts x.process.parts kx))
alone Equal k x apart kx = absurd (cmp_apart k.process.parts x.process.parts apart kx)
alone Greater k x apart kx =
    sym (ap (λ (b : Bool). insert_if b x (new_log k) [] (x ∷ [])) (less_turned k.process.parts x.process.parts kx))

put_insert : (k : Kept) (x : Log) (logs : List Log) → bytes_eq k.process.parts x.process.parts ≡ false
    → put_first k (insert_log x logs) ≡ insert_log x (put_first k logs)
put_insert k x [] apart = alone (name_cmp k x) k x apart refl
put_insert k x (log ∷ logs) apart = elim (cases_Bool (is_lt (cmp x.process.parts log.process.parts))) [
  | inl before ↦
      ap (λ (b : Bool). put_first k (insert_if b x log logs (insert_log x logs))) before
      ∙ swap_before (name_cmp k x) (name_cmp k log) k x log logs apart (is_lt-true _ before) refl refl
  | inr not_before ↦
      ap (λ (b : Bool). put_first k (insert_if b x log logs (insert_log x logs))) not_before
      ∙ swap_after (name_cmp k log) k x log logs apart not_before refl (put_insert k x logs apart)
]

put_other : (k : Kept) (name : List ℕ) (es : List Entry) (logs : List Log) → bytes_eq k.process.parts name ≡ false
    → put_first k (with_log name es logs) ≡ with_log name es (put_first k logs)
put_other k name [] logs apart = refl
put_other k name (e ∷ es) logs apart = put_insert k (log_under name (e ∷ es)) logs apart

-- ---- the rest has no log of the process

put_has_no : (o : Ordering) (name : List ℕ) (k : Kept) (log : Log) (logs more : List Log) → is_by name k ≡ false
    → HasNo name (log ∷ logs) → HasNo name more
    → HasNo name (put_where o k log logs more)
put_has_no Less name k log logs more apart none later = (apart, none)
put_has_no Equal name k log logs more apart none later = none
put_has_no Greater name k log logs more apart none later = (none.0, later)

first_has_no : (name : List ℕ) (k : Kept) (logs : List Log) → is_by name k ≡ false → HasNo name logs → HasNo name (put_first k logs)
first_has_no name k [] apart none = (apart, tt)
first_has_no name k (log ∷ logs) apart none =
    put_has_no (name_cmp k log) name k log logs (put_first k logs) apart none (first_has_no name k logs apart none.1)

others_have_no : (name : List ℕ) (kept : List Kept) → HasNo name (logs_kept (others name kept))
others_have_no name [] = tt
others_have_no name (k ∷ kept) = elim (cases_Bool (is_by name k)) [
  | inl same ↦ rw same (others_have_no name kept)
  | inr apart ↦ rw apart (first_has_no name k (logs_kept (others name kept)) apart (others_have_no name kept))
]

-- ---- all of it

abbrev IsSplit : List ℕ → List Kept → Type 0
IsSplit name kept = logs_kept kept ≡ with_log name (entries_kept name kept) (logs_kept (others name kept))

other_way : (a b : List ℕ) → bytes_eq a b ≡ false → bytes_eq b a ≡ false
other_way a b apart = by (bytes_eq b a) refl where
  by : (c : Bool) → bytes_eq b a ≡ c → bytes_eq b a ≡ false
  by false is = is
  by true is =
      let same : b ≡ a = bytes_eq-true b a is in
      let wrong : true ≡ false = sym (bytes_eq-itself a) ∙ ap (λ (l : List ℕ). bytes_eq a l) (sym same) ∙ apart in
      absurd cc

split_same : (name : List ℕ) (k : Kept) (kept : List Kept) → name ≡ k.process.parts → IsSplit name kept
    → put_first k (logs_kept kept) ≡ with_log name (k.entry ∷ entries_kept name kept) (logs_kept (others name kept))
split_same name k kept same rest =
    ap (put_first k) rest
    ∙ subst
    (λ (n : List ℕ). put_first k (with_log n (entries_kept name kept) (logs_kept (others name kept))) ≡ with_log n (k.entry ∷ entries_kept name kept) (logs_kept (others name kept)))
    (sym same)
    (put_same k (entries_kept name kept) (logs_kept (others name kept))
    (subst (λ (n : List ℕ). HasNo n (logs_kept (others name kept))) same (others_have_no name kept)))

pub kept_split : (name : List ℕ) (kept : List Kept) → IsSplit name kept
kept_split name [] = refl
kept_split name (k ∷ kept) = elim (cases_Bool (is_by name k)) [
  | inl same ↦
      split_same name k kept (bytes_eq-true name k.process.parts same) (kept_split name kept)
      ∙ sym (ap (λ (b : Bool). with_log name (if b then k.entry ∷ entries_kept name kept else entries_kept name kept) (logs_kept (if not b then k ∷ others name kept else others name kept))) same)
  | inr apart ↦
      ap (put_first k) (kept_split name kept)
      ∙ put_other k name (entries_kept name kept) (logs_kept (others name kept)) (other_way name k.process.parts apart)
      ∙ sym (ap (λ (b : Bool). with_log name (if b then k.entry ∷ entries_kept name kept else entries_kept name kept) (logs_kept (if not b then k ∷ others name kept else others name kept))) apart)
]
