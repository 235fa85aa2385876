-- The logs of what was kept are those of the processes, in the order of their names.
use Rattle.std.proofs.Common.{◌≡◌, ◌≢◌, ◌⊎◌, ℕ, List, [], ◌∷◌, length, map, refl, sym, ap, ◌∙◌, Bool, true, false, inl, inr, arith}
use Rattle.std.specs.Prelude.{bytes_eq, filter, not, ◌==◌, if◌then◌else◌}
use Rattle.std.specs.List.{AllByRecursion}
use Rattle.std.specs.Cmp.Lexicographic.{nat_list_cmp_total}
use Rattle.std.specs.Ordering.{is_lt, ordering_reverse}
use Rattle.std.specs.declared.cmp.Ordering.{Ordering}
use Rattle.std.specs.declared.cmp.Ordering.TheVariants.{Less, Equal, Greater}
use Rattle.std.proofs.lemmas.Bool.{cases_Bool, ne_eqb}
use Rattle.std.proofs.lemmas.Map.Text.{is_eq-slice_cmp}
use Rattle.std.specs.Ordering.{is_eq}
use Rattle.ldv_value.proofs.Orderings.{is_lt-true}
use Rattle.ldv_value.proofs.SameBytes.{bytes_eq-true, bytes_eq-itself, bytes_eq-other}
use Rattle.run_laws.specs.Types.{Entry, Log}
use Rattle.run_laws.specs.declared.kept.Kept.{Kept}
use Rattle.run_laws.specs.KeptReplies.{logs_kept}
use Rattle.run_model.specs.Core.{Process}
use Rattle.run_model.specs.Outcome.{insert_by_name, by_name}
use Rattle.run_model.specs.WorldRun.{has_asked, log_of}
use Rattle.run_laws.proofs.KeptSplits.{cmp, is_by, entries_kept, others, log_under, insert_log, with_log, kept_split}
use Rattle.run_laws.proofs.ProcessNames.{names, Distinct}

-- ---- the order of names

abbrev goes_first : Process → Process → Bool
goes_first p q = is_lt (cmp p.name q.name)

first_trans : (p q r : Process) → goes_first p q ≡ true → goes_first q r ≡ true → goes_first p r ≡ true
first_trans p q r one two = ap is_lt (nat_list_cmp_total.trans p.name q.name r.name (is_lt-true _ one) (is_lt-true _ two))

not_both : (p q : Process) → goes_first p q ≡ true → goes_first q p ≡ false
not_both p q first = ap is_lt (nat_list_cmp_total.antisymm q.name p.name ∙ ap ordering_reverse (is_lt-true _ first))

-- what doesn't go before one that is after another is after that other too
first_on : (p q r : Process) → goes_first p q ≡ true → goes_first r q ≡ false → goes_first p r ≡ true
first_on p q r first not_before = by (cmp q.name r.name) refl where
  by : (o : Ordering) → cmp q.name r.name ≡ o → goes_first p r ≡ true
  by Less is = first_trans p q r first (ap is_lt is)
  by Equal is =
      let same : q.name ≡ r.name = bytes_eq-true q.name r.name (sym (is_eq-slice_cmp q.name r.name) ∙ ap is_eq is) in
      ap (λ (n : List ℕ). is_lt (cmp p.name n)) (sym same) ∙ first
  by Greater is =
      let wrong : true ≡ false = sym (ap is_lt (nat_list_cmp_total.antisymm r.name q.name ∙ ap ordering_reverse is)) ∙ not_before in
      absurd cc

-- none of them goes before it
abbrev FromOn : Process → List Process → Type 0
FromOn p qs = AllByRecursion (λ (q : Process). goes_first q p ≡ false) qs

abbrev Rises : List Process → Type 0
Rises [] = Unit {0}
Rises (q ∷ qs) = FromOn q qs × Rises qs

all_first : (p q : Process) (qs : List Process) → goes_first p q ≡ true → FromOn q qs
    → AllByRecursion (λ (r : Process). goes_first p r ≡ true) qs
all_first p q [] first from = tt
all_first p q (r ∷ qs) first from = (first_on p q r first from.0, all_first p q qs first from.1)

from_first : (p : Process) (qs : List Process) → AllByRecursion (λ (r : Process). goes_first p r ≡ true) qs → FromOn p qs
from_first p [] all = tt
from_first p (r ∷ qs) all = (not_both p r all.0, from_first p qs all.1)

insert_from : (q p : Process) (qs : List Process) → goes_first p q ≡ false → FromOn q qs → FromOn q (insert_by_name p qs)
insert_from q p [] not_before from = (not_before, tt)
insert_from q p (r ∷ qs) not_before from = elim (cases_Bool (goes_first p r)) [
  | inl first ↦ rw first (not_before, from)
  | inr after ↦ rw after (from.0, insert_from q p qs not_before from.1)
]

insert_rises : (p : Process) (qs : List Process) → Rises qs → Rises (insert_by_name p qs)
insert_rises p [] rises = (tt, tt)
insert_rises p (q ∷ qs) rises = elim (cases_Bool (goes_first p q)) [
  | inl first ↦ rw first ((not_both p q first, from_first p qs (all_first p q qs first rises.0)), rises)
  | inr after ↦ rw after (insert_from q p qs after rises.0, insert_rises p qs rises.1)
]

by_name_rises : (ps : List Process) → Rises (by_name ps)
by_name_rises [] = tt
by_name_rises (p ∷ ps) = insert_rises p (by_name ps) (by_name_rises ps)

-- ---- the logs of processes, of which one is put among others

abbrev logs_among : List Process → List Log
logs_among ps = map log_of (filter has_asked ps)

has_none : (p : Process) → p.entries ≡ [] → has_asked p ≡ false
has_none p none = ap (λ (es : List Entry). not (length es == 0)) none

some_entries : (e : Entry) (es : List Entry) → not (length (e ∷ es) == 0) ≡ true
some_entries e es = ap not (ne_eqb (length (e ∷ es)) 0 (λ same. absurd (omega (arith, same))))

has_some : (p : Process) (e : Entry) (es : List Entry) → p.entries ≡ e ∷ es → has_asked p ≡ true
has_some p e es some = ap (λ (l : List Entry). not (length l == 0)) some ∙ some_entries e es

-- one that asked nothing
insert_idle : (p : Process) (qs : List Process) → has_asked p ≡ false → logs_among (insert_by_name p qs) ≡ logs_among qs
insert_idle p [] idle = rw idle refl
insert_idle p (q ∷ qs) idle = elim (cases_Bool (goes_first p q)) [
  | inl first ↦ rw (first, idle) refl
  | inr after ↦ elim (cases_Bool (has_asked q)) [
    | inl asked ↦ rw (after, asked) (ap (λ (ls : List Log). log_of q ∷ ls) (insert_idle p qs idle))
    | inr not_asked ↦ rw (after, not_asked) (insert_idle p qs idle)
  ]
]

-- before all of them
insert_front : (p : Process) (qs : List Process) → AllByRecursion (λ (r : Process). goes_first p r ≡ true) qs
    → insert_log (log_of p) (logs_among qs) ≡ log_of p ∷ logs_among qs
insert_front p [] all = refl
insert_front p (r ∷ qs) all = elim (cases_Bool (has_asked r)) [
  | inl asked ↦ rw (asked, all.0) refl
  | inr idle ↦ rw idle (insert_front p qs all.1)
]

-- one that asked
insert_asked : (p : Process) (qs : List Process) → Rises qs → has_asked p ≡ true
    → logs_among (insert_by_name p qs) ≡ insert_log (log_of p) (logs_among qs)
insert_asked p [] rises asks = rw asks refl
insert_asked p (q ∷ qs) rises asks = elim (cases_Bool (goes_first p q)) [
  | inl first ↦
      let front : insert_log (log_of p) (logs_among (q ∷ qs)) ≡ log_of p ∷ logs_among (q ∷ qs) =
      insert_front p (q ∷ qs) (first, all_first p q qs first rises.0) in
      ap (λ (b : Bool). logs_among (if b then p ∷ q ∷ qs else q ∷ insert_by_name p qs)) first
      ∙ ap (λ (b : Bool). map log_of (if b then p ∷ filter has_asked (q ∷ qs) else filter has_asked (q ∷ qs))) asks
      ∙ sym front
  | inr after ↦ elim (cases_Bool (has_asked q)) [
    | inl asked ↦ rw (after, asked, after) (ap (λ (ls : List Log). log_of q ∷ ls) (insert_asked p qs rises.1 asks))
    | inr idle ↦ rw (after, idle) (insert_asked p qs rises.1 asks)
  ]
]

placed_by : (p : Process) (qs : List Process) → Rises qs → (es : List Entry) → p.entries ≡ es
    → logs_among (insert_by_name p qs) ≡ with_log p.name es (logs_among qs)
placed_by p qs rises [] none = insert_idle p qs (has_none p none)
placed_by p qs rises (e ∷ es) some =
    insert_asked p qs rises (has_some p e es some)
    ∙ ap (λ (entries : List Entry). insert_log (log_under p.name entries) (logs_among qs)) some

-- ---- what was kept of other processes

entries_others : (name other : List ℕ) (kept : List Kept) → other ≢ name → entries_kept name (others other kept) ≡ entries_kept name kept
entries_others name other [] apart = refl
entries_others name other (k ∷ kept) apart = elim (cases_Bool (is_by other k)) [
  | inl same ↦
      let here : other ≡ k.process.parts = bytes_eq-true other k.process.parts same in
      let away : is_by name k ≡ false = bytes_eq-other name k.process.parts (λ is. apart (here ∙ sym is)) in
      rw (same, away) (entries_others name other kept apart)
  | inr stays ↦ elim (cases_Bool (is_by name k)) [
    | inl same ↦ rw (stays, same) (ap (λ (es : List Entry). k.entry ∷ es) (entries_others name other kept apart))
    | inr away ↦ rw (stays, away) (entries_others name other kept apart)
  ]
]

abbrev pub AskedKept : List Kept → Process → Type 0
AskedKept kept p = p.entries ≡ entries_kept p.name kept

each_others : (other : List ℕ) (kept : List Kept) (ps : List Process) → AllByRecursion (λ (n : List ℕ). other ≢ n) (names ps)
    → AllByRecursion (AskedKept kept) ps → AllByRecursion (AskedKept (others other kept)) ps
each_others other kept [] apart each = tt
each_others other kept (p ∷ ps) apart each =
    (each.0 ∙ sym (entries_others p.name other kept apart.0), each_others other kept ps apart.1 each.1)

-- one of the processes asked it
abbrev pub IsNamed : List Process → Kept → Type 0
IsNamed [] k = ⊥
IsNamed (p ∷ ps) k = (k.process.parts ≡ p.name) ⊎ IsNamed ps k

named_else : (p : Process) (ps : List Process) (k : Kept) → is_by p.name k ≡ false → IsNamed (p ∷ ps) k → IsNamed ps k
named_else p ps k apart (inl same) =
    let wrong : true ≡ false = sym (bytes_eq-itself p.name) ∙ ap (λ (n : List ℕ). bytes_eq p.name n) (sym same) ∙ apart in
    absurd cc
named_else p ps k apart (inr later) = later

named_others : (p : Process) (ps : List Process) (kept : List Kept) → AllByRecursion (IsNamed (p ∷ ps)) kept
    → AllByRecursion (IsNamed ps) (others p.name kept)
named_others p ps [] named = tt
named_others p ps (k ∷ kept) named = elim (cases_Bool (is_by p.name k)) [
  | inl same ↦ rw same (named_others p ps kept named.1)
  | inr apart ↦ rw apart (named_else p ps k apart named.0, named_others p ps kept named.1)
]

-- ---- the logs

pub logs_same : (ps : List Process) (kept : List Kept) → Distinct (names ps) → AllByRecursion (AskedKept kept) ps
    → AllByRecursion (IsNamed ps) kept → logs_kept kept ≡ logs_among (by_name ps)
logs_same [] [] distinct each named = refl
logs_same [] (k ∷ kept) distinct each named = absurd named.0
logs_same (p ∷ ps) kept distinct each named =
    kept_split p.name kept
    ∙ ap (with_log p.name (entries_kept p.name kept))
    (logs_same ps (others p.name kept) distinct.1 (each_others p.name kept ps distinct.0 each.1) (named_others p ps kept named))
    ∙ sym (placed_by p (by_name ps) (by_name_rises ps) (entries_kept p.name kept) each.0)
