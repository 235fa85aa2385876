-- Writes one after another, as one.
use Rattle.std.proofs.Common.{◌≡◌, ℕ, ◌+◌, ◌<◌, ◌≤◌, List, ◌++◌, length, take, drop, get_or, [], sym, ap, subst, ◌∙◌, arith, length-append}
use Rattle.std.specs.List.{flat_map}
use Rattle.std.specs.Prelude.{Option, Result, Ok, Err, ⊤, OnOk, OnErr}
use Rattle.std.specs.Io.KnownBytes.{Appends}
use Rattle.std.proofs.KnownBytes.{Appends-trans}
use Rattle.std.proofs.lemmas.Grind.{flat_map-append}
use Rattle.std.proofs.lemmas.List.{take-append-drop, take-append-le, take_more, flat_map_more}
use Rattle.std.proofs.Math.Seq.{take-append-add}
use Rattle.ldv_io.specs.declared.whole.WriteStop.{WriteStop}
use Rattle.ldv_io.specs.Causes.{Rose}
use Rattle.ldv_top.specs.Written.{AppendsPart, Wrote, Writes}

pub wrote_all : (old new : Option (List ℕ)) (bytes : List ℕ) (r : Result ⊤ WriteStop) → OnOk r (Appends old new bytes) → OnErr r (AppendsPart old new bytes) → Wrote old new bytes r
wrote_all old new bytes (Ok done) whole part = whole
wrote_all old new bytes (Err stop) whole part = part

-- a proper prefix of the first is one of both
pub wrote_first : (old new : Option (List ℕ)) (a b : List ℕ) → AppendsPart old new a → AppendsPart old new (a ++ b)
wrote_first old new a b (n, short, part) =
    (n, omega (arith, length-append a b), subst (Appends old new) (sym (take-append-le n a b (omega arith))) part)

failed_then : (old mid new : Option (List ℕ)) (a b : List ℕ) → Appends old mid a → AppendsPart mid new b → AppendsPart old new (a ++ b)
failed_then old mid new a b first (n, short, part) =
    (length a + n, omega (arith, length-append a b), subst (Appends old new) (sym (take-append-add a b n)) (Appends-trans _ _ _ _ _ first part))

pub wrote_then : (old mid new : Option (List ℕ)) (a b : List ℕ) (r : Result ⊤ WriteStop) → Appends old mid a → Wrote mid new b r → Wrote old new (a ++ b) r
wrote_then old mid new a b (Ok done) first second = Appends-trans _ _ _ _ _ first second
wrote_then old mid new a b (Err stop) first second = failed_then old mid new a b first second

pub fault_then : (before mid now : ℕ) (r : Result ⊤ WriteStop) → before ≤ mid → OnErr r (Rose mid now) → OnErr r (Rose before now)
fault_then before mid now (Ok done) le fault = tt
fault_then before mid now (Err stop) le fault = omega (arith, fault)

pub ruleset write_steps = (wrote_first, wrote_then, fault_then)

-- ---- calls, one after another

pub writes_then : {Writer : Type 0} {taken : Writer → Option (List ℕ)} {faults : Writer → ℕ} {old mid new : Writer} {a b : List ℕ} {done : ⊤} {r : Result ⊤ WriteStop}
    → Writes taken faults old mid a (Ok done) → Writes taken faults mid new b r → Writes taken faults old new (a ++ b) r
writes_then {taken = taken} {faults = faults} {old = old} {mid = mid} {new = new} {a = a} {b = b} {r = r} first second = record {
  written = wrote_then (taken old) (taken mid) (taken new) a b r first.written second.written;
  later = omega (arith, first.later, second.later);
  fault = fault_then (faults old) (faults mid) (faults new) r first.later second.fault;
}

-- the first of two failed
pub writes_stopped : {Writer : Type 0} {taken : Writer → Option (List ℕ)} {faults : Writer → ℕ} {old new : Writer} {a : List ℕ} (b : List ℕ) {stop : WriteStop}
    → Writes taken faults old new a (Err stop) → Writes taken faults old new (a ++ b) (Err stop)
writes_stopped {taken = taken} {old = old} {new = new} {a = a} b first = record { written = wrote_first (taken old) (taken new) a b first.written; later = first.later; fault = first.fault }

-- the same bytes, said in other words
pub writes_same : {Writer : Type 0} {taken : Writer → Option (List ℕ)} {faults : Writer → ℕ} {old new : Writer} {a b : List ℕ} {r : Result ⊤ WriteStop}
    → a ≡ b → Writes taken faults old new a r → Writes taken faults old new b r
writes_same {taken = taken} {faults = faults} {old = old} {new = new} {r = r} same first = subst (λ (bytes : List ℕ). Writes taken faults old new bytes r) same first

-- ---- pieces, one after another

-- one more of them
pub writes_more : {X Writer : Type 0} {taken : Writer → Option (List ℕ)} {faults : Writer → ℕ} {old mid new : Writer} {done : ⊤} {r : Result ⊤ WriteStop} (f : X → List ℕ) (xs : List X) (i : ℕ) (d : X) → i < length xs
    → Writes taken faults old mid (flat_map f (take i xs)) (Ok done) → Writes taken faults mid new (f (get_or xs i d)) r → Writes taken faults old new (flat_map f (take (i + 1) xs)) r
writes_more f xs i d within before one =
    writes_same (flat_map_more f [] (take i xs) (get_or xs i d) ∙ ap (flat_map f) (sym (take_more xs i d within))) (writes_then before one)

-- one of them failed, after all before it
pub writes_some : {X Writer : Type 0} {taken : Writer → Option (List ℕ)} {faults : Writer → ℕ} {old mid new : Writer} {done : ⊤} {stop : WriteStop} (f : X → List ℕ) (xs : List X) (i : ℕ) (d : X) → i < length xs
    → Writes taken faults old mid (flat_map f (take i xs)) (Ok done) → Writes taken faults mid new (f (get_or xs i d)) (Err stop) → Writes taken faults old new (flat_map f xs) (Err stop)
writes_some f xs i d within before one =
    writes_same (sym (flat_map-append f (take (i + 1) xs) (drop (i + 1) xs)) ∙ ap (flat_map f) (take-append-drop (i + 1) xs)) (writes_stopped _ (writes_more f xs i d within before one))
