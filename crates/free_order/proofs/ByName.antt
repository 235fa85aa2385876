-- The state of a run, with its processes by name.
use Rattle.std.proofs.Common.{◌≡◌, ◌≢◌, ℕ, zero, suc, ◌+◌, ◌<◌, List, [], ◌∷◌, ◌++◌, length, refl, sym, ap, ◌∙◌, subst, Bool, true, false, arith, inl, inr}
use Rattle.std.specs.Prelude.{Option, Some, None, is_some, map, find, filter, not, option_map, unwrap_or, bytes_eq, slice_get, slice_set, if◌then◌else◌}
use Rattle.std.specs.List.{AllByRecursion}
use Rattle.std.proofs.lemmas.Bool.{cases_Bool}
use Rattle.std.proofs.lemmas.List.{length-map, map-append}
use Rattle.ldv_value.specs.FileState.{FileState, content_at, put_file, remove_file}
use Rattle.ldv_value.proofs.FileLists.{content-put, content-remove}
use Rattle.ldv_value.proofs.SameBytes.{bytes_eq-true, bytes_eq-itself, bytes_eq-other}
use Rattle.run_model.specs.Core.{NameBinding, is_bound, lookup, bind, unbind, Process, Core}
use Rattle.run_model.specs.LogDatabase.{LogDatabase, entries_left}
use Rattle.run_model.specs.State.{State}
use Rattle.run_laws.proofs.ProcessNames.{name_of, names, names_set, at_name, Distinct}
use Rattle.free_order.proofs.Boards.{Solo, Board, Change, Still, Sets, touching, changed}

-- ---- processes under their names

abbrev pub named : List ℕ → List Process → Option Process
named name ps = find (λ p. bytes_eq name p.name) ps

-- the name of a creation number
abbrev pub at_number : List (List ℕ) → ℕ → List ℕ
at_number ns k = unwrap_or (slice_get ns k) []

abbrev pub kid_of : List (List ℕ) → NameBinding ℕ → NameBinding (List ℕ)
kid_of ns b = record { name = b.name; bound = at_number ns b.bound }

abbrev pub kids_of : List (List ℕ) → List (NameBinding ℕ) → List (NameBinding (List ℕ))
kids_of ns bs = map (kid_of ns) bs

-- with other children
abbrev pub dress : List (NameBinding ℕ) → Process → Process
dress children p = record p { children = children }

abbrev pub bare : Process → Process
bare p = dress [] p

abbrev pub solo_of : List (List ℕ) → Process → Solo
solo_of ns p = record { own = bare p; kids = kids_of ns p.children }

abbrev pub solos : List Process → List ℕ → Option Solo
solos ps name = option_map (solo_of (names ps)) (named name ps)

abbrev pub board_of : State LogDatabase → Board
board_of s = record {
  solo = solos s.core.processes;
  bytes = content_at s.core.files;
  touched = s.core.files.touched;
  left = λ name. entries_left name s.db;
  made = length s.core.processes;
  stopped = is_some s.core.diverged;
}

-- ---- files

abbrev pub files_after : Change → FileState → FileState
files_after Still s = s
files_after (Sets at (Some bytes) touches) s =
    record { files = put_file at bytes s.files; touched = touching (Sets at (Some bytes) touches) s.touched }
files_after (Sets at None touches) s =
    record { files = remove_file at s.files; touched = touching (Sets at None touches) s.touched }

pub bytes_after : (d : Change) (s : FileState) (path : List ℕ) → content_at (files_after d s) path ≡ changed d (content_at s) path
bytes_after Still s path = refl
bytes_after (Sets at (Some bytes) touches) s path = content-put at bytes s.files path
bytes_after (Sets at None touches) s path = content-remove at s.files path

pub touched_after : (d : Change) (s : FileState) → (files_after d s).touched ≡ touching d s.touched
touched_after Still s = refl
touched_after (Sets at (Some bytes) touches) s = refl
touched_after (Sets at None touches) s = refl

-- ---- a process in place of another of its name

abbrev pub put_solo : List ℕ → Process → Option Process → List ℕ → Option Process
put_solo who q o name = if bytes_eq name who then Some q else o

pub named_set : (ps : List Process) (k : ℕ) (p q : Process) (name : List ℕ) → Distinct (names ps) → slice_get ps k ≡ Some p
    → q.name ≡ p.name → named name (slice_set ps k q) ≡ put_solo p.name q (named name ps) name
named_set [] zero p q name distinct is same = absurd cc
named_set [] (suc k) p q name distinct is same = absurd cc
named_set (r ∷ ps) zero p q name distinct is same =
    let first : r ≡ p = cc in
    let one : r.name ≡ p.name = ap name_of first in
    elim (cases_Bool (bytes_eq name p.name)) [
      | inl hit ↦
          let here : bytes_eq name q.name ≡ true = ap (bytes_eq name) same ∙ hit in
          rw (here, hit) refl
      | inr miss ↦
          let other : bytes_eq name q.name ≡ false = ap (bytes_eq name) same ∙ miss in
          let none : bytes_eq name r.name ≡ false = ap (bytes_eq name) one ∙ miss in
          rw (other, miss, none) refl
    ]
named_set (r ∷ ps) (suc k) p q name distinct is same = elim (cases_Bool (bytes_eq name r.name)) [
  | inl hit ↦
      let here : name ≡ r.name = bytes_eq-true name r.name hit in
      let apart : r.name ≢ p.name = at_name (λ (m : List ℕ). r.name ≢ m) ps k p distinct.0 is in
      let miss : bytes_eq name p.name ≡ false = bytes_eq-other name p.name (λ there. apart (sym here ∙ there)) in
      rw hit (rw miss refl)
  | inr miss ↦ rw miss (named_set ps k p q name distinct.1 is same)
]

-- one more process
pub named_one : (ps : List Process) (c : Process) (name : List ℕ) → AllByRecursion (λ (m : List ℕ). m ≢ c.name) (names ps)
    → named name (ps ++ c ∷ []) ≡ put_solo c.name c (named name ps) name
named_one [] c name apart = refl
named_one (r ∷ ps) c name apart = elim (cases_Bool (bytes_eq name r.name)) [
  | inl hit ↦
      let here : name ≡ r.name = bytes_eq-true name r.name hit in
      let miss : bytes_eq name c.name ≡ false = bytes_eq-other name c.name (λ there. apart.0 (sym here ∙ there)) in
      rw hit (rw miss refl)
  | inr miss ↦ rw miss (named_one ps c name apart.1)
]

-- a process stands under its name
pub named_itself : (ps : List Process) (k : ℕ) (p : Process) → Distinct (names ps) → slice_get ps k ≡ Some p → named p.name ps ≡ Some p
named_itself [] zero p distinct is = absurd cc
named_itself [] (suc k) p distinct is = absurd cc
named_itself (r ∷ ps) zero p distinct is =
    let first : r ≡ p = cc in
    let hit : bytes_eq p.name r.name ≡ true = ap (λ (q : Process). bytes_eq q.name r.name) (sym first) ∙ bytes_eq-itself r.name in
    rw hit (ap (λ (q : Process). Some q) first)
named_itself (r ∷ ps) (suc k) p distinct is =
    let apart : r.name ≢ p.name = at_name (λ (m : List ℕ). r.name ≢ m) ps k p distinct.0 is in
    let miss : bytes_eq p.name r.name ≡ false = bytes_eq-other p.name r.name (λ same. apart (sym same)) in
    rw miss (named_itself ps k p distinct.1 is)

-- and what is found is one of the processes
pub named_found : (P : Process → Type 0) (ps : List Process) (name : List ℕ) (p : Process) → AllByRecursion P ps → named name ps ≡ Some p → P p
named_found P [] name p all is = absurd cc
named_found P (r ∷ ps) name p all is = elim (cases_Bool (bytes_eq name r.name)) [
  | inl hit ↦ let found : Some r ≡ Some p = rw hit at is in let same : r ≡ p = cc in subst P same all.0
  | inr miss ↦ named_found P ps name p all.1 (rw miss at is)
]

-- ---- the children of a process, by name

abbrev pub IsBelow : ℕ → NameBinding ℕ → Type 0
IsBelow n b = b.bound < n

abbrev pub KidsBelow : ℕ → Process → Type 0
KidsBelow n p = AllByRecursion (IsBelow n) p.children

get_more : (ns : List (List ℕ)) (m : List ℕ) (k : ℕ) → k < length ns → at_number (ns ++ m ∷ []) k ≡ at_number ns k
get_more [] m k below = absurd (omega (arith, below))
get_more (n ∷ ns) m zero below = refl
get_more (n ∷ ns) m (suc k) below = get_more ns m k (omega (arith, below))

get_last : (ns : List (List ℕ)) (m : List ℕ) → at_number (ns ++ m ∷ []) (length ns) ≡ m
get_last [] m = refl
get_last (n ∷ ns) m = get_last ns m

kids_more : (ns : List (List ℕ)) (m : List ℕ) (bs : List (NameBinding ℕ)) → AllByRecursion (IsBelow (length ns)) bs
    → kids_of (ns ++ m ∷ []) bs ≡ kids_of ns bs
kids_more ns m [] below = refl
kids_more ns m (b ∷ bs) below =
    let first : at_number (ns ++ m ∷ []) b.bound ≡ at_number ns b.bound = get_more ns m b.bound below.0 in
    λ j. record { name = b.name; bound = first j } ∷ kids_more ns m bs below.1 j

pub solo_more : (ns : List (List ℕ)) (m : List ℕ) (p : Process) → KidsBelow (length ns) p → solo_of (ns ++ m ∷ []) p ≡ solo_of ns p
solo_more ns m p below = λ j. record { own = bare p; kids = kids_more ns m p.children below j }

kids_unbound : (ns : List (List ℕ)) (name : List ℕ) (bs : List (NameBinding ℕ)) → kids_of ns (unbind name bs) ≡ unbind name (kids_of ns bs)
kids_unbound ns name [] = refl
kids_unbound ns name (b ∷ bs) = elim (cases_Bool (bytes_eq b.name name)) [
  | inl hit ↦ rw hit (kids_unbound ns name bs)
  | inr miss ↦ rw miss (ap (λ (l : List (NameBinding (List ℕ))). kid_of ns b ∷ l) (kids_unbound ns name bs))
]

-- the last process that was made is a child
pub kids_bound : (ns : List (List ℕ)) (m name : List ℕ) (bs : List (NameBinding ℕ)) (n : ℕ) → n ≡ length ns → AllByRecursion (IsBelow n) bs
    → kids_of (ns ++ m ∷ []) (bind name n bs) ≡ bind name m (kids_of ns bs)
kids_bound ns m name bs n count below =
    let last : at_number (ns ++ m ∷ []) n ≡ m = ap (at_number (ns ++ m ∷ [])) count ∙ get_last ns m in
    let rest : kids_of (ns ++ m ∷ []) (unbind name bs) ≡ unbind name (kids_of ns bs) =
    kids_unbound (ns ++ m ∷ []) name bs
    ∙ ap (unbind name) (kids_more ns m bs (subst (λ (i : ℕ). AllByRecursion (IsBelow i) bs) count below)) in
    λ j. record { name = name; bound = last j } ∷ rest j

pub lookup_kids : (ns : List (List ℕ)) (name : List ℕ) (bs : List (NameBinding ℕ))
    → lookup name (kids_of ns bs) ≡ option_map (at_number ns) (lookup name bs)
lookup_kids ns name [] = refl
lookup_kids ns name (b ∷ bs) = elim (cases_Bool (bytes_eq b.name name)) [
  | inl hit ↦ rw hit refl
  | inr miss ↦ rw miss (lookup_kids ns name bs)
]

pub unbound_below : (n : ℕ) (name : List ℕ) (bs : List (NameBinding ℕ)) → AllByRecursion (IsBelow n) bs → AllByRecursion (IsBelow n) (unbind name bs)
unbound_below n name [] all = tt
unbound_below n name (b ∷ bs) all = elim (cases_Bool (bytes_eq b.name name)) [
  | inl hit ↦ rw hit (unbound_below n name bs all.1)
  | inr miss ↦ rw miss (all.0, unbound_below n name bs all.1)
]

pub found_below : (n : ℕ) (name : List ℕ) (bs : List (NameBinding ℕ)) (k : ℕ) → AllByRecursion (IsBelow n) bs → lookup name bs ≡ Some k → k < n
found_below n name [] k all is = absurd cc
found_below n name (b ∷ bs) k all is = elim (cases_Bool (bytes_eq b.name name)) [
  | inl hit ↦ let found : Some b.bound ≡ Some k = rw hit at is in let same : b.bound ≡ k = cc in subst (λ (i : ℕ). i < n) same all.0
  | inr miss ↦ found_below n name bs k all.1 (rw miss at is)
]

pub there_below : (ps : List Process) (k : ℕ) → k < length ps → (r : Process) × (slice_get ps k ≡ Some r)
there_below [] k below = absurd (omega (arith, below))
there_below (p ∷ ps) zero below = (p, refl)
there_below (p ∷ ps) (suc k) below = there_below ps k (omega (arith, below))

pub name_at : (ps : List Process) (k : ℕ) (r : Process) → slice_get ps k ≡ Some r → at_number (names ps) k ≡ r.name
name_at [] zero r is = absurd cc
name_at [] (suc k) r is = absurd cc
name_at (p ∷ ps) zero r is = let same : p ≡ r = cc in ap name_of same
name_at (p ∷ ps) (suc k) r is = name_at ps k r is

-- ---- all processes

module _ (ps : List Process) (distinct : Distinct (names ps)) (k : ℕ) (p : Process) (is : slice_get ps k ≡ Some p) where
  -- one is put in the place of another
  pub solos_set : (q : Process) → q.name ≡ p.name → (name : List ℕ)
      → solos (slice_set ps k q) name ≡ (if bytes_eq name p.name then Some (solo_of (names ps) q) else solos ps name)
  solos_set q same name =
      (λ j. option_map (solo_of (names_set ps k p q is same j)) (named_set ps k p q name distinct is same j))
      ∙ put_map (bytes_eq name p.name) (named name ps)
    where
      put_map : (hit : Bool) (o : Option Process)
          → option_map (solo_of (names ps)) (if hit then Some q else o)
          ≡ (if hit then Some (solo_of (names ps) q) else option_map (solo_of (names ps)) o)
      put_map true o = refl
      put_map false o = refl

  -- the process itself
  pub solos_there : solos ps p.name ≡ Some (solo_of (names ps) p)
  solos_there = ap (option_map (solo_of (names ps))) (named_itself ps k p distinct is)
