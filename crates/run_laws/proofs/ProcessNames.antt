-- The processes of a run have different names: a child is named by its parent's name and its number among the
-- parent's children, and the parent counts them.
use Rattle.std.proofs.Common.{◌≡◌, ◌≢◌, ◌⊎◌, ℕ, zero, suc, ◌<◌, ◌≤◌, List, [], ◌∷◌, ◌++◌, length, refl, sym, ap, ◌∙◌, subst, arith, inl, inr}
use Rattle.std.specs.Prelude.{Option, Some, None, map, slice_get, slice_set}
use Rattle.std.specs.List.{AllByRecursion}
use Rattle.std.proofs.lemmas.List.{map-append, append_assoc, append-nil}
use Rattle.ldv_value.proofs.Lists.{all-weaker}
use Rattle.ldv_value.proofs.Options.{same-some}
use Rattle.run_model.specs.Types.{Instr}
use Rattle.run_model.specs.declared.package.Entry.{Entry}
use Rattle.run_model.specs.Core.{Process}
use Rattle.run_model.specs.StepProcesses.{SpawnRequest, child_of, parent_of, with_child}
use Rattle.run_laws.proofs.ProcessPlaces.{set_related, one_related, set_there, one_there}
use Rattle.run_laws.proofs.StepTrails.{Trail, trail}
use Rattle.ldv_value.proofs.ItemLists.{all_append}

-- ---- a process as it was before, and as it is later

pub record Later (p q : Process) : Type 0 where
  pub name : q.name ≡ p.name
  pub spawned : p.spawned ≤ q.spawned
  -- what it asked between
  pub rest : List Entry
  pub entries : q.entries ≡ p.entries ++ rest

pub later_trail : (p q : Process) → trail q ≡ trail p → Later p q
later_trail p q same = record {
  name = ap (λ (t : Trail). t.name) same;
  spawned = let count : q.spawned ≡ p.spawned = ap (λ (t : Trail). t.spawned) same in omega (arith, count);
  rest = [];
  entries = ap (λ (t : Trail). t.entries) same ∙ sym (append-nil p.entries);
}

later_trans : (p q r : Process) → Later p q → Later q r → Later p r
later_trans p q r first second = record {
  name = second.name ∙ first.name;
  spawned = omega (arith, first.spawned, second.spawned);
  rest = first.rest ++ second.rest;
  entries =
      second.entries
      ∙ ap (λ (es : List Entry). es ++ second.rest) first.entries
      ∙ append_assoc p.entries first.rest second.rest;
}

-- once made it stays
abbrev pub Lasts : Option Process → Option Process → Type 0
Lasts None o = Unit {0}
Lasts (Some p) None = ⊥
Lasts (Some p) (Some q) = Later p q

pub lasts_itself : (o : Option Process) → Lasts o o
lasts_itself None = tt
lasts_itself (Some p) = later_trail p p refl

lasts_trans : (a b c : Option Process) → Lasts a b → Lasts b c → Lasts a c
lasts_trans None b c first second = tt
lasts_trans (Some p) None c first second = absurd first
lasts_trans (Some p) (Some q) None first second = absurd second
lasts_trans (Some p) (Some q) (Some r) first second = later_trans p q r first second

lasts_found : (p : Process) (o : Option Process) → Lasts (Some p) o → (q : Process) × (o ≡ Some q) × Later p q
lasts_found p None lasts = absurd lasts
lasts_found p (Some q) lasts = (q, refl, lasts)

-- each process, by its creation number
abbrev pub Grows : List Process → List Process → Type 0
Grows ps qs = (k : ℕ) → Lasts (slice_get ps k) (slice_get qs k)

pub grows_itself : (ps : List Process) → Grows ps ps
grows_itself ps = λ k. lasts_itself (slice_get ps k)

pub grows_trans : (ps qs rs : List Process) → Grows ps qs → Grows qs rs → Grows ps rs
grows_trans ps qs rs first second =
    λ k. lasts_trans (slice_get ps k) (slice_get qs k) (slice_get rs k) (first k) (second k)

pub found_later : (ps qs : List Process) (k : ℕ) (p : Process) → Grows ps qs → slice_get ps k ≡ Some p
    → (q : Process) × (slice_get qs k ≡ Some q) × Later p q
found_later ps qs k p grows is =
    lasts_found p (slice_get qs k) (subst (λ (o : Option Process). Lasts o (slice_get qs k)) is (grows k))

pub set_grows : (ps : List Process) (number : ℕ) (p q : Process) → slice_get ps number ≡ Some p → Later p q
    → Grows ps (slice_set ps number q)
set_grows ps number p q is later = set_related Lasts lasts_itself ps number p q is later

-- ---- names

abbrev pub name_of : Process → List ℕ
name_of p = p.name

abbrev pub names : List Process → List (List ℕ)
names ps = map name_of ps

pub names_set : (ps : List Process) (number : ℕ) (p q : Process) → slice_get ps number ≡ Some p → q.name ≡ p.name
    → names (slice_set ps number q) ≡ names ps
names_set [] zero p q is same = absurd cc
names_set [] (suc number) p q is same = absurd cc
names_set (r ∷ ps) zero p q is same =
    let first : r ≡ p = cc in
    ap (λ (n : List ℕ). n ∷ names ps) (same ∙ sym (ap name_of first))
names_set (r ∷ ps) (suc number) p q is same = ap (λ (ns : List (List ℕ)). r.name ∷ ns) (names_set ps number p q is same)

-- what holds of all names holds of that of a process
pub at_name : (P : List ℕ → Type 0) (ps : List Process) (k : ℕ) (p : Process) → AllByRecursion P (names ps)
    → slice_get ps k ≡ Some p → P p.name
at_name P [] zero p all is = absurd cc
at_name P [] (suc k) p all is = absurd cc
at_name P (r ∷ ps) zero p all is = let first : r ≡ p = cc in subst (λ (x : Process). P x.name) first all.0
at_name P (r ∷ ps) (suc k) p all is = at_name P ps k p all.1 is

-- ---- different names

abbrev pub Distinct : List (List ℕ) → Type 0
Distinct [] = Unit {0}
Distinct (n ∷ ns) = AllByRecursion (λ m. n ≢ m) ns × Distinct ns

distinct_one : (ns : List (List ℕ)) (n : List ℕ) → Distinct ns → AllByRecursion (λ m. m ≢ n) ns → Distinct (ns ++ n ∷ [])
distinct_one [] n distinct all = (tt, tt)
distinct_one (m ∷ ns) n distinct all = (
  all_append (λ (k : List ℕ). m ≢ k) ns (n ∷ []) distinct.0 (all.0, tt),
  distinct_one ns n distinct.1 all.1,
)

-- a name says which process it is
pub place_of_name : (ps : List Process) (i j : ℕ) (p q : Process) → Distinct (names ps) → slice_get ps i ≡ Some p
    → slice_get ps j ≡ Some q → p.name ≡ q.name → i ≡ j
place_of_name [] zero j p q distinct here there same = absurd cc
place_of_name [] (suc i) j p q distinct here there same = absurd cc
place_of_name (r ∷ ps) zero zero p q distinct here there same = refl
place_of_name (r ∷ ps) zero (suc j) p q distinct here there same =
    let first : r ≡ p = cc in
    absurd (at_name (λ (m : List ℕ). r.name ≢ m) ps j q distinct.0 there (ap name_of first ∙ same))
place_of_name (r ∷ ps) (suc i) zero p q distinct here there same =
    let first : r ≡ q = cc in
    absurd (at_name (λ (m : List ℕ). r.name ≢ m) ps i p distinct.0 here (ap name_of first ∙ sym same))
place_of_name (r ∷ ps) (suc i) (suc j) p q distinct here there same =
    ap suc (place_of_name ps i j p q distinct.1 here there same)

-- ---- a name is that of the first process, or of a child that was made

pub record IsChild (ps : List Process) (name : List ℕ) : Type 0 where
  -- the creation number of the parent
  pub number : ℕ
  pub parent : Process
  pub there : slice_get ps number ≡ Some parent
  -- its number among the children
  pub child : ℕ
  pub named : name ≡ parent.name ++ child ∷ []
  pub made : child < parent.spawned

abbrev pub IsMade : List Process → List ℕ → Type 0
IsMade ps name = (name ≡ 0 ∷ []) ⊎ IsChild ps name

pub record Named (ps : List Process) : Type 0 where
  pub distinct : Distinct (names ps)
  pub made : AllByRecursion (IsMade ps) (names ps)

made_later : (ps qs : List Process) → Grows ps qs → (name : List ℕ) → IsMade ps name → IsMade qs name
made_later ps qs grows name (inl first) = inl first
made_later ps qs grows name (inr child) =
    let found = found_later ps qs child.number child.parent grows child.there in
    inr
    (record {
      number = child.number;
      parent = found.0;
      there = found.1;
      child = child.child;
      named = child.named ∙ ap (λ (n : List ℕ). n ++ child.child ∷ []) (sym found.2.name);
      made = omega (arith, child.made, found.2.spawned);
    })

all_later : (ps qs : List Process) → Grows ps qs → AllByRecursion (IsMade ps) (names ps) → AllByRecursion (IsMade qs) (names ps)
all_later ps qs grows made = all-weaker (IsMade ps) (IsMade qs) (made_later ps qs grows) (names ps) made

-- no other name
pub named_later : (ps qs : List Process) → Grows ps qs → names qs ≡ names ps → Named ps → Named qs
named_later ps qs grows same named = record {
  distinct = subst Distinct (sym same) named.distinct;
  made = subst (AllByRecursion (IsMade qs)) (sym same) (all_later ps qs grows named.made);
}

-- ---- one more child

pub none_is_one : (xs : List ℕ) (x : ℕ) → [] ≢ (xs ++ x ∷ [])
none_is_one [] x same = absurd cc
none_is_one (y ∷ xs) x same = absurd cc

pub last_parts : (xs ys : List ℕ) (x y : ℕ) → xs ++ x ∷ [] ≡ ys ++ y ∷ [] → (xs ≡ ys) × (x ≡ y)
last_parts [] [] x y same = let last : x ≡ y = cc in (refl, last)
last_parts [] (b ∷ ys) x y same = let rest : [] ≡ ys ++ y ∷ [] = cc in absurd (none_is_one ys y rest)
last_parts (a ∷ xs) [] x y same = let rest : [] ≡ xs ++ x ∷ [] = cc in absurd (none_is_one xs x rest)
last_parts (a ∷ xs) (b ∷ ys) x y same =
    let first : a ≡ b = cc in
    let rest : xs ++ x ∷ [] ≡ ys ++ y ∷ [] = cc in
    let both = last_parts xs ys x y rest in
    (λ j. first j ∷ both.0 j, both.1)

-- no process has the name of none
made_some : (ps : List Process) (name : List ℕ) → IsMade ps name → [] ≢ name
made_some ps name (inl first) none = none_is_one [] 0 (none ∙ first)
made_some ps name (inr child) none = none_is_one child.parent.name child.child (none ∙ child.named)

abbrev next_name : Process → List ℕ
next_name p = p.name ++ p.spawned ∷ []

-- no process has the name of a process's next child
name_fresh : (ps : List Process) (number : ℕ) (p : Process) → Named ps → slice_get ps number ≡ Some p
    → (name : List ℕ) → IsMade ps name → name ≢ next_name p
name_fresh ps number p named is name (inl first) same =
    let both = last_parts [] p.name 0 p.spawned (sym first ∙ same) in
    made_some ps p.name (at_name (IsMade ps) ps number p named.made is) both.0
name_fresh ps number p named is name (inr child) same =
    let both = last_parts child.parent.name p.name child.child p.spawned (sym child.named ∙ same) in
    let place : child.number ≡ number = place_of_name ps child.number number child.parent p named.distinct child.there is both.0 in
    let parent : child.parent ≡ p = same-some child.parent p (sym child.there ∙ ap (slice_get ps) place ∙ is) in
    let count : child.parent.spawned ≡ p.spawned = ap (λ (q : Process). q.spawned) parent in
    absurd (omega (arith, child.made, both.1, count))

module _ (ps : List Process) (number : ℕ) (p : Process) (is : slice_get ps number ≡ Some p) (spawning : SpawnRequest)
    (script : List Instr) where
  abbrev parent : Process
  parent = parent_of (length ps) spawning.child p

  abbrev child : Process
  child = child_of p script spawning.arguments

  abbrev front : List Process
  front = slice_set ps number parent

  abbrev after : List Process
  after = with_child number spawning script p ps

  parent_later : Later p parent
  parent_later = record { name = refl; spawned = omega arith; rest = []; entries = sym (append-nil p.entries) }

  pub child_grows : Grows ps after
  child_grows =
      grows_trans ps front after (set_grows ps number p parent is parent_later)
      (one_related Lasts lasts_itself front child tt)

  names_child : names after ≡ names ps ++ next_name p ∷ []
  names_child =
      map-append name_of front (child ∷ [])
      ∙ ap (λ (ns : List (List ℕ)). ns ++ next_name p ∷ []) (names_set ps number p parent is refl)

  parent_there : slice_get after number ≡ Some parent
  parent_there = one_there front number parent child (set_there ps number p parent is)

  child_made : IsMade after (next_name p)
  child_made = inr
      (record {
        number = number;
        parent = parent;
        there = parent_there;
        child = p.spawned;
        named = refl;
        made = omega arith;
      })

  pub child_named : Named ps → Named after
  child_named named = record {
    distinct =
        subst Distinct (sym names_child)
        (distinct_one (names ps) (next_name p) named.distinct
        (all-weaker (IsMade ps) (λ (n : List ℕ). n ≢ next_name p) (name_fresh ps number p named is) (names ps) named.made));
    made =
        subst (AllByRecursion (IsMade after)) (sym names_child)
        (all_append (IsMade after) (names ps) (next_name p ∷ []) (all_later ps after child_grows named.made) (child_made, tt));
  }
