-- Tables that are marked one after another are those that a statement asks.
use Rattle.std.proofs.Common.{◌≡◌, ◌∙◌, sym, ap, refl, subst, ℕ, zero, suc, ◌<◌, ◌≤◌, List, [], ◌∷◌, length, Bool, true, false, inl, inr, arith, append-nil}
use Rattle.std.specs.Prelude.{map, filter, not, zip, Option, Some, None, if◌then◌else◌, slice_get, slice_set, slice_index_or}
use Rattle.std.specs.Cmp.{both_ways}
use Rattle.std.specs.List.{list_any, position}
use Rattle.std.specs.Option.{option_map, option_map_or}
use Rattle.dml_versions.proofs.MadeLaws.{position-here, position-later}
use Rattle.ldv_value.proofs.Booleans.{or-cases, or-left, or-right, or-parts, false≢true}
use Rattle.ldv_value.proofs.Cases.{cases-bool}
use Rattle.ldv_value.proofs.Lists.{list_any-append, length-map}
use Rattle.ldv_value.proofs.Options.{same-some, none-some}
use Rattle.ldv_value.proofs.SameBytes.{bytes_eq-true, bytes_eq-itself}
use Rattle.sql_laws.proofs.ParentTables.{Among, parents_taken, taken_soon}
use Rattle.sql_engine.proofs.LeastTables.{close-least}
use Rattle.sql_engine.specs.inner.Listing.{is_in, is_text, names_table, names_first}
use Rattle.sql_engine.specs.inner.Taking.{is_taken, is_waiting, is_done, taken_mark, first_mark, raised_at, with_name, with_unless, with_more, with_reads, with_parents_of, foreigns_at, marks_with_parents, AreDistinct, AllSound, AreTaken, name_taken, refers_to, AreClosed, IsTaken, AreMarks}
use Rattle.sql_engine.specs.Types.{Catalog, Need, Schema, Statement}
use Rattle.sql_engine.specs.declared.marks.Mark.{Mark}
use Rattle.sql_engine.specs.declared.marks.Mark.TheVariants.{Left, Taken, Done}
use Rattle.sql_model.specs.ForeignKeys.{NamedSchema, with_parents}
use Rattle.sql_model.specs.Refusals.{tables_of}
use Rattle.sql_model.specs.Scope.{same_text}
use Rattle.sql_model.specs.declared.table.Foreign.{Foreign}

-- ---- one mark

raised_taken : (m : Mark) → is_taken (taken_mark m) ≡ true
raised_taken Left = refl
raised_taken Taken = refl
raised_taken Done = refl

raised_done : (m : Mark) → is_done (taken_mark m) ≡ is_done m
raised_done Left = refl
raised_done Taken = refl
raised_done Done = refl

waiting_taken : (m : Mark) → is_waiting m ≡ true → is_taken m ≡ true
waiting_taken Left is = cc
waiting_taken Taken is = refl
waiting_taken Done is = refl

taken_done : (m : Mark) → is_waiting m ≡ false → is_taken m ≡ true → is_done m ≡ true
taken_done Left no_wait is = cc
taken_done Taken no_wait is = cc
taken_done Done no_wait is = refl

-- ---- the mark at a place is raised

pub raised_set : (marks : List Mark) (place : ℕ) (d : Mark) → place < length marks
    → slice_set marks place (taken_mark (slice_index_or marks place d)) ≡ raised_at marks place
raised_set [] place d within = absurd (omega (arith, within))
raised_set (m ∷ ms) zero d within = refl
raised_set (m ∷ ms) (suc place) d within = ap (λ (l : List Mark). m ∷ l) (raised_set ms place d (omega (arith, within)))

pub raised_out : (marks : List Mark) (place : ℕ) → length marks ≤ place → raised_at marks place ≡ marks
raised_out [] place out = refl
raised_out (m ∷ ms) zero out = absurd (omega (arith, out))
raised_out (m ∷ ms) (suc place) out = ap (λ (l : List Mark). m ∷ l) (raised_out ms place (omega (arith, out)))

pub ruleset raised_rules = (raised_set, raised_out)

-- the mark of the first table of a name
abbrev raise_named : List (List ℕ) → List ℕ → List Mark → List Mark
raise_named [] name marks = marks
raise_named (n ∷ ns) name [] = []
raise_named (n ∷ ns) name (m ∷ ms) = if same_text name n then taken_mark m ∷ ms else m ∷ raise_named ns name ms

none_raised : (o : Option ℕ) → option_map_or (raised_at []) o [] ≡ []
none_raised None = refl
none_raised (Some place) = refl

later_raised : (m : Mark) (ms : List Mark) (o : Option ℕ)
    → option_map_or (raised_at (m ∷ ms)) (option_map suc o) (m ∷ ms) ≡ m ∷ option_map_or (raised_at ms) o ms
later_raised m ms None = refl
later_raised m ms (Some place) = refl

named_raise : (names : List (List ℕ)) (name : List ℕ) (marks : List Mark) → with_name names name marks ≡ raise_named names name marks
named_raise [] name marks = refl
named_raise (n ∷ ns) name [] = none_raised (position (is_text name) (n ∷ ns))
named_raise (n ∷ ns) name (m ∷ ms) =
    let at : Option ℕ → List Mark = λ o. option_map_or (raised_at (m ∷ ms)) o (m ∷ ms) in
    let by : Bool → List Mark = λ b. if b then taken_mark m ∷ ms else m ∷ raise_named ns name ms in
    elim (cases-bool (same_text name n)) [
      | inl hit ↦ ap at (position-here (is_text name) n ns hit) ∙ sym (ap by hit)
      | inr miss ↦
          ap at (position-later (is_text name) n ns miss)
          ∙ later_raised m ms (position (is_text name) ns)
          ∙ ap (λ (l : List Mark). m ∷ l) (named_raise ns name ms)
          ∙ sym (ap by miss)
    ]

-- ---- what a name changes

-- marks that are raised: as many, the same are done, and what was taken still is
record Raises (names : List (List ℕ)) (old new : List Mark) : Type 0 where
  long : length new ≡ length old
  dones : map is_done new ≡ map is_done old
  keeps : (name : List ℕ) → name_taken names old name ≡ true → name_taken names new name ≡ true

raises_itself : (names : List (List ℕ)) (marks : List Mark) → Raises names marks marks
raises_itself names marks = record { long = refl; dones = refl; keeps = λ name is. is }

raises_more : (names : List (List ℕ)) (a b c : List Mark) → Raises names a b → Raises names b c → Raises names a c
raises_more names a b c first second = record {
  long = second.long ∙ first.long;
  dones = second.dones ∙ first.dones;
  keeps = λ name is. second.keeps name (first.keeps name is);
}

module _ (name : List ℕ) where
  raise_long : (names : List (List ℕ)) (marks : List Mark) → length (raise_named names name marks) ≡ length marks
  raise_long [] marks = refl
  raise_long (n ∷ ns) [] = refl
  raise_long (n ∷ ns) (m ∷ ms) = elim (cases-bool (same_text name n)) [
    | inl hit ↦ rw hit refl
    | inr miss ↦ rw miss (ap suc (raise_long ns ms))
  ]

  raise_dones : (names : List (List ℕ)) (marks : List Mark) → map is_done (raise_named names name marks) ≡ map is_done marks
  raise_dones [] marks = refl
  raise_dones (n ∷ ns) [] = refl
  raise_dones (n ∷ ns) (m ∷ ms) = elim (cases-bool (same_text name n)) [
    | inl hit ↦ rw hit (ap (λ (b : Bool). b ∷ map is_done ms) (raised_done m))
    | inr miss ↦ rw miss (ap (λ (l : List Bool). is_done m ∷ l) (raise_dones ns ms))
  ]

  raise_keeps : (names : List (List ℕ)) (marks : List Mark) (other : List ℕ) → name_taken names marks other ≡ true
      → name_taken names (raise_named names name marks) other ≡ true
  raise_keeps [] marks other is = is
  raise_keeps (n ∷ ns) [] other is = is
  raise_keeps (n ∷ ns) (m ∷ ms) other is = elim (cases-bool (same_text name n)) [
    | inl hit ↦ elim (cases-bool (same_text other n)) [
      | inl mine ↦ rw (hit, mine) (raised_taken m)
      | inr away ↦ rw (hit, away) (rw away at is)
    ]
    | inr miss ↦ elim (cases-bool (same_text other n)) [
      | inl mine ↦ rw (miss, mine) (rw mine at is)
      | inr away ↦ rw (miss, away) (raise_keeps ns ms other (rw away at is))
    ]
  ]

  raise_there : (names : List (List ℕ)) (marks : List Mark) → length marks ≡ length names → is_in names name ≡ true
      → name_taken names (raise_named names name marks) name ≡ true
  raise_there [] marks long is = cc
  raise_there (n ∷ ns) [] long is = absurd (omega (arith, long))
  raise_there (n ∷ ns) (m ∷ ms) long is = elim (cases-bool (same_text name n)) [
    | inl hit ↦ rw (hit, hit) (raised_taken m)
    | inr miss ↦ rw (miss, miss) (raise_there ns ms (omega (arith, long)) (rw miss at is))
  ]

  raise_sound : (test : List ℕ → Bool) (names : List (List ℕ)) (marks : List Mark) → (is_in names name ≡ true → test name ≡ true)
      → AllSound test names marks → AllSound test names (raise_named names name marks)
  raise_sound test [] marks passes all = tt
  raise_sound test (n ∷ ns) [] passes all = tt
  raise_sound test (n ∷ ns) (m ∷ ms) passes all = elim (cases-bool (same_text name n)) [
    | inl hit ↦
        let here : test n ≡ true = ap test (sym (bytes_eq-true name n hit)) ∙ passes (or-left (same_text name n) (is_in ns name) hit) in
        rw hit (λ is. here, all.1)
    | inr miss ↦ rw miss (all.0, raise_sound test ns ms (λ is. passes (or-right (same_text name n) (is_in ns name) is)) all.1)
  ]

  raise_all : (test : List ℕ → Bool) (names : List (List ℕ)) (marks : List Mark) → AreTaken test names marks
      → AreTaken test names (raise_named names name marks)
  raise_all test [] marks all = tt
  raise_all test (n ∷ ns) [] all = tt
  raise_all test (n ∷ ns) (m ∷ ms) all = elim (cases-bool (same_text name n)) [
    | inl hit ↦ rw hit (λ is. raised_taken m, all.1)
    | inr miss ↦ rw miss (all.0, raise_all test ns ms all.1)
  ]

module _ (names : List (List ℕ)) (name : List ℕ) (marks : List Mark) where
  name_raises : Raises names marks (with_name names name marks)
  name_raises = subst (Raises names marks) (sym (named_raise names name marks)) (record {
    long = raise_long name names marks;
    dones = raise_dones name names marks;
    keeps = raise_keeps name names marks;
  })

  name_there : length marks ≡ length names → is_in names name ≡ true → name_taken names (with_name names name marks) name ≡ true
  name_there long is =
      subst (λ (l : List Mark). name_taken names l name ≡ true) (sym (named_raise names name marks)) (raise_there name names marks long is)

  name_sound : (test : List ℕ → Bool) → (is_in names name ≡ true → test name ≡ true) → AllSound test names marks
      → AllSound test names (with_name names name marks)
  name_sound test passes all =
      subst (AllSound test names) (sym (named_raise names name marks)) (raise_sound name test names marks passes all)

  name_all : (test : List ℕ → Bool) → AreTaken test names marks → AreTaken test names (with_name names name marks)
  name_all test all = subst (AreTaken test names) (sym (named_raise names name marks)) (raise_all name test names marks all)

-- ---- parents of foreign keys

abbrev parents_in : List Foreign → List (List ℕ)
parents_in foreigns = map (λ (f : Foreign). f.parent) foreigns

module _ (names : List (List ℕ)) where
  parents_raise : (foreigns : List Foreign) (marks : List Mark) → Raises names marks (with_parents_of names foreigns marks)
  parents_raise [] marks = raises_itself names marks
  parents_raise (f ∷ fs) marks =
      raises_more names marks (with_name names f.parent marks) (with_parents_of names fs (with_name names f.parent marks))
      (name_raises names f.parent marks) (parents_raise fs (with_name names f.parent marks))

  parents_sound : (test : List ℕ → Bool) (foreigns : List Foreign) (marks : List Mark)
      → ((name : List ℕ) → is_in (parents_in foreigns) name ≡ true → is_in names name ≡ true → test name ≡ true)
      → AllSound test names marks → AllSound test names (with_parents_of names foreigns marks)
  parents_sound test [] marks passes all = all
  parents_sound test (f ∷ fs) marks passes all =
      parents_sound test fs (with_name names f.parent marks)
      (λ name is there. passes name (or-right (same_text name f.parent) (is_in (parents_in fs) name) is) there)
      (name_sound names f.parent marks test
      (λ there. passes f.parent (or-left (same_text f.parent f.parent) (is_in (parents_in fs) f.parent) (bytes_eq-itself f.parent)) there) all)

  parents_all : (test : List ℕ → Bool) (foreigns : List Foreign) (marks : List Mark) → AreTaken test names marks
      → AreTaken test names (with_parents_of names foreigns marks)
  parents_all test [] marks all = all
  parents_all test (f ∷ fs) marks all = parents_all test fs (with_name names f.parent marks) (name_all names f.parent marks test all)

  parents_there : (foreigns : List Foreign) (marks : List Mark) → length marks ≡ length names
      → (name : List ℕ) → is_in (parents_in foreigns) name ≡ true → is_in names name ≡ true
      → name_taken names (with_parents_of names foreigns marks) name ≡ true
  parents_there [] marks long name is there = cc
  parents_there (f ∷ fs) marks long name is there =
      let one : List Mark = with_name names f.parent marks in
      let raises = name_raises names f.parent marks in
      elim (or-cases (same_text name f.parent) (is_in (parents_in fs) name) is) [
        | inl here ↦
            let same : name ≡ f.parent = bytes_eq-true name f.parent here in
            (parents_raise fs one).keeps name
            (ap (name_taken names one) same
            ∙ name_there names f.parent marks long (ap (is_in names) (sym same) ∙ there))
        | inr more ↦ parents_there fs one (raises.long ∙ long) name more there
      ]

-- ---- rows that are needed

abbrev tables_in : List Need → List (List ℕ)
tables_in reads = map (λ (need : Need). need.member.table) reads

module _ (names : List (List ℕ)) where
  unless_raises : (before name : List ℕ) (marks : List Mark) → Raises names marks (with_unless names before name marks)
  unless_raises before name marks = elim (cases-bool (same_text name before)) [
    | inl hit ↦ rw hit (raises_itself names marks)
    | inr miss ↦ rw miss (name_raises names name marks)
  ]

  unless_there : (before name : List ℕ) (marks : List Mark) → length marks ≡ length names
      → (is_in names before ≡ true → name_taken names marks before ≡ true) → is_in names name ≡ true
      → name_taken names (with_unless names before name marks) name ≡ true
  unless_there before name marks long last there = elim (cases-bool (same_text name before)) [
    | inl hit ↦
        let same : name ≡ before = bytes_eq-true name before hit in
        let taken : name_taken names marks name ≡ true = ap (name_taken names marks) same ∙ last (ap (is_in names) (sym same) ∙ there) in
        rw hit taken
    | inr miss ↦ rw miss (name_there names name marks long there)
  ]

  unless_sound : (test : List ℕ → Bool) (before name : List ℕ) (marks : List Mark) → (is_in names name ≡ true → test name ≡ true)
      → AllSound test names marks → AllSound test names (with_unless names before name marks)
  unless_sound test before name marks passes all = elim (cases-bool (same_text name before)) [
    | inl hit ↦ rw hit all
    | inr miss ↦ rw miss (name_sound names name marks test passes all)
  ]

  more_raises : (before : List ℕ) (reads : List Need) (marks : List Mark) → Raises names marks (with_more names before reads marks)
  more_raises before [] marks = raises_itself names marks
  more_raises before (need ∷ reads) marks =
      let one : List Mark = with_unless names before need.member.table marks in
      raises_more names marks one (with_more names need.member.table reads one)
      (unless_raises before need.member.table marks) (more_raises need.member.table reads one)

  more_there : (before : List ℕ) (reads : List Need) (marks : List Mark) → length marks ≡ length names
      → (is_in names before ≡ true → name_taken names marks before ≡ true)
      → (name : List ℕ) → is_in (tables_in reads) name ≡ true → is_in names name ≡ true
      → name_taken names (with_more names before reads marks) name ≡ true
  more_there before [] marks long last name is there = cc
  more_there before (need ∷ reads) marks long last name is there =
      let table : List ℕ = need.member.table in
      let one : List Mark = with_unless names before table marks in
      let mine : is_in names table ≡ true → name_taken names one table ≡ true = unless_there before table marks long last in
      elim (or-cases (same_text name table) (is_in (tables_in reads) name) is) [
        | inl here ↦
            let same : name ≡ table = bytes_eq-true name table here in
            (more_raises table reads one).keeps name
            (ap (name_taken names one) same ∙ mine (ap (is_in names) (sym same) ∙ there))
        | inr more ↦ more_there table reads one ((unless_raises before table marks).long ∙ long) mine name more there
      ]

  more_sound : (test : List ℕ → Bool) (before : List ℕ) (reads : List Need) (marks : List Mark)
      → ((name : List ℕ) → is_in (tables_in reads) name ≡ true → is_in names name ≡ true → test name ≡ true)
      → AllSound test names marks → AllSound test names (with_more names before reads marks)
  more_sound test before [] marks passes all = all
  more_sound test before (need ∷ reads) marks passes all =
      let table : List ℕ = need.member.table in
      more_sound test table reads (with_unless names before table marks)
      (λ name is there. passes name (or-right (same_text name table) (is_in (tables_in reads) name) is) there)
      (unless_sound test before table marks
      (λ there. passes table (or-left (same_text table table) (is_in (tables_in reads) table) (bytes_eq-itself table)) there) all)

  reads_raise : (reads : List Need) (marks : List Mark) → Raises names marks (with_reads names reads marks)
  reads_raise [] marks = raises_itself names marks
  reads_raise (need ∷ reads) marks =
      let one : List Mark = with_name names need.member.table marks in
      raises_more names marks one (with_more names need.member.table reads one)
      (name_raises names need.member.table marks) (more_raises need.member.table reads one)

  reads_there : (reads : List Need) (marks : List Mark) → length marks ≡ length names
      → (name : List ℕ) → is_in (tables_in reads) name ≡ true → is_in names name ≡ true
      → name_taken names (with_reads names reads marks) name ≡ true
  reads_there [] marks long name is there = cc
  reads_there (need ∷ reads) marks long name is there =
      let table : List ℕ = need.member.table in
      let one : List Mark = with_name names table marks in
      let mine : is_in names table ≡ true → name_taken names one table ≡ true = name_there names table marks long in
      elim (or-cases (same_text name table) (is_in (tables_in reads) name) is) [
        | inl here ↦
            let same : name ≡ table = bytes_eq-true name table here in
            (more_raises table reads one).keeps name
            (ap (name_taken names one) same ∙ mine (ap (is_in names) (sym same) ∙ there))
        | inr more ↦ more_there table reads one ((name_raises names table marks).long ∙ long) mine name more there
      ]

  reads_sound : (test : List ℕ → Bool) (reads : List Need) (marks : List Mark)
      → ((name : List ℕ) → is_in (tables_in reads) name ≡ true → is_in names name ≡ true → test name ≡ true)
      → AllSound test names marks → AllSound test names (with_reads names reads marks)
  reads_sound test [] marks passes all = all
  reads_sound test (need ∷ reads) marks passes all =
      let table : List ℕ = need.member.table in
      more_sound test table reads (with_name names table marks)
      (λ name is there. passes name (or-right (same_text name table) (is_in (tables_in reads) name) is) there)
      (name_sound names table marks test
      (λ there. passes table (or-left (same_text table table) (is_in (tables_in reads) table) (bytes_eq-itself table)) there) all)

-- ---- a table that waits is done

abbrev pub waits_at : List Mark → ℕ → Bool
waits_at [] place = false
waits_at (m ∷ ms) zero = is_waiting m
waits_at (m ∷ ms) (suc place) = waits_at ms place

pub waiting-at : (marks : List Mark) (place : ℕ) → position is_waiting marks ≡ Some place → waits_at marks place ≡ true
waiting-at [] place is = cc
waiting-at (m ∷ ms) place is = elim (cases-bool (is_waiting m)) [
  | inl hit ↦
      let same : 0 ≡ place = same-some 0 place (sym (position-here is_waiting m ms hit) ∙ is) in
      subst (λ (n : ℕ). waits_at (m ∷ ms) n ≡ true) same hit
  | inr miss ↦ by (position is_waiting ms) refl (sym (position-later is_waiting m ms miss) ∙ is) (λ k there. waiting-at ms k there)
]
  where
    by : (o : Option ℕ) → position is_waiting ms ≡ o → option_map suc o ≡ Some place
        → ((k : ℕ) → position is_waiting ms ≡ Some k → waits_at ms k ≡ true) → waits_at (m ∷ ms) place ≡ true
    by None there wrong again = cc
    by (Some k) there found again =
        subst (λ (n : ℕ). waits_at (m ∷ ms) n ≡ true) (same-some (suc k) place found) (again k there)

none_waits : (marks : List Mark) → position is_waiting marks ≡ None → list_any is_waiting marks ≡ false
none_waits [] is = refl
none_waits (m ∷ ms) is = elim (cases-bool (is_waiting m)) [
  | inl hit ↦ absurd (none-some 0 (sym is ∙ position-here is_waiting m ms hit))
  | inr miss ↦
      rw miss (none_waits ms (by (position is_waiting ms) (sym (position-later is_waiting m ms miss) ∙ is)))
]
  where
    by : (o : Option ℕ) → option_map suc o ≡ None → o ≡ None
    by None none = refl
    by (Some k) none = cc

pub waits-within : (marks : List Mark) (place : ℕ) → waits_at marks place ≡ true → place < length marks
waits-within [] place is = cc
waits-within (m ∷ ms) zero is = omega arith
waits-within (m ∷ ms) (suc place) is = omega (arith, waits-within ms place is)

set_long : (marks : List Mark) (place : ℕ) → length (slice_set marks place Done) ≡ length marks
set_long [] place = refl
set_long (m ∷ ms) zero = refl
set_long (m ∷ ms) (suc place) = ap suc (set_long ms place)

set_keeps : (names : List (List ℕ)) (marks : List Mark) (place : ℕ) (name : List ℕ) → name_taken names marks name ≡ true
    → name_taken names (slice_set marks place Done) name ≡ true
set_keeps [] marks place name is = is
set_keeps (n ∷ ns) [] place name is = is
set_keeps (n ∷ ns) (m ∷ ms) zero name is = elim (cases-bool (same_text name n)) [
  | inl hit ↦ rw hit refl
  | inr miss ↦ rw miss (rw miss at is)
]
set_keeps (n ∷ ns) (m ∷ ms) (suc place) name is = elim (cases-bool (same_text name n)) [
  | inl hit ↦ rw hit (rw hit at is)
  | inr miss ↦ rw miss (set_keeps ns ms place name (rw miss at is))
]

set_sound : (test : List ℕ → Bool) (names : List (List ℕ)) (marks : List Mark) (place : ℕ) → waits_at marks place ≡ true
    → AllSound test names marks → AllSound test names (slice_set marks place Done)
set_sound test [] marks place waits all = tt
set_sound test (n ∷ ns) [] place waits all = tt
set_sound test (n ∷ ns) (m ∷ ms) zero waits all = (λ is. all.0 (waiting_taken m waits), all.1)
set_sound test (n ∷ ns) (m ∷ ms) (suc place) waits all = (all.0, set_sound test ns ms place waits all.1)

set_all : (test : List ℕ → Bool) (names : List (List ℕ)) (marks : List Mark) (place : ℕ) → AreTaken test names marks
    → AreTaken test names (slice_set marks place Done)
set_all test [] marks place all = tt
set_all test (n ∷ ns) [] place all = tt
set_all test (n ∷ ns) (m ∷ ms) zero all = (λ is. refl, all.1)
set_all test (n ∷ ns) (m ∷ ms) (suc place) all = (all.0, set_all test ns ms place all.1)

-- ---- parents of those that are done

abbrev foreigns_in : List Schema → ℕ → List Foreign
foreigns_in schemas place = option_map_or (λ (s : Schema). s.foreign) (slice_get schemas place) []

closed_weaker : (P Q : List ℕ → Type 0) → ((name : List ℕ) → P name → Q name) → (schemas : List Schema) (marks : List Mark)
    → AreClosed P schemas marks → AreClosed Q schemas marks
closed_weaker P Q weaker [] marks all = tt
closed_weaker P Q weaker (s ∷ ss) [] all = tt
closed_weaker P Q weaker (s ∷ ss) (m ∷ ms) all =
    (λ done name refers. weaker name (all.0 done name refers), closed_weaker P Q weaker ss ms all.1)

closed_set : (P : List ℕ → Type 0) (schemas : List Schema) (marks : List Mark) (place : ℕ)
    → ((name : List ℕ) → is_in (parents_in (foreigns_in schemas place)) name ≡ true → P name)
    → AreClosed P schemas marks → AreClosed P schemas (slice_set marks place Done)
closed_set P [] marks place new all = tt
closed_set P (s ∷ ss) [] place new all = tt
closed_set P (s ∷ ss) (m ∷ ms) zero new all = (λ done name refers. new name refers, all.1)
closed_set P (s ∷ ss) (m ∷ ms) (suc place) new all = (all.0, closed_set P ss ms place new all.1)

closed_done : (P : List ℕ → Type 0) (schemas : List Schema) (a b : List Mark) → map is_done a ≡ map is_done b
    → AreClosed P schemas a → AreClosed P schemas b
closed_done P [] a b same all = tt
closed_done P (s ∷ ss) a [] same all = tt
closed_done P (s ∷ ss) [] (n ∷ ns) same all = cc
closed_done P (s ∷ ss) (m ∷ ms) (n ∷ ns) same all =
    let one : is_done m ≡ is_done n = cc in
    let more : map is_done ms ≡ map is_done ns = cc in
    (λ done name refers. all.0 (one ∙ done) name refers, closed_done P ss ms ns more all.1)

-- of each table that passes a test those that are there pass it to which it refers
abbrev AllParents : (List ℕ → Bool) → List (List ℕ) → List (List ℕ) → List Schema → Type 0
AllParents test all [] schemas = Unit {0}
AllParents test all (n ∷ ns) [] = Unit {0}
AllParents test all (n ∷ ns) (s ∷ ss) =
    (test n ≡ true → (name : List ℕ) → refers_to s name ≡ true → is_in all name ≡ true → test name ≡ true)
    × AllParents test all ns ss

parents_at : (test : List ℕ → Bool) (all names : List (List ℕ)) (schemas : List Schema) (marks : List Mark) (place : ℕ)
    → length names ≡ length schemas → AllParents test all names schemas → AllSound test names marks → waits_at marks place ≡ true
    → (name : List ℕ) → is_in (parents_in (foreigns_in schemas place)) name ≡ true → is_in all name ≡ true → test name ≡ true
parents_at test all [] [] marks place paired parents sound waits name refers there = cc
parents_at test all [] (s ∷ ss) marks place paired parents sound waits name refers there = absurd (omega (arith, paired))
parents_at test all (n ∷ ns) [] marks place paired parents sound waits name refers there = absurd (omega (arith, paired))
parents_at test all (n ∷ ns) (s ∷ ss) [] place paired parents sound waits name refers there = cc
parents_at test all (n ∷ ns) (s ∷ ss) (m ∷ ms) zero paired parents sound waits name refers there =
    parents.0 (sound.0 (waiting_taken m waits)) name refers there
parents_at test all (n ∷ ns) (s ∷ ss) (m ∷ ms) (suc place) paired parents sound waits name refers there =
    parents_at test all ns ss ms place (omega (arith, paired)) parents.1 sound.1 waits name refers there

-- ---- names and schemas

in_zip : (name : List ℕ) (names : List (List ℕ)) (schemas : List Schema) → length names ≡ length schemas → is_in names name ≡ true
    → (schema : Schema) × Among (name, schema) (zip names schemas)
in_zip name [] schemas paired is = cc
in_zip name (n ∷ ns) [] paired is = absurd (omega (arith, paired))
in_zip name (n ∷ ns) (s ∷ ss) paired is = elim (or-cases (same_text name n) (is_in ns name) is) [
  | inl here ↦ (s, inl (λ j. (bytes_eq-true name n here j, s)))
  | inr more ↦ let rest = in_zip name ns ss (omega (arith, paired)) more in (rest.0, inr rest.1)
]

among_in : (t : NamedSchema) (names : List (List ℕ)) (schemas : List Schema) → Among t (zip names schemas) → is_in names t.0 ≡ true
among_in t [] schemas here = absurd here
among_in t (n ∷ ns) [] here = absurd here
among_in t (n ∷ ns) (s ∷ ss) (inl same) =
    or-left (same_text t.0 n) (is_in ns t.0) (ap (λ (u : NamedSchema). same_text t.0 u.0) (sym same) ∙ bytes_eq-itself t.0)
among_in t (n ∷ ns) (s ∷ ss) (inr more) = or-right (same_text t.0 n) (is_in ns t.0) (among_in t ns ss more)

zip_long : (names : List (List ℕ)) (schemas : List Schema) → length (zip names schemas) ≤ length names
zip_long [] schemas = omega arith
zip_long (n ∷ ns) [] = omega arith
zip_long (n ∷ ns) (s ∷ ss) = omega (arith, zip_long ns ss)

-- ---- marks of a statement

module _ (first : List (List ℕ)) (catalog : Catalog) (paired : length catalog.names ≡ length catalog.schemas) where
  abbrev all_names : List (List ℕ)
  all_names = catalog.names

  abbrev all_tables : List NamedSchema
  all_tables = zip catalog.names catalog.schemas

  abbrev asked_by : List ℕ → Bool
  asked_by = is_in (with_parents first catalog)

  few : length all_tables < suc (length all_names)
  few = omega (arith, zip_long all_names catalog.schemas)

  parents_of : (ns : List (List ℕ)) (ss : List Schema) → ((t : NamedSchema) → Among t (zip ns ss) → Among t all_tables) → AllParents asked_by all_names ns ss
  parents_of [] ss within = tt
  parents_of (n ∷ ns) [] within = tt
  parents_of (n ∷ ns) (s ∷ ss) within = (
    λ passes name refers there.
        let parent = in_zip name all_names catalog.schemas paired there in
        parents_taken (suc (length all_names)) first all_tables few (n, s) (name, parent.0) (within (n, s) (inl refl)) parent.1
        (ap (list_any (same_text name)) (append-nil (parents_in s.foreign)) ∙ refers) passes,
    parents_of ns ss (λ t among. within t (inr among)),
  )

  -- a table whose parents are taken
  pub finish-keeps : (marks : List Mark) (place : ℕ) → waits_at marks place ≡ true → AreMarks first catalog marks
      → AreMarks first catalog (marks_with_parents catalog place marks)
  finish-keeps marks place waits is =
      let foreigns : List Foreign = foreigns_at catalog place in
      let set : List Mark = slice_set marks place Done in
      let end : List Mark = marks_with_parents catalog place marks in
      let raises = parents_raise all_names foreigns set in
      let long : length set ≡ length all_names = set_long marks place ∙ is.long in
      record {
        long = raises.long ∙ long;
        sound = parents_sound all_names asked_by foreigns set
            (parents_at asked_by all_names all_names catalog.schemas marks place paired (parents_of all_names catalog.schemas (λ t among. among)) is.sound waits)
            (set_sound asked_by all_names marks place waits is.sound);
        named = parents_all all_names (is_in first) foreigns set (set_all (is_in first) all_names marks place is.named);
        closed = closed_done (IsTaken all_names end) catalog.schemas set end (sym raises.dones)
            (closed_set (IsTaken all_names end) catalog.schemas marks place
            (λ name refers there. parents_there all_names foreigns set long name refers there)
            (closed_weaker (IsTaken all_names marks) (IsTaken all_names end)
            (λ name was there. raises.keeps name (set_keeps all_names marks place name (was there))) catalog.schemas marks is.closed));
      }

-- how many aren't done
pub undone-fewer : (marks : List Mark) (place : ℕ) → waits_at marks place ≡ true
    → length (filter not (map is_done (slice_set marks place Done))) < length (filter not (map is_done marks))
undone-fewer [] place waits = cc
undone-fewer (m ∷ ms) zero waits =
    let undone : is_done m ≡ false = waiting m waits in
    rw undone (omega arith)
  where
    waiting : (mark : Mark) → is_waiting mark ≡ true → is_done mark ≡ false
    waiting Left is = refl
    waiting Taken is = refl
    waiting Done is = cc
undone-fewer (m ∷ ms) (suc place) waits = by (is_done m) (undone-fewer ms place waits)
  where
    by : (b : Bool) → length (filter not (map is_done (slice_set ms place Done))) < length (filter not (map is_done ms))
        → length (filter not (b ∷ map is_done (slice_set ms place Done))) < length (filter not (b ∷ map is_done ms))
    by true fewer = fewer
    by false fewer = omega (arith, fewer)

pub marks_with_parents-fewer : (catalog : Catalog) (marks : List Mark) (place : ℕ) → waits_at marks place ≡ true
    → length (filter not (map is_done (marks_with_parents catalog place marks))) < length (filter not (map is_done marks))
marks_with_parents-fewer catalog marks place waits =
    let same : map is_done (marks_with_parents catalog place marks) ≡ map is_done (slice_set marks place Done) =
    (parents_raise catalog.names (foreigns_at catalog place) (slice_set marks place Done)).dones in
    omega (arith, ap (λ (l : List Bool). length (filter not l)) same, undone-fewer marks place waits)

-- ---- distinct names

skip_other : (n : List ℕ) (b : Bool) (f : List ℕ → Bool) (ks : List (List ℕ)) → list_any (same_text n) ks ≡ false
    → map (λ k. if same_text k n then b else f k) ks ≡ map f ks
skip_other n b f [] apart = refl
skip_other n b f (k ∷ ks) apart =
    let both = or-parts (same_text n k) (list_any (same_text n) ks) apart in
    let other : same_text k n ≡ false = turned k n both.0 in
    λ j. (if other j then b else f k) ∷ skip_other n b f ks both.1 j
  where
    turned : (x y : List ℕ) → same_text y x ≡ false → same_text x y ≡ false
    turned x y differs = elim (cases-bool (same_text x y)) [
      | inl hit ↦
          let same : x ≡ y = bytes_eq-true x y hit in
          absurd (false≢true (sym differs ∙ ap (same_text y) same ∙ bytes_eq-itself y))
      | inr miss ↦ miss
    ]

-- the mark of a name is that at its place
by_place : (names : List (List ℕ)) (marks : List Mark) → AreDistinct names → length marks ≡ length names
    → map (name_taken names marks) names ≡ map is_taken marks
by_place [] [] distinct long = refl
by_place [] (m ∷ ms) distinct long = absurd (omega (arith, long))
by_place (n ∷ ns) [] distinct long = absurd (omega (arith, long))
by_place (n ∷ ns) (m ∷ ms) distinct long =
    let here : same_text n n ≡ true = bytes_eq-itself n in
    let rest : map (name_taken (n ∷ ns) (m ∷ ms)) ns ≡ map (name_taken ns ms) ns = skip_other n (is_taken m) (name_taken ns ms) ns distinct.0 in
    λ j. (if here j then is_taken m else name_taken ns ms n)
    ∷ (rest ∙ by_place ns ms distinct.1 (omega (arith, long))) j

-- so what is taken by its name is taken at its place
all_by_name : (test by : List ℕ → Bool) (names : List (List ℕ)) (marks : List Mark) → map by names ≡ map is_taken marks
    → ((name : List ℕ) → is_in names name ≡ true → test name ≡ true → by name ≡ true) → AreTaken test names marks
all_by_name test by [] marks same passes = tt
all_by_name test by (n ∷ ns) [] same passes = tt
all_by_name test by (n ∷ ns) (m ∷ ms) same passes =
    let one : by n ≡ is_taken m = cc in
    let more : map by ns ≡ map is_taken ms = cc in (
      λ is. sym one ∙ passes n (or-left (same_text n n) (is_in ns n) (bytes_eq-itself n)) is,
      all_by_name test by ns ms more (λ name there is. passes name (or-right (same_text name n) (is_in ns name) there) is),
    )

-- ---- the first marks

module _ (s : Statement) where
  first_taken : (names : List (List ℕ)) (name : List ℕ) → is_in names name ≡ true → is_in (tables_of s) name ≡ true
      → name_taken names (map (first_mark s) names) name ≡ true
  first_taken [] name there is = cc
  first_taken (n ∷ ns) name there is = elim (cases-bool (same_text name n)) [
    | inl hit ↦
        let same : name ≡ n = bytes_eq-true name n hit in
        let own : names_table s n ≡ true = ap (names_table s) (sym same) ∙ is in
        rw hit (ap (λ (b : Bool). is_taken (if b then Taken else Left)) own)
    | inr miss ↦ rw miss (first_taken ns name (rw miss at there) is)
  ]

  first_sound : (test : List ℕ → Bool) (names : List (List ℕ))
      → ((name : List ℕ) → is_in names name ≡ true → is_in (tables_of s) name ≡ true → test name ≡ true)
      → AllSound test names (map (first_mark s) names)
  first_sound test [] passes = tt
  first_sound test (n ∷ ns) passes = (
    λ is. passes n (or-left (same_text n n) (is_in ns n) (bytes_eq-itself n)) (named (names_table s n) is),
    first_sound test ns (λ name there is. passes name (or-right (same_text name n) (is_in ns name) there) is),
  )
    where
      named : (b : Bool) → is_taken (if b then Taken else Left) ≡ true → b ≡ true
      named true is = refl
      named false is = cc

  none_done : (P : List ℕ → Type 0) (names : List (List ℕ)) (schemas : List Schema) → AreClosed P schemas (map (first_mark s) names)
  none_done P names [] = tt
  none_done P [] (sc ∷ ss) = tt
  none_done P (n ∷ ns) (sc ∷ ss) = (λ done name refers. absurd (false≢true (sym (undone (names_table s n)) ∙ done)), none_done P ns ss)
    where
      undone : (b : Bool) → is_done (if b then Taken else Left) ≡ false
      undone true = refl
      undone false = refl

  module _ (reads : List Need) (catalog : Catalog) (paired : length catalog.names ≡ length catalog.schemas) (distinct : AreDistinct catalog.names) where
    abbrev start : List Mark
    start = map (first_mark s) catalog.names

    abbrev firsts : List (List ℕ)
    firsts = names_first s reads

    -- what is asked first and there is one of the tables with their parents
    asked_there : (name : List ℕ) → is_in catalog.names name ≡ true → is_in firsts name ≡ true
        → is_in (with_parents firsts catalog) name ≡ true
    asked_there name there is =
        let found = in_zip name catalog.names catalog.schemas paired there in
        taken_soon (suc (length catalog.names)) firsts (zip catalog.names catalog.schemas) (omega arith) (name, found.0) found.1 is

    in_left : (name : List ℕ) → is_in (tables_of s) name ≡ true → is_in firsts name ≡ true
    in_left name is = list_any-append (same_text name) (tables_of s) (tables_in reads) ∙ or-left (is_in (tables_of s) name) (is_in (tables_in reads) name) is

    in_right : (name : List ℕ) → is_in (tables_in reads) name ≡ true → is_in firsts name ≡ true
    in_right name is = list_any-append (same_text name) (tables_of s) (tables_in reads) ∙ or-right (is_in (tables_of s) name) (is_in (tables_in reads) name) is

    pub first-marks : AreMarks firsts catalog (with_reads catalog.names reads start)
    first-marks =
        let all : List Mark = with_reads catalog.names reads start in
        let raises = reads_raise catalog.names reads start in
        let begun : length start ≡ length catalog.names = length-map catalog.names (first_mark s) in
        let long : length all ≡ length catalog.names = raises.long ∙ begun in
        record {
          long = long;
          sound = reads_sound catalog.names (is_in (with_parents firsts catalog)) reads start
              (λ name is there. asked_there name there (in_right name is))
              (first_sound (is_in (with_parents firsts catalog)) catalog.names (λ name there is. asked_there name there (in_left name is)));
          named = all_by_name (is_in firsts) (name_taken catalog.names all) catalog.names all (by_place catalog.names all distinct long)
              (λ name there is. elim (or-cases (is_in (tables_of s) name) (is_in (tables_in reads) name)
              (sym (list_any-append (same_text name) (tables_of s) (tables_in reads)) ∙ is)) [
                | inl own ↦ raises.keeps name (first_taken catalog.names name there own)
                | inr needed ↦ reads_there catalog.names reads start begun name needed there
              ]);
          closed = closed_done (IsTaken catalog.names all) catalog.schemas start all (sym raises.dones)
              (none_done (IsTaken catalog.names all) catalog.names catalog.schemas);
        }

-- ---- where no table waits

module _ (names : List (List ℕ)) (marks : List Mark) where
  abbrev at_name : List ℕ → Bool
  at_name = name_taken names marks

  named_pairs : (first : List (List ℕ)) (ns : List (List ℕ)) (ss : List Schema) (ms : List Mark) → map at_name ns ≡ map is_taken ms
      → AreTaken (is_in first) ns ms → (t : NamedSchema) → Among t (zip ns ss) → is_in first t.0 ≡ true → at_name t.0 ≡ true
  named_pairs first [] ss ms same all t here is = absurd here
  named_pairs first (n ∷ ns) [] ms same all t here is = absurd here
  named_pairs first (n ∷ ns) (s ∷ ss) [] same all t here is = cc
  named_pairs first (n ∷ ns) (s ∷ ss) (m ∷ ms) same all t (inl eq) is =
      let one : at_name n ≡ is_taken m = cc in
      let name : t.0 ≡ n = ap (λ (u : NamedSchema). u.0) eq in
      ap at_name name ∙ one ∙ all.0 (ap (is_in first) (sym name) ∙ is)
  named_pairs first (n ∷ ns) (s ∷ ss) (m ∷ ms) same all t (inr more) is =
      let rest : map at_name ns ≡ map is_taken ms = cc in
      named_pairs first ns ss ms rest all.1 t more is

  closed_pairs : (ns : List (List ℕ)) (ss : List Schema) (ms : List Mark) → map at_name ns ≡ map is_taken ms
      → AreClosed (IsTaken names marks) ss ms → list_any is_waiting ms ≡ false
      → (t : NamedSchema) → Among t (zip ns ss) → at_name t.0 ≡ true → (name : List ℕ) → refers_to t.1 name ≡ true → is_in names name ≡ true → at_name name ≡ true
  closed_pairs [] ss ms same all none t here is name refers there = absurd here
  closed_pairs (n ∷ ns) [] ms same all none t here is name refers there = absurd here
  closed_pairs (n ∷ ns) (s ∷ ss) [] same all none t here is name refers there = cc
  closed_pairs (n ∷ ns) (s ∷ ss) (m ∷ ms) same all none t (inl eq) is name refers there =
      let one : at_name n ≡ is_taken m = cc in
      let undone = or-parts (is_waiting m) (list_any is_waiting ms) none in
      let own : is_taken m ≡ true = sym one ∙ ap at_name (sym (ap (λ (u : NamedSchema). u.0) eq)) ∙ is in
      all.0 (taken_done m undone.0 own) name (ap (λ (u : NamedSchema). refers_to u.1 name) (sym eq) ∙ refers) there
  closed_pairs (n ∷ ns) (s ∷ ss) (m ∷ ms) same all none t (inr more) is name refers there =
      let rest : map at_name ns ≡ map is_taken ms = cc in
      let undone = or-parts (is_waiting m) (list_any is_waiting ms) none in
      closed_pairs ns ss ms rest all.1 undone.1 t more is name refers there

-- the tables that are taken are those of the names with their parents
same_marks : (test by : List ℕ → Bool) (names : List (List ℕ)) (marks : List Mark) → map by names ≡ map is_taken marks
    → AllSound test names marks → ((name : List ℕ) → test name ≡ true → by name ≡ true) → map test names ≡ map is_taken marks
same_marks test by [] [] same sound passes = refl
same_marks test by [] (m ∷ ms) same sound passes = cc
same_marks test by (n ∷ ns) [] same sound passes = cc
same_marks test by (n ∷ ns) (m ∷ ms) same sound passes =
    let one : by n ≡ is_taken m = cc in
    let more : map by ns ≡ map is_taken ms = cc in
    let here : test n ≡ is_taken m = both_ways (test n) (is_taken m) (λ is. sym one ∙ passes n is) sound.0 in
    λ j. here j ∷ same_marks test by ns ms more sound.1 passes j

pub marks-are : (first : List (List ℕ)) (catalog : Catalog) (marks : List Mark) → length catalog.names ≡ length catalog.schemas
    → AreDistinct catalog.names → AreMarks first catalog marks → position is_waiting marks ≡ None
    → map (is_in (with_parents first catalog)) catalog.names ≡ map is_taken marks
marks-are first catalog marks paired distinct is none =
    let names : List (List ℕ) = catalog.names in
    let tables : List NamedSchema = zip catalog.names catalog.schemas in
    let by : List ℕ → Bool = name_taken names marks in
    let same : map by names ≡ map is_taken marks = by_place names marks distinct is.long in
    let waits : list_any is_waiting marks ≡ false = none_waits marks none in
    same_marks (is_in (with_parents first catalog)) by names marks same is.sound
    (close-least by tables
    (λ t u here there refers taken.
    closed_pairs names marks names catalog.schemas marks same is.closed waits t here taken u.0
    (sym (ap (list_any (same_text u.0)) (append-nil (parents_in t.1.foreign))) ∙ refers) (among_in u names catalog.schemas there))
    (suc (length names)) first tables (λ t among. among)
    (λ t among named. named_pairs names marks first names catalog.schemas marks same is.named t among named))
