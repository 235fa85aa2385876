-- The sections of a package: what is spelled is read, and what is read was spelled so.
use Rattle.std.proofs.Common.{◌≡◌, ℕ, zero, suc, ◌^◌, ◌<◌, Bool, true, false, cond, List, [], ◌∷◌, ◌++◌, length, Option, Some, None, refl, sym, ap, subst, ◌∙◌, arith, ◌&&◌}
use Rattle.std.specs.Prelude.{◌==◌}
use Rattle.std.specs.List.{list_all, AllByRecursion}
use Rattle.std.specs.Str.{IsUtf8}
use Rattle.std.specs.Int.{w8, w16, w32, w64, to_be_bytes}
use Rattle.std.proofs.lemmas.Bool.{eqb-true}
use Rattle.std.proofs.lemmas.List.{append-nil, nil_from_length}
use Rattle.ldv_value.proofs.Options.{bind-some, same-some}
use Rattle.run_model.specs.declared.package.Mode.{Mode}
use Rattle.run_model.specs.declared.package.Mode.TheVariants.{Included, Excluded}
use Rattle.run_model.specs.declared.package.PackedFile.{PackedFile}
use Rattle.run_model.specs.declared.package.PackedTable.{PackedTable}
use Rattle.run_model.specs.declared.package.Log.{Log}
use Rattle.run_model.specs.declared.event.Event.{Event}
use Rattle.run_model.specs.declared.package.Package.{Package}
use Rattle.package_codec.specs.Fields.{DecodeResult, both_at, number_at, list_at, list_spelling}
use Rattle.package_codec.specs.Spelling.{file_spelling, table_spelling, log_spelling}
use Rattle.package_layout.specs.inner.Bare.{IsTypedBare}
use Rattle.package_codec.specs.Plain.{has_tables}
use Rattle.package_codec.specs.Typed.{IsU32, TypedFile, TypedTable, TypedLog}
use Rattle.package_codec.specs.Room.{fits_u16_count, table_room, log_room}
use Rattle.package_codec.specs.Counts.{IsCountable, CountedList, CountedFile, CountedTable, CountedLog}
use Rattle.package_layout.specs.Counted.{CountedTrace, IsCounted}
use Rattle.package_codec.specs.Runs.{max_events, few_events, trace_room}
use Rattle.package_codec.proofs.RunFields.{runs_law}
use Rattle.std.specs.Prelude.{nat_le}
use Rattle.ldv_value.proofs.Booleans.{and-parts, and-from}
use Rattle.ldv_value.proofs.Lists.{list_all-both}
use Rattle.package_codec.specs.Reading.{file_at, table_at, log_at}
use Rattle.package_codec.specs.Events.{names_spelling, names_at, event_spelling, TypedEvent, event_room, event_at}
use Rattle.package_codec.specs.declared.version.Version.{Version}
use Rattle.package_codec.specs.declared.version.Version.TheVariants.{One, Two}
use Rattle.package_layout.specs.Whole.{mode_number, mode_spelling, mode_of, mode_at, trace_spelling, trace_at, bytes_before_trace, bare_at, sections, IsTyped, tables_room, has_room, sections_at, all_of}
use Rattle.package_codec.specs.CompactPackages.{with_events}
use Rattle.package_codec.proofs.Laws.{number_is, IsBytes, IsBytes-rest, IsField, just, always, list_all-always, Uncounted, restate, recount, made_law, then_law}
use Rattle.package_codec.proofs.Numbers.{wide8, wide64, number_law, short_list_law, long_law}
use Rattle.package_codec.proofs.Tables.{Anything, u32_law, has_of, table_fits, table_law}
use Rattle.package_codec.proofs.Values.{file_law, file_filled}
use Rattle.package_codec.proofs.Logs.{log_law, log_filled}
use Rattle.package_codec.proofs.Events.{names_law, event_law, event_filled}

mode_again : (m : Mode) → (mode_number m < 256) × (true ≡ true) × (mode_of (mode_number m) ≡ Some m)
mode_again Included = (omega arith, refl, refl)
mode_again Excluded = (omega arith, refl, refl)

mode_back : (n : ℕ) (m : Mode) → mode_of n ≡ Some m → n ≡ mode_number m
mode_back zero m e = absurd cc
mode_back (suc zero) m e = number_is mode_number 1 Included m refl e
mode_back (suc (suc zero)) m e = number_is mode_number 2 Excluded m refl e
mode_back (suc (suc (suc n))) m e = absurd cc

mode_law : IsField mode_spelling Anything always Uncounted mode_at
mode_law = made_law (to_be_bytes w8) (λ n. n < 256) always (number_at w8) Anything always mode_of mode_number (number_law w8 256 wide8)
    (λ m t f. mode_again m) (λ n m t f e. (mode_back n m e, tt, refl))

pub files_law : IsField (list_spelling w32 file_spelling) (AllByRecursion TypedFile) always (CountedList CountedFile) (list_at w32 file_at)
files_law = restate (list_spelling w32 file_spelling) (AllByRecursion TypedFile) (AllByRecursion TypedFile) (list_all always) always (list_at w32 file_at) (long_law file_spelling TypedFile always file_at file_law file_filled)
    (λ fs t h. (t, list_all-always fs)) (λ fs t h. (t, refl))

abbrev tables_fit : Version → List PackedTable → Bool
tables_fit v ts = fits_u16_count ts && list_all (table_fits v) ts

tables_law : (v : Version) → IsField (list_spelling w16 (table_spelling v)) (AllByRecursion TypedTable) (tables_fit v) (AllByRecursion (CountedTable v)) (list_at w16 (table_at v))
tables_law v = short_list_law (table_spelling v) TypedTable (table_fits v) (table_at v) (table_law v)

logs_law : IsField (list_spelling w32 log_spelling) (AllByRecursion TypedLog) (list_all log_room) (CountedList CountedLog) (list_at w32 log_at)
logs_law = long_law log_spelling TypedLog log_room log_at log_law log_filled

few_is : (es fs : List Event) (b : Bool) → nat_le (length es) max_events ≡ b → cond b (Some es) None ≡ Some fs → (es ≡ fs) × (nat_le (length fs) max_events ≡ true)
few_is es fs true is e = let same : es ≡ fs = same-some es fs e in (same, ap (λ (l : List Event). nat_le (length l) max_events) (sym same) ∙ is)
few_is es fs false is e = absurd cc

events_law : (v : Version) → IsField (trace_spelling v) (AllByRecursion TypedEvent) trace_room (CountedTrace v) (trace_at v)
events_law One = made_law (list_spelling w32 event_spelling) (AllByRecursion TypedEvent) (list_all event_room) (list_at w32 event_at) (AllByRecursion TypedEvent) trace_room few_events (λ es. es)
    (long_law event_spelling TypedEvent event_room event_at event_law event_filled)
    (λ es t h. let both = and-parts (nat_le (length es) max_events) (list_all event_room es) h in (t, both.1, rw both.0 refl))
    (λ es fs t h e.
    let is = few_is es fs (nat_le (length es) max_events) refl e in
    (is.0, subst (AllByRecursion TypedEvent) is.0 t, and-from (nat_le (length fs) max_events) (list_all event_room fs) is.1 (ap (list_all event_room) (sym is.0) ∙ h)))
events_law Two = runs_law

-- ---- all but the trace, from the last to the first

abbrev P6 : Type 0
P6 = List PackedTable × List Log

abbrev P5 : Type 0
P5 = List PackedFile × P6

abbrev P4 : Type 0
P4 = ℕ × P5

abbrev P3 : Type 0
P3 = ℕ × P4

abbrev P2 : Type 0
P2 = List (List ℕ) × P3

abbrev P1 : Type 0
P1 = Mode × P2

abbrev s6 : Version → P6 → List ℕ
s6 v p = list_spelling w16 (table_spelling v) p.0 ++ list_spelling w32 log_spelling p.1

abbrev s5 : Version → P5 → List ℕ
s5 v p = list_spelling w32 file_spelling p.0 ++ s6 v p.1

abbrev s4 : Version → P4 → List ℕ
s4 v p = to_be_bytes w32 p.0 ++ s5 v p.1

abbrev s3 : Version → P3 → List ℕ
s3 v p = to_be_bytes w64 p.0 ++ s4 v p.1

abbrev s2 : Version → P2 → List ℕ
s2 v p = names_spelling p.0 ++ s3 v p.1

abbrev s1 : Version → P1 → List ℕ
s1 v p = mode_spelling p.0 ++ s2 v p.1

abbrev t6 : P6 → Type 0
t6 p = AllByRecursion TypedTable p.0 × AllByRecursion TypedLog p.1

abbrev t5 : P5 → Type 0
t5 p = AllByRecursion TypedFile p.0 × t6 p.1

abbrev t4 : P4 → Type 0
t4 p = IsU32 p.0 × t5 p.1

abbrev t3 : P3 → Type 0
t3 p = (p.0 < 2 ^ 64) × t4 p.1

abbrev t2 : P2 → Type 0
t2 p = AllByRecursion IsUtf8 p.0 × t3 p.1

abbrev t1 : P1 → Type 0
t1 p = Unit {0} × t2 p.1

abbrev c6 : Version → P6 → Type 0
c6 v p = AllByRecursion (CountedTable v) p.0 × CountedList CountedLog p.1

abbrev c5 : Version → P5 → Type 0
c5 v p = CountedList CountedFile p.0 × c6 v p.1

abbrev c4 : Version → P4 → Type 0
c4 v p = Unit {0} × c5 v p.1

abbrev c3 : Version → P3 → Type 0
c3 v p = Unit {0} × c4 v p.1

abbrev c2 : Version → P2 → Type 0
c2 v p = AllByRecursion IsCountable p.0 × c3 v p.1

abbrev c1 : Version → P1 → Type 0
c1 v p = Unit {0} × c2 v p.1

abbrev f6 : Version → P6 → Bool
f6 v p = tables_fit v p.0 && list_all log_room p.1

abbrev f5 : Version → P5 → Bool
f5 v p = f6 v p.1

abbrev f4 : Version → P4 → Bool
f4 v p = f5 v p.1

abbrev f3 : Version → P3 → Bool
f3 v p = f4 v p.1

abbrev f2 : Version → P2 → Bool
f2 v p = fits_u16_count p.0 && f3 v p.1

abbrev f1 : Version → P1 → Bool
f1 v p = f2 v p.1

abbrev r6 : Version → List ℕ → DecodeResult P6
r6 v = both_at (list_at w16 (table_at v)) (list_at w32 log_at)

abbrev r5 : Version → List ℕ → DecodeResult P5
r5 v = both_at (list_at w32 file_at) (r6 v)

abbrev r4 : Version → List ℕ → DecodeResult P4
r4 v = both_at (number_at w32) (r5 v)

abbrev r3 : Version → List ℕ → DecodeResult P3
r3 v = both_at (number_at w64) (r4 v)

abbrev r2 : Version → List ℕ → DecodeResult P2
r2 v = both_at names_at (r3 v)

abbrev r1 : Version → List ℕ → DecodeResult P1
r1 v = both_at mode_at (r2 v)

l6 : (v : Version) → IsField (s6 v) t6 (f6 v) (c6 v) (r6 v)
l6 v = then_law (list_spelling w16 (table_spelling v)) (AllByRecursion TypedTable) (tables_fit v) (list_at w16 (table_at v)) (list_spelling w32 log_spelling) (AllByRecursion TypedLog) (λ a. list_all log_room) (λ a. list_at w32 log_at) (tables_law v) (λ a. logs_law)

l5 : (v : Version) → IsField (s5 v) t5 (f5 v) (c5 v) (r5 v)
l5 v = then_law (list_spelling w32 file_spelling) (AllByRecursion TypedFile) always (list_at w32 file_at) (s6 v) t6 (λ a. f6 v) (λ a. r6 v) files_law (λ a. l6 v)

l4 : (v : Version) → IsField (s4 v) t4 (f4 v) (c4 v) (r4 v)
l4 v = then_law (to_be_bytes w32) IsU32 always (number_at w32) (s5 v) t5 (λ a. f5 v) (λ a. r5 v) u32_law (λ a. l5 v)

l3 : (v : Version) → IsField (s3 v) t3 (f3 v) (c3 v) (r3 v)
l3 v = then_law (to_be_bytes w64) (λ n. n < 2 ^ 64) always (number_at w64) (s4 v) t4 (λ a. f4 v) (λ a. r4 v) (number_law w64 (2 ^ 64) wide64) (λ a. l4 v)

l2 : (v : Version) → IsField (s2 v) t2 (f2 v) (c2 v) (r2 v)
l2 v = then_law names_spelling (AllByRecursion IsUtf8) fits_u16_count names_at (s3 v) t3 (λ a. f3 v) (λ a. r3 v) names_law (λ a. l3 v)

l1 : (v : Version) → IsField (s1 v) t1 (f1 v) (c1 v) (r1 v)
l1 v = then_law mode_spelling Anything always mode_at (s2 v) t2 (λ a. f2 v) (λ a. r2 v) mode_law (λ a. l2 v)

abbrev make : P1 → Package
make p = record { mode = p.0; start = p.1.0; seed = p.1.1.0; steps = p.1.1.1.0; files = p.1.1.1.1.0; tables = p.1.1.1.1.1.0; logs = p.1.1.1.1.1.1; events = [] }

abbrev back : Package → P1
back p = (p.mode, (p.start, (p.seed, (p.steps, (p.files, (p.tables, p.logs))))))

-- a package without events
abbrev IsBare : Package → Type 0
IsBare p = IsTypedBare p × (p.events ≡ [])

abbrev bare_room : Version → Package → Bool
bare_room v p = f1 v (back p)

abbrev BareCounted : Version → Package → Type 0
BareCounted v p = c1 v (back p)

made_again : (p : Package) → p.events ≡ [] → make (back p) ≡ p
made_again p none = λ j. with_events p (sym none j)

bare_law : (v : Version) → IsField (bytes_before_trace v) IsBare (bare_room v) (BareCounted v) (bare_at v)
bare_law v = made_law (s1 v) t1 (f1 v) (r1 v) IsBare (bare_room v) (λ p. Some (make p)) back (l1 v)
    (λ p t h. ((tt, t.0), h, ap just (made_again p t.1)))
    (λ a p t h e.
    let is : make a ≡ p = same-some (make a) p e in
    subst (λ (q : Package). (a ≡ back q) × IsBare q × (bare_room v q ≡ true)) is (refl, (t.1, refl), h))

-- ---- the trace behind it

abbrev Sections : Type 0
Sections = Package × List Event

abbrev apart : Package → Sections
apart p = (with_events p [], p.events)

-- the format has room for the package, and the version has its tables
abbrev pub has_place : Version → Package → Bool
has_place v p =
    fits_u16_count p.start
    && (tables_fit v p.tables && (list_all log_room p.logs && trace_room p.events))

room_apart : (v : Version) (p : Package) → has_place v p ≡ true → (bare_room v p && trace_room p.events) ≡ true
room_apart v p h =
    let one = and-parts (fits_u16_count p.start) (tables_fit v p.tables && (list_all log_room p.logs && trace_room p.events)) h in
    let two = and-parts (tables_fit v p.tables) (list_all log_room p.logs && trace_room p.events) one.1 in
    let three = and-parts (list_all log_room p.logs) (trace_room p.events) two.1 in
    and-from (bare_room v p) (trace_room p.events)
    (and-from (fits_u16_count p.start) (tables_fit v p.tables && list_all log_room p.logs) one.0 (and-from (tables_fit v p.tables) (list_all log_room p.logs) two.0 three.0))
    three.1

room_joined : (v : Version) (p : Package) → bare_room v p ≡ true → trace_room p.events ≡ true → has_place v p ≡ true
room_joined v p h k =
    let one = and-parts (fits_u16_count p.start) (tables_fit v p.tables && list_all log_room p.logs) h in
    let two = and-parts (tables_fit v p.tables) (list_all log_room p.logs) one.1 in
    and-from (fits_u16_count p.start) (tables_fit v p.tables && (list_all log_room p.logs && trace_room p.events)) one.0
    (and-from (tables_fit v p.tables) (list_all log_room p.logs && trace_room p.events) two.0 (and-from (list_all log_room p.logs) (trace_room p.events) two.1 k))

typed_joined : (p : Package) → IsTypedBare p → AllByRecursion TypedEvent p.events → IsTyped p
typed_joined p t e = (t.0, (t.1.0, (t.1.1.0, (t.1.1.1.0, (t.1.1.1.1.0, (t.1.1.1.1.1, e))))))

typed_apart : (p : Package) → IsTyped p → IsTypedBare p × AllByRecursion TypedEvent p.events
typed_apart p t = ((t.0, (t.1.0, (t.1.1.0, (t.1.1.1.0, (t.1.1.1.1.0, t.1.1.1.1.1.0))))), t.1.1.1.1.1.1)

parts_again : (q : Sections) (p : Package) → q.0.events ≡ [] → with_events q.0 q.1 ≡ p → q ≡ apart p
parts_again q p none is = subst (λ (r : Package). q ≡ apart r) is (λ j. (with_events q.0 (none j), q.1))

pub sections_law : (v : Version) → IsField (sections v) IsTyped (has_place v) (IsCounted v) (sections_at v)
sections_law v = recount (IsCounted v) (made_law (λ (q : Sections). bytes_before_trace v q.0 ++ trace_spelling v q.1) (λ (q : Sections). IsBare q.0 × AllByRecursion TypedEvent q.1) (λ (q : Sections). bare_room v q.0 && trace_room q.1) (both_at (bare_at v) (trace_at v))
    IsTyped (has_place v) (λ q. Some (with_events q.0 q.1)) apart
    (then_law (bytes_before_trace v) IsBare (bare_room v) (bare_at v) (trace_spelling v) (AllByRecursion TypedEvent) (λ a. trace_room) (λ a. trace_at v) (bare_law v) (λ a. events_law v))
    (λ p t h. let both = typed_apart p t in (((both.0, refl), both.1), room_apart v p h, refl))
    (λ q p t h e.
    let is : with_events q.0 q.1 ≡ p = same-some (with_events q.0 q.1) p e in
    let room = and-parts (bare_room v q.0) (trace_room q.1) h in (
      parts_again q p t.0.1 is,
      subst IsTyped is (typed_joined (with_events q.0 q.1) t.0.0 t.1),
      subst (λ (r : Package). has_place v r ≡ true) is (room_joined v (with_events q.0 q.1) room.0 room.1),
    )))
    (λ p n. ((tt, (n.0, (tt, (tt, (n.1.0, (n.1.1.0, n.1.1.1.0)))))), n.1.1.1.1))
    (λ p n. (n.0.1.0, (n.0.1.1.1.1.0, (n.0.1.1.1.1.1.0, (n.0.1.1.1.1.1.1, n.1)))))

-- ---- room, and tables that the version has

all_both : {X : Type 0} (p q : X → Bool) (xs : List X) → list_all (λ x. p x && q x) xs ≡ true → (list_all p xs ≡ true) × (list_all q xs ≡ true)
all_both p q [] h = (refl, refl)
all_both p q (x ∷ xs) h =
    let a = and-parts (p x && q x) (list_all (λ x. p x && q x) xs) h in
    let b = and-parts (p x) (q x) a.0 in
    let more = all_both p q xs a.1 in
    (and-from (p x) (list_all p xs) b.0 more.0, and-from (q x) (list_all q xs) b.1 more.1)

foreign_of : (v : Version) (p : Package) → has_tables v p ≡ true → list_all (λ (t : PackedTable). has_of v t.schema.foreign) p.tables ≡ true
foreign_of One p h = h
foreign_of Two p h = list_all-always p.tables

of_foreign : (v : Version) (p : Package) → list_all (λ (t : PackedTable). has_of v t.schema.foreign) p.tables ≡ true → has_tables v p ≡ true
of_foreign One p h = h
of_foreign Two p h = refl

pub place_from : (v : Version) (p : Package) → has_room p ≡ true → has_tables v p ≡ true → has_place v p ≡ true
place_from v p h k =
    let rest : Bool = list_all log_room p.logs && trace_room p.events in
    let one = and-parts (fits_u16_count p.start) (tables_room p && rest) h in
    let two = and-parts (tables_room p) rest one.1 in
    let three = and-parts (fits_u16_count p.tables) (list_all table_room p.tables) two.0 in
    let each : list_all (table_fits v) p.tables ≡ true =
    list_all-both table_room (λ (t : PackedTable). has_of v t.schema.foreign) p.tables three.1 (foreign_of v p k) in
    and-from (fits_u16_count p.start) (tables_fit v p.tables && rest) one.0
    (and-from (tables_fit v p.tables) rest (and-from (fits_u16_count p.tables) (list_all (table_fits v) p.tables) three.0 each) two.1)

pub place_parts : (v : Version) (p : Package) → has_place v p ≡ true → (has_room p ≡ true) × (has_tables v p ≡ true)
place_parts v p h =
    let rest : Bool = list_all log_room p.logs && trace_room p.events in
    let one = and-parts (fits_u16_count p.start) (tables_fit v p.tables && rest) h in
    let two = and-parts (tables_fit v p.tables) rest one.1 in
    let three = and-parts (fits_u16_count p.tables) (list_all (table_fits v) p.tables) two.0 in
    let each = all_both table_room (λ (t : PackedTable). has_of v t.schema.foreign) p.tables three.1 in (
      and-from (fits_u16_count p.start) (tables_room p && rest) one.0
          (and-from (tables_room p) rest (and-from (fits_u16_count p.tables) (list_all table_room p.tables) three.0 each.0) two.1),
      of_foreign v p each.1,
    )

-- what is left behind the bare package, and that it has no events
pub bare_took : (v : Version) (bytes : List ℕ) (p : Package) (rest : List ℕ) → IsBytes bytes → bare_at v bytes ≡ Some (p, rest) → (p.events ≡ []) × IsBytes rest
bare_took v bytes p rest h e =
    let k = (bare_law v).took bytes p rest h e in
    (k.is_typed.1, IsBytes-rest (bytes_before_trace v p) rest (subst IsBytes k.parts h))

pub events_took : (bytes : List ℕ) (es : List Event) (rest : List ℕ) → IsBytes bytes → list_at w32 event_at bytes ≡ Some (es, rest) → AllByRecursion TypedEvent es
events_took bytes es rest h e = ((long_law event_spelling TypedEvent event_room event_at event_law event_filled).took bytes es rest h e).is_typed

-- ---- all of the bytes

pub all_again : (v : Version) (p : Package) → IsTyped p → has_room p ≡ true → has_tables v p ≡ true → IsCounted v p → all_of v (sections v p) ≡ Some p
all_again v p t h k n =
    let one : sections_at v (sections v p ++ []) ≡ Some (p, []) = (sections_law v).again p [] t (place_from v p h k) n in
    let two : sections_at v (sections v p) ≡ Some (p, []) = ap (sections_at v) (sym (append-nil (sections v p))) ∙ one in
    rw two refl

abbrev pub ended : Package × List ℕ → Option Package
ended x = cond (length x.1 == 0) (Some x.0) None

ended_is : (x : Package × List ℕ) (p : Package) (b : Bool) → (length x.1 == 0) ≡ b → cond b (Some x.0) None ≡ Some p → (x.0 ≡ p) × (x.1 ≡ [])
ended_is x p true e h = (same-some x.0 p h, nil_from_length x.1 (eqb-true _ _ e))
ended_is x p false e h = absurd cc

pub all_took : (v : Version) (bytes : List ℕ) (p : Package) → IsBytes bytes → all_of v bytes ≡ Some p → (bytes ≡ sections v p) × IsTyped p × (has_room p ≡ true) × IsCounted v p
all_took v bytes p h e =
    let first = bind-some (sections_at v bytes) ended p e in
    let x = first.0 in
    let k = (sections_law v).took bytes x.0 x.1 h first.1 in
    let end = ended_is x p (length x.1 == 0) refl first.2 in
    let parts : bytes ≡ sections v x.0 = k.parts ∙ ap (λ (l : List ℕ). sections v x.0 ++ l) end.1 ∙ append-nil (sections v x.0) in
    subst (λ (q : Package). (bytes ≡ sections v q) × IsTyped q × (has_room q ≡ true) × IsCounted v q) end.0
    (parts, k.is_typed, (place_parts v x.0 k.is_fit).0, k.is_counted)
