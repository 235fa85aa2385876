-- Reading with the traces as runs gives the same joined package as reading with its events.
use Rattle.std.proofs.Common.{◌≡◌, ℕ, Bool, true, false, cond, List, length, Option, Some, None, Result, Ok, Err, refl, sym, ap, subst, ◌∙◌, ◌&&◌}
use Rattle.std.specs.Prelude.{◌==◌, bytes_eq, IfOk}
use Rattle.std.specs.Option.{option_map}
use Rattle.std.specs.Int.{w32}
use Rattle.ldv_value.proofs.Booleans.{and-parts}
use Rattle.ldv_value.proofs.Options.{bind-some, same-some}
use Rattle.run_model.specs.declared.event.Event.{Event}
use Rattle.run_model.specs.ValidPackage.{rules}
use Rattle.package_codec.specs.declared.compact_package.CompactPackage.{CompactPackage}
use Rattle.package_codec.specs.Fields.{DecodeResult, ◌>>=◌, both_at, list_at}
use Rattle.package_codec.specs.CompactPackages.{expanded_package}
use Rattle.package_layout.specs.CompactReading.{compact_rules}
use Rattle.package_codec.specs.declared.version.Version.TheVariants.{Two}
use Rattle.package_codec.specs.declared.trace.event_run.EventRun.{EventRun}
use Rattle.package_codec.specs.Runs.{IsCut, are_runs, events_in, events_of_runs, runs_at}
use Rattle.package_codec.specs.Runs.{event_run_at as trace_run_at}
use Rattle.package_layout.specs.Valid.{valid_test}
use Rattle.package_layout.specs.Whole.{has_room}
use Rattle.package_codec.proofs.Laws.{IsBytes}
use Rattle.package_codec.proofs.Runs.{is_cut}
use Rattle.package_layout.proofs.RunReading.{behind}
use Rattle.package_join.specs.Types.{Package, PackedFile, Table}
use Rattle.joined_data.specs.declared.joined.Clash.{Clash}
use Rattle.joined_data.specs.declared.joined.Joined.{Joined}
use Rattle.joined_data.specs.declared.joined.JoinedRun.{JoinedRun}
use Rattle.joined_data.specs.declared.joined.Which.TheVariants.{First, Second}
use Rattle.joined_data.specs.declared.compact_joined.CompactRun.{CompactRun}
use Rattle.joined_data.specs.declared.joining.JoinStop.{JoinStop}
use Rattle.joined_data.specs.declared.joining.JoinStop.TheVariants as join_stops
use Rattle.joined_data.specs.declared.compact_joined.CompactJoined.{CompactJoined}
use Rattle.joined_data.specs.Joined.{clash_of, joined_of, put_together, unless_clash}
use Rattle.joined_data.specs.Layout.{bare_run_at, run_at, common_files_at, common_tables_at, all_of_joined, joined_sections, with_trace}
use Rattle.joined_data.specs.CompactJoins.{whole_run, whole_join, compact_run_at, compact_joined_of, compact_sections, picked_runs, with_runs, if_rejoined, join_of_packages, CompactJoinsAs, JoinsWithRuns}
use Rattle.package_join.specs.CompactValid.{compact_anew, compact_spelled_so, compact_joined_in}
use Rattle.joined_data.specs.Rooms.{joined_room}
use Rattle.package_join.specs.Valid.{if_joined, joined_anew, if_spelling_is, joined_in}
use Rattle.joined_data.proofs.CutSpellings.{cuts_spelled}
use Rattle.package_join.proofs.SectionLaws.{all_took, ended}
use Rattle.package_join.proofs.RoomLaws.{picked_room}

-- ---- a run

abbrev run_kept : CompactRun × List ℕ → DecodeResult JoinedRun
run_kept x = cond (are_runs x.0.runs) (Some (whole_run x.0, x.1)) None

abbrev paired : {X Y : Type 0} → X → Y × List ℕ → DecodeResult (X × Y)
paired x y = Some ((x, y.0), y.1)

abbrev next : {X Y : Type 0} → (List ℕ → DecodeResult Y) → X × List ℕ → DecodeResult (X × Y)
next y_at x = y_at x.1 >>= paired x.0

abbrev traced : (JoinedRun × List Event) × List ℕ → DecodeResult JoinedRun
traced q = behind (with_trace q.0.0 q.0.1) q.1

abbrev cut_traced : (JoinedRun × List EventRun) × List ℕ → DecodeResult CompactRun
cut_traced q = behind (record { bare = q.0.0; runs = q.0.1 }) q.1

abbrev events_kept : List EventRun × List ℕ → DecodeResult (List Event)
events_kept a = events_of_runs a.0 >>= λ b. behind b a.1

one_kept : (b : Bool) (run : JoinedRun) (es : List Event) (rest : List ℕ)
    → (((cond b (Some es) None >>= λ e. behind e rest) >>= paired run) >>= traced) ≡ cond b (behind (with_trace run es) rest) None
one_kept true run es rest = refl
one_kept false run es rest = refl

by_runs : (run : JoinedRun) (found : DecodeResult (List EventRun))
    → (((found >>= events_kept) >>= paired run) >>= traced) ≡ (((found >>= paired run) >>= cut_traced) >>= run_kept)
by_runs run None = refl
by_runs run (Some y) = one_kept (are_runs y.0) run (events_in y.0) y.1

by_bare : (found : DecodeResult JoinedRun) → ((found >>= next runs_at) >>= traced) ≡ (((found >>= next (list_at w32 trace_run_at)) >>= cut_traced) >>= run_kept)
by_bare None = refl
by_bare (Some x) = by_runs x.0 (list_at w32 trace_run_at x.1)

run_cut : (bytes : List ℕ) → run_at bytes ≡ (compact_run_at bytes >>= run_kept)
run_cut bytes = by_bare (bare_run_at bytes)

-- ---- both runs, behind the files and tables

abbrev Parts : Type 0
Parts = List PackedFile × (List Table × (JoinedRun × JoinedRun))

abbrev CutParts : Type 0
CutParts = List PackedFile × (List Table × (CompactRun × CompactRun))

abbrev put : Parts × List ℕ → DecodeResult Joined
put q = behind (record { files = q.0.0; tables = q.0.1.0; first = q.0.1.1.0; second = q.0.1.1.1 }) q.1

abbrev cut_put : CutParts × List ℕ → DecodeResult CompactJoined
cut_put q = behind (record { files = q.0.0; tables = q.0.1.0; first = q.0.1.1.0; second = q.0.1.1.1 }) q.1

abbrev cut_ended : CompactJoined × List ℕ → Option CompactJoined
cut_ended x = cond (length x.1 == 0) (Some x.0) None

abbrev kept : CompactJoined → Option Joined
kept r = cond (are_runs r.first.runs && are_runs r.second.runs) (Some (whole_join r)) None

abbrev closed : List PackedFile → List Table → JoinedRun → DecodeResult JoinedRun → Option Joined
closed f t c found = ((((found >>= paired c) >>= paired t) >>= paired f) >>= put) >>= ended

abbrev cut_closed : List PackedFile → List Table → CompactRun → DecodeResult CompactRun → Option CompactJoined
cut_closed f t c found = ((((found >>= paired c) >>= paired t) >>= paired f) >>= cut_put) >>= cut_ended

abbrev joined_of_parts : List PackedFile → List Table → JoinedRun → JoinedRun → Joined
joined_of_parts f t c d = record { files = f; tables = t; first = c; second = d }

closed_if : (f : List PackedFile) (t : List Table) (c d : JoinedRun) (rest : List ℕ) (b : Bool)
    → closed f t c (cond b (behind d rest) None) ≡ cond b (cond (length rest == 0) (Some (joined_of_parts f t c d)) None) None
closed_if f t c d rest true = refl
closed_if f t c d rest false = refl

kept_if : (e : Bool) (r : CompactJoined) → (cond e (Some r) None >>= kept) ≡ cond e (kept r) None
kept_if true r = refl
kept_if false r = refl

swapped : (e a b : Bool) (x : Option Joined) → a ≡ true → cond b (cond e x None) None ≡ cond e (cond (a && b) x None) None
swapped true true true x h = refl
swapped true true false x h = refl
swapped false true true x h = refl
swapped false true false x h = refl
swapped e false b x h = absurd cc

none_kept : (e a b : Bool) (x : Option Joined) → a ≡ false → None ≡ cond e (cond (a && b) x None) None
none_kept true false b x h = refl
none_kept false false b x h = refl
none_kept e true b x h = absurd cc

first_true : (f : List PackedFile) (t : List Table) (x : CompactRun) → are_runs x.runs ≡ true → (found : DecodeResult CompactRun)
    → closed f t (whole_run x) (found >>= run_kept) ≡ (cut_closed f t x found >>= kept)
first_true f t x h None = refl
first_true f t x h (Some y) =
    let r : CompactJoined = record { files = f; tables = t; first = x; second = y.0 } in
    closed_if f t (whole_run x) (whole_run y.0) y.1 (are_runs y.0.runs)
    ∙ swapped (length y.1 == 0) (are_runs x.runs) (are_runs y.0.runs) (Some (whole_join r)) h
    ∙ sym (kept_if (length y.1 == 0) r)

first_false : (f : List PackedFile) (t : List Table) (x : CompactRun) → are_runs x.runs ≡ false → (found : DecodeResult CompactRun)
    → None ≡ (cut_closed f t x found >>= kept)
first_false f t x h None = refl
first_false f t x h (Some y) =
    let r : CompactJoined = record { files = f; tables = t; first = x; second = y.0 } in
    none_kept (length y.1 == 0) (are_runs x.runs) (are_runs y.0.runs) (Some (whole_join r)) h
    ∙ sym (kept_if (length y.1 == 0) r)

abbrev opened : List PackedFile → List Table → DecodeResult JoinedRun → Option Joined
opened f t found = ((((found >>= next run_at) >>= paired t) >>= paired f) >>= put) >>= ended

abbrev cut_opened : List PackedFile → List Table → DecodeResult CompactRun → Option CompactJoined
cut_opened f t found = ((((found >>= next compact_run_at) >>= paired t) >>= paired f) >>= cut_put) >>= cut_ended

by_first : (f : List PackedFile) (t : List Table) (found : DecodeResult CompactRun) → opened f t (found >>= run_kept) ≡ (cut_opened f t found >>= kept)
by_first f t None = refl
by_first f t (Some x) = by (are_runs x.0.runs) refl
  where
    by : (b : Bool) → are_runs x.0.runs ≡ b → opened f t (cond b (behind (whole_run x.0) x.1) None) ≡ (cut_closed f t x.0 (compact_run_at x.1) >>= kept)
    by true h = ap (closed f t (whole_run x.0)) (run_cut x.1) ∙ first_true f t x.0 h (compact_run_at x.1)
    by false h = first_false f t x.0 h (compact_run_at x.1)

abbrev tabled : List PackedFile → DecodeResult (List Table) → Option Joined
tabled f found = (((found >>= next (both_at run_at run_at)) >>= paired f) >>= put) >>= ended

abbrev cut_tabled : List PackedFile → DecodeResult (List Table) → Option CompactJoined
cut_tabled f found = (((found >>= next (both_at compact_run_at compact_run_at)) >>= paired f) >>= cut_put) >>= cut_ended

by_tables : (f : List PackedFile) (found : DecodeResult (List Table)) → tabled f found ≡ (cut_tabled f found >>= kept)
by_tables f None = refl
by_tables f (Some t) = ap (opened f t.0) (run_cut t.1) ∙ by_first f t.0 (compact_run_at t.1)

by_files : (found : DecodeResult (List PackedFile))
    → (((found >>= next (both_at common_tables_at (both_at run_at run_at))) >>= put) >>= ended)
    ≡ ((((found >>= next (both_at common_tables_at (both_at compact_run_at compact_run_at))) >>= cut_put) >>= cut_ended) >>= kept)
by_files None = refl
by_files (Some f) = by_tables f.0 (common_tables_at f.1)

pub joined_cut : (bytes : List ℕ) → all_of_joined bytes ≡ (compact_joined_of bytes >>= kept)
joined_cut bytes = by_files (common_files_at bytes)

-- ---- the packages of both runs

-- the same test, where the runs are runs and the format has room
test_as : (p : CompactPackage) → are_runs p.runs ≡ true → has_room (expanded_package p) ≡ true → valid_test (expanded_package p) ≡ compact_rules Two p
test_as p h k = by (are_runs p.runs) (has_room (expanded_package p)) (rules (expanded_package p)) h k
  where
    by : (a b c : Bool) → a ≡ true → b ≡ true → (b && c) ≡ (a && (c && true))
    by true true true e f = refl
    by true true false e f = refl
    by false b c e f = absurd cc
    by true false c e f = absurd cc

-- without runs there is no valid package
untested : (a b c d : Bool) → (a && b) ≡ false → ((a && c) && (b && d)) ≡ false
untested false b c d h = refl
untested true false true d h = refl
untested true false false d h = refl
untested true true c d h = absurd cc

-- ---- what they are joined to

abbrev anew_of : Package → Package → Option Joined
anew_of a b = if_joined (joined_of a b)

abbrev found_as : List ℕ → Option Joined → Option Joined
found_as bytes o = o >>= if_spelling_is bytes

abbrev cut_found_as : List ℕ → Option CompactJoined → Option CompactJoined
cut_found_as bytes o = o >>= compact_spelled_so bytes

cut_is : (r : CompactJoined) → are_runs r.first.runs ≡ true → are_runs r.second.runs ≡ true → joined_sections (whole_join r) ≡ compact_sections r
cut_is r h k = sym (cuts_spelled r (is_cut r.first.runs h) (is_cut r.second.runs k))

if_out : (b : Bool) (r : CompactJoined) → cond b (Some (whole_join r)) None ≡ option_map whole_join (cond b (Some r) None)
if_out true r = refl
if_out false r = refl

joined_same : (bytes : List ℕ) (a b : CompactPackage) → are_runs a.runs ≡ true → are_runs b.runs ≡ true
    → found_as bytes (anew_of (expanded_package a) (expanded_package b)) ≡ option_map whole_join (cut_found_as bytes (join_of_packages a b))
joined_same bytes a b h k = by (clash_of a.bare b.bare)
  where
    by : (o : Option Clash) → found_as bytes (if_joined (unless_clash o (put_together (expanded_package a) (expanded_package b))))
        ≡ option_map whole_join (cut_found_as bytes (if_rejoined a.runs b.runs (unless_clash o (put_together a.bare b.bare))))
    by (Some clash) = refl
    by None =
        let q : CompactJoined = with_runs a.runs b.runs (put_together a.bare b.bare) in
        ap (λ (l : List ℕ). cond (bytes_eq l bytes) (Some (whole_join q)) None) (cut_is q h k) ∙ if_out (bytes_eq (compact_sections q) bytes) q

if_valid : (bytes : List ℕ) (t : Bool) (a b : CompactPackage) → are_runs a.runs ≡ true → are_runs b.runs ≡ true
    → found_as bytes (cond t (anew_of (expanded_package a) (expanded_package b)) None) ≡ option_map whole_join (cut_found_as bytes (cond t (join_of_packages a b) None))
if_valid bytes true a b h k = joined_same bytes a b h k
if_valid bytes false a b h k = refl

abbrev later : List ℕ → Joined → Option Joined
later bytes j = found_as bytes (joined_anew j)

abbrev cut_later : List ℕ → CompactJoined → Option CompactJoined
cut_later bytes r = cut_found_as bytes (compact_anew r)

by_valid : (bytes : List ℕ) (r : CompactJoined) → are_runs r.first.runs ≡ true → are_runs r.second.runs ≡ true → joined_room (whole_join r) ≡ true
    → later bytes (whole_join r) ≡ option_map whole_join (cut_later bytes r)
by_valid bytes r h k room =
    let a : CompactPackage = picked_runs First r in
    let b : CompactPackage = picked_runs Second r in
    let one : valid_test (expanded_package a) ≡ compact_rules Two a = test_as a h (picked_room First (whole_join r) room) in
    let two : valid_test (expanded_package b) ≡ compact_rules Two b = test_as b k (picked_room Second (whole_join r) room) in
    (λ i. found_as bytes (cond (one i && two i) (anew_of (expanded_package a) (expanded_package b)) None))
    ∙ if_valid bytes (compact_rules Two a && compact_rules Two b) a b h k

by_unruly : (bytes : List ℕ) (r : CompactJoined) → (are_runs r.first.runs && are_runs r.second.runs) ≡ false
    → None ≡ option_map whole_join (cut_later bytes r)
by_unruly bytes r unruly =
    let a : CompactPackage = picked_runs First r in
    let b : CompactPackage = picked_runs Second r in
    let none : (compact_rules Two a && compact_rules Two b) ≡ false = untested (are_runs a.runs) (are_runs b.runs) (rules (expanded_package a) && true) (rules (expanded_package b) && true) unruly in
    λ i. option_map whole_join (cut_found_as bytes (cond (sym none i) (join_of_packages a b) None))

by_cut : (bytes : List ℕ) (o : Option CompactJoined) → ((r : CompactJoined) → o ≡ Some r → kept r ≡ Some (whole_join r) → joined_room (whole_join r) ≡ true)
    → ((o >>= kept) >>= later bytes) ≡ option_map whole_join (o >>= cut_later bytes)
by_cut bytes None room = refl
by_cut bytes (Some r) room = by (are_runs r.first.runs) (are_runs r.second.runs) refl refl
  where
    by : (x y : Bool) → are_runs r.first.runs ≡ x → are_runs r.second.runs ≡ y
        → (cond (x && y) (Some (whole_join r)) None >>= later bytes) ≡ option_map whole_join (cut_later bytes r)
    by true true e f = by_valid bytes r e f (room r refl (λ i. cond (e i && f i) (Some (whole_join r)) None))
    by true false e f = by_unruly bytes r (λ i. e i && f i)
    by false y e f = by_unruly bytes r (λ i. e i && are_runs r.second.runs)

pub same_joined : (bytes : List ℕ) → IsBytes bytes → joined_in bytes ≡ option_map whole_join (compact_joined_in bytes)
same_joined bytes h =
    ap (λ (o : Option Joined). o >>= later bytes) (joined_cut bytes)
    ∙ by_cut bytes (compact_joined_of bytes) (λ r is k. (all_took bytes (whole_join r) h (joined_cut bytes ∙ ap (λ (o : Option CompactJoined). o >>= kept) is ∙ k)).2)

-- ---- the runs of what was read

pub so_spelled : (b : Bool) (p q : CompactJoined) → cond b (Some p) None ≡ Some q → p ≡ q
so_spelled true p q e = same-some p q e
so_spelled false p q e = absurd cc

pub if_tested : (t : Bool) (o : Option CompactJoined) (p : CompactJoined) → cond t o None ≡ Some p → (t ≡ true) × (o ≡ Some p)
if_tested true o p e = (refl, e)
if_tested false o p e = absurd cc

abbrev HasRuns : List EventRun → List EventRun → CompactJoined → Type 0
HasRuns first second p = (p.first.runs ≡ first) × (p.second.runs ≡ second)

has_runs : (first second : List EventRun) (r : Result Joined Clash) (p : CompactJoined) → if_rejoined first second r ≡ Some p → HasRuns first second p
has_runs first second (Ok j) p e = subst (HasRuns first second) (same-some (with_runs first second j) p e) (refl, refl)
has_runs first second (Err clash) p e = absurd cc

pub cuts_are_runs : (bytes : List ℕ) (q : CompactJoined) → compact_joined_in bytes ≡ Some q → (are_runs q.first.runs ≡ true) × (are_runs q.second.runs ≡ true)
cuts_are_runs bytes q e =
    let one = bind-some (compact_joined_of bytes) (cut_later bytes) q e in
    let r = one.0 in
    let a : CompactPackage = picked_runs First r in
    let b : CompactPackage = picked_runs Second r in
    let two = bind-some (compact_anew r) (compact_spelled_so bytes) q one.2 in
    let p = two.0 in
    let same : p ≡ q = so_spelled (bytes_eq (compact_sections p) bytes) p q two.2 in
    let three = if_tested (compact_rules Two a && compact_rules Two b) (join_of_packages a b) p two.1 in
    let both = and-parts (compact_rules Two a) (compact_rules Two b) three.0 in
    let first : are_runs a.runs ≡ true = (and-parts (are_runs a.runs) (rules (expanded_package a) && true) both.0).0 in
    let second : are_runs b.runs ≡ true = (and-parts (are_runs b.runs) (rules (expanded_package b) && true) both.1).0 in
    let its = has_runs a.runs b.runs (joined_of a.bare b.bare) p three.1 in
    subst (λ (q : CompactJoined). (are_runs q.first.runs ≡ true) × (are_runs q.second.runs ≡ true)) same
    (ap are_runs its.0 ∙ first, ap are_runs its.1 ∙ second)

-- ---- packages that are joined with their runs

pub cuts_joined : (a b : CompactPackage) (result : Result CompactJoined JoinStop) → JoinsWithRuns a.runs b.runs result (joined_of a.bare b.bare)
    → CompactJoinsAs result (joined_of (expanded_package a) (expanded_package b))
cuts_joined a b result is = by (clash_of a.bare b.bare) result is
  where
    by : (o : Option Clash) (given : Result CompactJoined JoinStop) → JoinsWithRuns a.runs b.runs given (unless_clash o (put_together a.bare b.bare))
        → CompactJoinsAs given (unless_clash o (put_together (expanded_package a) (expanded_package b)))
    by None (Ok r) is =
        let same : with_runs a.runs b.runs (put_together a.bare b.bare) ≡ r = same-some (with_runs a.runs b.runs (put_together a.bare b.bare)) r is in
        λ i. Ok (whole_join (same i))
    by (Some clash) (Ok r) is = absurd cc
    by None (Err (join_stops.Clash clash)) is = absurd cc
    by (Some found) (Err (join_stops.Clash clash)) is = is
    by o (Err join_stops.NoMemory) is = tt

-- the runs stay those of their events
pub first_stays : (first second : List EventRun) (due : Result Joined Clash) (result : Result CompactJoined JoinStop) → IsCut first
    → JoinsWithRuns first second result due → IfOk result (λ r. IsCut r.first.runs)
first_stays first second due (Ok r) cut is = let its = has_runs first second due r is in subst IsCut (sym its.0) cut
first_stays first second due (Err stop) cut is = tt

pub second_stays : (first second : List EventRun) (due : Result Joined Clash) (result : Result CompactJoined JoinStop) → IsCut second
    → JoinsWithRuns first second result due → IfOk result (λ r. IsCut r.second.runs)
second_stays first second due (Ok r) cut is = let its = has_runs first second due r is in subst IsCut (sym its.1) cut
second_stays first second due (Err stop) cut is = tt
