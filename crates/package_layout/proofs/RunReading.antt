-- Reading with the trace as runs gives the same package as reading with its events.
use Rattle.std.proofs.Common.{◌≡◌, ℕ, ◌-◌, Bool, true, false, cond, List, [], length, Option, Some, None, refl, sym, ap, subst, ◌∙◌, ◌&&◌}
use Rattle.std.specs.Prelude.{◌==◌, nat_le, Ok, Err}
use Rattle.std.specs.List.{list_all, AllByRecursion}
use Rattle.std.specs.Option.{option_map}
use Rattle.std.specs.Int.{w32}
use Rattle.ldv_value.proofs.Options.{bind-some, same-some}
use Rattle.ldv_value.proofs.Booleans.{and-parts}
use Rattle.run_model.specs.declared.event.Event.{Event}
use Rattle.run_model.specs.declared.package.Package.{Package}
use Rattle.package_layout.specs.declared.damage.DamageKind.TheVariants.{Digest, Form}
use Rattle.package_codec.specs.declared.compact_package.CompactPackage.{CompactPackage}
use Rattle.package_codec.specs.Events.{event_at}
use Rattle.package_codec.specs.declared.decode_stop.DecodeStop.{DecodeStop}
use Rattle.package_codec.specs.declared.decode_stop.DecodeStop.TheVariants.{Malformed}
use Rattle.package_codec.specs.Fields.{DecodeResult, ◌>>=◌, Makes, list_at}
use Rattle.package_codec.specs.Plain.{fits_version}
use Rattle.package_codec.specs.CompactPackages.{expanded_package, cut_at, with_events}
use Rattle.package_layout.specs.CompactReading.{compact_sections_at, compact_sections_of, compact_rules, compact_in}
use Rattle.package_codec.specs.declared.trace.event_run.EventRun.{EventRun}
use Rattle.package_codec.specs.Runs.{runs_of, events_in, is_run, are_longest, are_runs, event_run_at, total, max_events, events_of_runs, few_events}
use Rattle.package_codec.specs.Typed.{TypedEvent}
use Rattle.package_layout.specs.Valid.{rules, before_digest, middle, kept_if, package_in, has_digest, form_of, reading_as}
use Rattle.package_codec.specs.declared.version.Version.{Version}
use Rattle.package_codec.specs.declared.version.Version.TheVariants.{One, Two}
use Rattle.package_layout.specs.Whole.{bare_at, trace_at}
use Rattle.package_codec.proofs.Laws.{IsBytes, IsBytes-take, IsBytes-drop}
use Rattle.package_codec.proofs.Runs.{events_again, runs_good, events-length}
use Rattle.package_codec.proofs.RunFields.{small_events}
use Rattle.package_layout.proofs.Whole.{bare_took, events_took, ended}

-- ---- the trace

abbrev kept_events : List EventRun × List ℕ → DecodeResult (List Event)
kept_events x = cond (are_runs x.0) (Some (events_in x.0, x.1)) None

-- what is found, and the bytes behind it
abbrev pub behind : {X : Type 0} → X → List ℕ → DecodeResult X
behind x rest = Some (x, rest)

kept_by : (b : Bool) (es : List Event) (rest : List ℕ) → (cond b (Some es) None >>= λ x. behind x rest) ≡ cond b (behind es rest) None
kept_by true es rest = refl
kept_by false es rest = refl

both_true : (a b c : Bool) → b ≡ true → c ≡ true → (a && b && c) ≡ a
both_true true b c h k = rw (h, k) refl
both_true false b c h k = refl

-- the runs of typed events are runs where there are few enough of them
runs_are : (es : List Event) → AllByRecursion TypedEvent es → are_runs (runs_of es) ≡ nat_le (length es) max_events
runs_are es typed =
    let good = runs_good es (small_events es typed) in
    let many : total (runs_of es) ≡ length es = sym (events-length (runs_of es)) ∙ ap length (events_again es) in
    both_true (nat_le (total (runs_of es)) max_events) (list_all is_run (runs_of es)) (are_longest (runs_of es)) good.0 good.1
    ∙ ap (λ (n : ℕ). nat_le n max_events) many

one_cut : (found : DecodeResult (List Event)) → ((es : List Event) (rest : List ℕ) → found ≡ Some (es, rest) → AllByRecursion TypedEvent es)
    → (found >>= λ a. few_events a.0 >>= λ b. behind b a.1) ≡ ((found >>= λ a. behind (runs_of a.0) a.1) >>= kept_events)
one_cut None typed = refl
one_cut (Some a) typed =
    kept_by (nat_le (length a.0) max_events) a.0 a.1
    ∙ (λ j. cond (sym (runs_are a.0 (typed a.0 a.1 refl)) j) (behind (sym (events_again a.0) j) a.1) None)

two_cut : (found : DecodeResult (List EventRun)) → (found >>= λ a. events_of_runs a.0 >>= λ b. behind b a.1) ≡ (found >>= kept_events)
two_cut None = refl
two_cut (Some a) = kept_by (are_runs a.0) (events_in a.0) a.1

trace_cut : (v : Version) (bytes : List ℕ) → IsBytes bytes → trace_at v bytes ≡ (cut_at v bytes >>= kept_events)
trace_cut One bytes h = one_cut (list_at w32 event_at bytes) (λ es rest e. events_took bytes es rest h e)
trace_cut Two bytes h = two_cut (list_at w32 event_run_at bytes)

-- ---- the package

abbrev of_parts : Package → List EventRun → CompactPackage
of_parts p rs = record { bare = p; runs = rs }

-- the package is valid, and the version has what is in it
abbrev passes : Version → Package → Bool
passes v p = rules p && fits_version v p

abbrev tested : Version → Package → Option Package
tested v p = kept_if (passes v p) p

abbrev runs_ended : CompactPackage × List ℕ → Option CompactPackage
runs_ended x = cond (length x.1 == 0) (Some x.0) None

abbrev runs_tested : Version → CompactPackage → Option CompactPackage
runs_tested v r = cond (compact_rules v r) (Some r) None

abbrev paired : {X : Type 0} → Package → X × List ℕ → DecodeResult (Package × X)
paired p y = Some ((p, y.0), y.1)

abbrev next : {X : Type 0} → (List ℕ → DecodeResult X) → Package × List ℕ → DecodeResult (Package × X)
next x_at p = x_at p.1 >>= paired p.0

abbrev put : (Package × List Event) × List ℕ → DecodeResult Package
put q = behind (with_events q.0.0 q.0.1) q.1

abbrev runs_put : (Package × List EventRun) × List ℕ → DecodeResult CompactPackage
runs_put q = behind (of_parts q.0.0 q.0.1) q.1

-- what is made of a bare package and the events behind it, or the runs
abbrev packed : Version → Package → DecodeResult (List Event) → Option Package
packed v p found = (((found >>= paired p) >>= put) >>= ended) >>= tested v

abbrev runs_packed : Version → Package → DecodeResult (List EventRun) → Option CompactPackage
runs_packed v p found = (((found >>= paired p) >>= runs_put) >>= runs_ended) >>= runs_tested v

bind_if : {A B : Type 0} (b : Bool) (x : A) (f : A → Option B) → (cond b (Some x) None >>= f) ≡ cond b (f x) None
bind_if true x f = refl
bind_if false x f = refl

packed_if : (v : Version) (p : Package) (b : Bool) (es : List Event) (rest : List ℕ) → packed v p (cond b (behind es rest) None) ≡ cond b (ended (with_events p es, rest) >>= tested v) None
packed_if v p true es rest = refl
packed_if v p false es rest = refl

by_tests : (a e g : Bool) (r : CompactPackage) → cond a (cond e (kept_if g (expanded_package r)) None) None ≡ option_map expanded_package (cond e (cond (a && g) (Some r) None) None)
by_tests true true true r = refl
by_tests true true false r = refl
by_tests true false g r = refl
by_tests false true g r = refl
by_tests false false g r = refl

packed_runs : (v : Version) (p : Package) (found : DecodeResult (List EventRun)) → packed v p (found >>= kept_events) ≡ option_map expanded_package (runs_packed v p found)
packed_runs v p None = refl
packed_runs v p (Some x) =
    let r : CompactPackage = of_parts p x.0 in
    let a = are_runs x.0 in
    let e = length x.1 == 0 in
    packed_if v p a (events_in x.0) x.1
    ∙ ap (λ (o : Option Package). cond a o None) (bind_if e (expanded_package r) (tested v))
    ∙ by_tests a e (passes v (expanded_package r)) r
    ∙ ap (option_map expanded_package) (sym (bind_if e r (runs_tested v)))

by_bare : (v : Version) (found : DecodeResult Package) → ((p : Package) (rest : List ℕ) → found ≡ Some (p, rest) → IsBytes rest)
    → ((((found >>= next (trace_at v)) >>= put) >>= ended) >>= tested v) ≡ option_map expanded_package ((((found >>= next (cut_at v)) >>= runs_put) >>= runs_ended) >>= runs_tested v)
by_bare v None h = refl
by_bare v (Some x) h = ap (packed v x.0) (trace_cut v x.1 (h x.0 x.1 refl)) ∙ packed_runs v x.0 (cut_at v x.1)

pub same_package : (v : Version) (bytes : List ℕ) → IsBytes bytes → package_in v bytes ≡ option_map expanded_package (compact_in v bytes)
same_package v bytes h = by_bare v (bare_at v bytes) (λ p rest e. (bare_took v bytes p rest h e).1)

-- ---- what is read

runs_tests : (b : Bool) (q r : CompactPackage) → cond b (Some q) None ≡ Some r → (b ≡ true) × (q ≡ r)
runs_tests true q r e = (refl, same-some q r e)
runs_tests false q r e = absurd cc

runs_end : (b : Bool) (q r : CompactPackage) → cond b (Some q) None ≡ Some r → q ≡ r
runs_end b q r e = (runs_tests b q r e).1

no_events : (v : Version) (bytes : List ℕ) (q : CompactPackage) → IsBytes bytes → compact_sections_of v bytes ≡ Some q → q.bare.events ≡ []
no_events v bytes q h e =
    let one = bind-some (compact_sections_at v bytes) runs_ended q e in
    let x = one.0 in
    let end : x.0 ≡ q = runs_end (length x.1 == 0) x.0 q one.2 in
    let two = bind-some (bare_at v bytes >>= next (cut_at v)) runs_put x one.1 in
    let y = two.0 in
    let three = bind-some (bare_at v bytes) (next (cut_at v)) y two.1 in
    let z = three.0 in
    let four = bind-some (cut_at v z.1) (paired z.0) y three.2 in
    let made : CompactPackage × List ℕ = (of_parts y.0.0 y.0.1, y.1) in
    let same : made ≡ x = same-some made x two.2 in
    let pair : (Package × List EventRun) × List ℕ = ((z.0, four.0.0), four.0.1) in
    let bare : pair ≡ y = same-some pair y four.2 in
    let none : z.0.events ≡ [] = (bare_took v bytes z.0 z.1 h three.1).0 in
    subst (λ (q : CompactPackage). q.bare.events ≡ []) end
    (subst (λ (x : CompactPackage × List ℕ). x.0.bare.events ≡ []) same
    (subst (λ (y : (Package × List EventRun) × List ℕ). y.0.0.events ≡ []) bare none))

pub runs_read : (v : Version) (bytes : List ℕ) (r : CompactPackage) → IsBytes bytes → compact_in v bytes ≡ Some r → (are_runs r.runs ≡ true) × (r.bare.events ≡ [])
runs_read v bytes r h e =
    let one = bind-some (compact_sections_of v bytes) (runs_tested v) r e in
    let q = one.0 in
    let two = runs_tests (compact_rules v q) q r one.2 in
    subst (λ (r : CompactPackage). (are_runs r.runs ≡ true) × (r.bare.events ≡ [])) two.1
    ((and-parts (are_runs q.runs) (passes v (expanded_package q)) two.0).0, no_events v bytes q h one.1)

pub clean : (bytes : List ℕ) → IsBytes bytes → IsBytes (middle bytes)
clean bytes h = IsBytes-drop 8 (before_digest bytes) (IsBytes-take (length bytes - 32) bytes h)

pub read_ok : (v : Version) (bytes : List ℕ) (r : CompactPackage) → IsBytes bytes → has_digest bytes ≡ true → compact_in v (middle bytes) ≡ Some r → reading_as v bytes ≡ Ok (expanded_package r)
read_ok v bytes r h d e =
    let is : package_in v (middle bytes) ≡ Some (expanded_package r) = same_package v (middle bytes) (clean bytes h) ∙ ap (option_map expanded_package) e in
    (λ j. cond (d j) (form_of (is j)) (Err Digest))

pub read_none : (v : Version) (bytes : List ℕ) → IsBytes bytes → has_digest bytes ≡ true → compact_in v (middle bytes) ≡ None → reading_as v bytes ≡ Err Form
read_none v bytes h d e =
    let is : package_in v (middle bytes) ≡ None = same_package v (middle bytes) (clean bytes h) ∙ ap (option_map expanded_package) e in
    (λ j. cond (d j) (form_of (is j)) (Err Digest))

pub middle_read : (v : Version) (bytes : List ℕ) (r : CompactPackage) → IsBytes bytes → compact_in v (middle bytes) ≡ Some r → (are_runs r.runs ≡ true) × (r.bare.events ≡ [])
middle_read v bytes r h e = runs_read v (middle bytes) r (clean bytes h) e

-- ---- the answers

pub middle_ok : (v : Version) (bytes m : List ℕ) (r : CompactPackage) → IsBytes bytes → has_digest bytes ≡ true → m ≡ middle bytes → compact_in v m ≡ Some r → reading_as v bytes ≡ Ok (expanded_package r)
middle_ok v bytes m r h d is e = read_ok v bytes r h d (ap (compact_in v) (sym is) ∙ e)

pub middle_form : (v : Version) (bytes m : List ℕ) (e : DecodeStop) → IsBytes bytes → has_digest bytes ≡ true → m ≡ middle bytes → e ≡ Malformed → Makes {X = CompactPackage} (Err e) (compact_in v m) → reading_as v bytes ≡ Err Form
middle_form v bytes m e h d is form none =
    let no : compact_in v m ≡ None = subst (λ (e : DecodeStop). Makes {X = CompactPackage} (Err e) (compact_in v m)) form none in
    read_none v bytes h d (ap (compact_in v) (sym is) ∙ no)

pub middle_runs : (v : Version) (bytes m : List ℕ) (r : CompactPackage) → IsBytes bytes → m ≡ middle bytes → compact_in v m ≡ Some r → are_runs r.runs ≡ true
middle_runs v bytes m r h is e = (middle_read v bytes r h (ap (compact_in v) (sym is) ∙ e)).0

pub middle_bare : (v : Version) (bytes m : List ℕ) (r : CompactPackage) → IsBytes bytes → m ≡ middle bytes → compact_in v m ≡ Some r → r.bare.events ≡ []
middle_bare v bytes m r h is e = (middle_read v bytes r h (ap (compact_in v) (sym is) ∙ e)).1
