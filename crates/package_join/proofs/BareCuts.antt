-- A joined package that is read with its traces as runs has no events beside them.
use Rattle.std.proofs.Common.{◌≡◌, ℕ, Bool, cond, List, [], length, Option, Some, None, refl, subst, ◌∙◌, ◌&&◌}
use Rattle.std.specs.Prelude.{◌==◌, bytes_eq}
use Rattle.std.specs.Int.{w32, w64}
use Rattle.ldv_value.proofs.Options.{bind-some, same-some}
use Rattle.run_model.specs.declared.event.Event.{Event}
use Rattle.package_codec.specs.declared.compact_package.CompactPackage.{CompactPackage}
use Rattle.package_codec.specs.declared.trace.event_run.EventRun.{EventRun}
use Rattle.package_codec.specs.declared.version.Version.TheVariants.{Two}
use Rattle.package_codec.specs.Events.{names_at}
use Rattle.package_codec.specs.Fields.{DecodeResult, ◌>>=◌, both_at, list_at, made_at, number_at}
use Rattle.package_layout.specs.CompactReading.{compact_rules}
use Rattle.package_codec.specs.Runs.{event_run_at as trace_run_at}
use Rattle.joined_data.specs.declared.joined.Clash.{Clash}
use Rattle.joined_data.specs.declared.joined.JoinedRun.{JoinedRun}
use Rattle.joined_data.specs.declared.joined.Reason.{Reason}
use Rattle.joined_data.specs.declared.joined.Which.TheVariants.{First, Second}
use Rattle.joined_data.specs.declared.compact_joined.CompactRun.{CompactRun}
use Rattle.joined_data.specs.declared.compact_joined.CompactJoined.{CompactJoined}
use Rattle.joined_data.specs.Joined.{clash_of, put_together, unless_clash}
use Rattle.joined_data.specs.Layout.{bare_run_at, common_files_at, common_tables_at, named_reason_at, paths_at}
use Rattle.joined_data.specs.CompactJoins.{compact_run_at, compact_joined_at, compact_joined_of, compact_sections, picked_runs}
use Rattle.joined_data.specs.CompactJoins.{with_runs, if_rejoined, join_of_packages}
use Rattle.package_join.specs.CompactValid.{compact_anew, compact_spelled_so, compact_joined_in}
use Rattle.package_join.proofs.CutLaws.{if_tested, so_spelled}

-- ---- what holds of all that is found

abbrev Finds : {X : Type 0} → (X → Type 0) → (List ℕ → DecodeResult X) → Type 0
Finds {X = X} P x_at = (bytes : List ℕ) (x : X × List ℕ) → x_at bytes ≡ Some x → P x.0

anything : {X : Type 0} (x_at : List ℕ → DecodeResult X) → Finds (λ (x : X). Unit {0}) x_at
anything x_at bytes x e = tt

both_find : {X Y : Type 0} (P : X → Type 0) (Q : Y → Type 0) (x_at : List ℕ → DecodeResult X) (y_at : List ℕ → DecodeResult Y)
    → Finds P x_at → Finds Q y_at → Finds (λ (z : X × Y). P z.0 × Q z.1) (both_at x_at y_at)
both_find {X = X} {Y = Y} P Q x_at y_at p q bytes z e =
    let paired : X × List ℕ → Y × List ℕ → DecodeResult (X × Y) = λ x y. Some ((x.0, y.0), y.1) in
    let one = bind-some (x_at bytes) (λ (x : X × List ℕ). y_at x.1 >>= paired x) z e in
    let two = bind-some (y_at one.0.1) (paired one.0) z one.2 in
    subst (λ (w : (X × Y) × List ℕ). P w.0.0 × Q w.0.1) (same-some ((one.0.0, two.0.0), two.0.1) z two.2)
    (p bytes one.0 one.1, q one.0.1 two.0 two.1)

made_find : {A B : Type 0} (Q : A → Type 0) (P : B → Type 0) (make : A → B) (a_at : List ℕ → DecodeResult A)
    → Finds Q a_at → ((a : A) → Q a → P (make a)) → Finds P (made_at (λ a. Some (make a)) a_at)
made_find {A = A} {B = B} Q P make a_at found holds bytes x e =
    let one = bind-some (a_at bytes) (λ (a : A × List ℕ). Some (make a.0) >>= λ (b : B). Some (b, a.1)) x e in
    subst (λ (y : B × List ℕ). P y.0) (same-some (make one.0.0, one.0.1) x one.2) (holds one.0.0 (found bytes one.0 one.1))

-- ---- runs as they are read

abbrev HasNoEvents : JoinedRun → Type 0
HasNoEvents run = run.events ≡ []

abbrev pub AreBare : CompactJoined → Type 0
AreBare r = (r.first.bare.events ≡ []) × (r.second.bare.events ≡ [])

abbrev all_at : List ℕ → DecodeResult (List (List ℕ) × (ℕ × (ℕ × (List (List ℕ) × (List (List ℕ) × (List (List ℕ) × List Reason))))))
all_at = both_at names_at (both_at (number_at w64) (both_at (number_at w32)
    (both_at paths_at (both_at paths_at (both_at names_at (list_at w32 named_reason_at))))))

bare_found : Finds HasNoEvents bare_run_at
bare_found bytes x e =
    made_find (λ z. Unit {0}) HasNoEvents
    (λ r. record {
      start = r.0;
      seed = r.1.0;
      steps = r.1.1.0;
      wholes = r.1.1.1.0;
      presents = r.1.1.1.1.0;
      tables = r.1.1.1.1.1.0;
      reasons = r.1.1.1.1.1.1;
      events = [];
    })
    all_at (anything all_at) (λ r q. refl) bytes x e

cut_found : Finds (λ (c : CompactRun). HasNoEvents c.bare) compact_run_at
cut_found bytes x e =
    made_find (λ (r : JoinedRun × List EventRun). HasNoEvents r.0 × Unit {0}) (λ (c : CompactRun). HasNoEvents c.bare) (λ r. record { bare = r.0; runs = r.1 })
    (both_at bare_run_at (list_at w32 trace_run_at))
    (both_find HasNoEvents (λ (runs : List EventRun). Unit {0}) bare_run_at (list_at w32 trace_run_at) bare_found (anything (list_at w32 trace_run_at)))
    (λ r q. q.0) bytes x e

joined_found : Finds AreBare compact_joined_at
joined_found bytes x e =
    made_find (λ z. Unit {0} × (Unit {0} × (HasNoEvents z.1.1.0.bare × HasNoEvents z.1.1.1.bare))) AreBare
    (λ j. record { files = j.0; tables = j.1.0; first = j.1.1.0; second = j.1.1.1 })
    (both_at common_files_at (both_at common_tables_at (both_at compact_run_at compact_run_at)))
    (both_find (λ f. Unit {0}) (λ z. Unit {0} × (HasNoEvents z.1.0.bare × HasNoEvents z.1.1.bare)) common_files_at (both_at common_tables_at (both_at compact_run_at compact_run_at)) (anything common_files_at)
    (both_find (λ t. Unit {0}) (λ z. HasNoEvents z.0.bare × HasNoEvents z.1.bare) common_tables_at (both_at compact_run_at compact_run_at) (anything common_tables_at)
    (both_find (λ (c : CompactRun). HasNoEvents c.bare) (λ (c : CompactRun). HasNoEvents c.bare) compact_run_at compact_run_at cut_found cut_found)))
    (λ j q. q.1.1) bytes x e

read_bare : (bytes : List ℕ) (r : CompactJoined) → compact_joined_of bytes ≡ Some r → AreBare r
read_bare bytes r e =
    let one = bind-some (compact_joined_at bytes) (λ (x : CompactJoined × List ℕ). cond (length x.1 == 0) (Some x.0) None) r e in
    subst AreBare (so_spelled (length one.0.1 == 0) one.0.0 r one.2) (joined_found bytes one.0 one.1)

-- ---- joined anew

joined_bare : (a b : CompactPackage) (o : Option Clash) (p : CompactJoined) → if_rejoined a.runs b.runs (unless_clash o (put_together a.bare b.bare)) ≡ Some p
    → (p.first.bare.events ≡ a.bare.events) × (p.second.bare.events ≡ b.bare.events)
joined_bare a b None p e =
    subst (λ (p : CompactJoined). (p.first.bare.events ≡ a.bare.events) × (p.second.bare.events ≡ b.bare.events))
    (same-some (with_runs a.runs b.runs (put_together a.bare b.bare)) p e) (refl, refl)
joined_bare a b (Some clash) p e = absurd cc

pub cuts_are_bare : (bytes : List ℕ) (q : CompactJoined) → compact_joined_in bytes ≡ Some q → AreBare q
cuts_are_bare bytes q e =
    let one = bind-some (compact_joined_of bytes) (λ (r : CompactJoined). compact_anew r >>= compact_spelled_so bytes) q e in
    let r = one.0 in
    let a : CompactPackage = picked_runs First r in
    let b : CompactPackage = picked_runs Second r in
    let two = bind-some (compact_anew r) (compact_spelled_so bytes) q one.2 in
    let p = two.0 in
    let same : p ≡ q = so_spelled (bytes_eq (compact_sections p) bytes) p q two.2 in
    let three = if_tested (compact_rules Two a && compact_rules Two b) (join_of_packages a b) p two.1 in
    let read : AreBare r = read_bare bytes r one.1 in
    let its = joined_bare a b (clash_of a.bare b.bare) p three.1 in
    subst AreBare same (its.0 ∙ read.0, its.1 ∙ read.1)
