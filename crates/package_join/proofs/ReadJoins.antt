-- The results of reading the bytes of a joined package.
use Rattle.std.proofs.Common.{◌≡◌, ℕ, ◌-◌, ◌≤◌, Bool, true, false, cond, List, ◌++◌, length, take, Option, Some, None, Result, Ok, Err, refl, sym, ap, subst, ◌∙◌, arith, ◌&&◌}
use Rattle.std.specs.Prelude.{bytes_eq, IfOk, IfSome, ◌↔◌}
use Rattle.std.specs.Option.{option_map}
use Rattle.std.proofs.lemmas.List.{length-append}
use Rattle.std.proofs.lemmas.Slice.Eq.{bytes_eq-Decides}
use Rattle.ldv_value.proofs.Booleans.{and-parts}
use Rattle.ldv_value.proofs.Options.{bind-some, same-some}
use Rattle.ldv_value.proofs.SameBytes.{bytes_eq-itself}
use Rattle.sha2.specs.Sha256.{sha256}
use Rattle.package_layout.specs.declared.damage.DamageKind.{DamageKind}
use Rattle.package_layout.specs.declared.damage.DamageKind.TheVariants.{Magic, Digest, Form}
use Rattle.package_codec.specs.declared.decode_stop.DecodeStop.{DecodeStop}
use Rattle.package_codec.specs.declared.decode_stop.DecodeStop.TheVariants.{Malformed}
use Rattle.package_layout.specs.declared.layout.PackageStop.{PackageStop}
use Rattle.package_layout.specs.declared.layout.PackageStop.TheVariants.{Damaged, NoMemory}
use Rattle.package_codec.specs.Fields.{◌>>=◌, Makes}
use Rattle.package_codec.specs.Runs.{are_runs}
use Rattle.package_layout.specs.Valid.{HasDigest, has_digest, middle, valid_test}
use Rattle.package_codec.proofs.Laws.{IsBytes, just}
use Rattle.package_layout.proofs.Package.{digest_fact, digest_test, true_not_false, not_true, stopped, damaged}
use Rattle.package_layout.proofs.RunReading.{clean}
use Rattle.package_join.specs.Types.{Package}
use Rattle.joined_data.specs.declared.joined.Clash.{Clash}
use Rattle.joined_data.specs.declared.joined.Joined.{Joined}
use Rattle.joined_data.specs.declared.joined.Which.TheVariants.{First, Second}
use Rattle.joined_data.specs.declared.compact_joined.CompactJoined.{CompactJoined}
use Rattle.joined_data.specs.declared.compact_joined.ParsedJoined.{ParsedJoined}
use Rattle.joined_data.specs.Joined.{joined_of, run_package}
use Rattle.package_join.specs.Laws.{OneSpellingLaw, RoundTripLaw}
use Rattle.joined_data.specs.Layout.{all_of_joined, joined_sections}
use Rattle.package_join.specs.Layout.{joined_magic, joined_spelling}
use Rattle.joined_data.specs.Rooms.{IsCountedJoined, IsTypedJoined}
use Rattle.package_join.specs.CompactValid.{CompactJoinedReadsAs, JoinedReadsAs, compact_joined_in}
use Rattle.joined_data.specs.CompactJoins.{whole_join}
use Rattle.package_join.specs.ParsedJoins.{cut_of}
use Rattle.package_join.specs.Valid.{IsJoinedRead, IsNoJoined, IsValidJoined, digested_reading, form_of, has_joined_magic, if_joined, joined_anew, joined_damage_before, joined_in, joined_reading, if_spelling_is}
use Rattle.package_join.proofs.CutLaws.{same_joined, cuts_are_runs}
use Rattle.package_join.proofs.SectionLaws.{all_again, sections_law}
use Rattle.package_join.proofs.SpelledJoins.{spelled_digest, spelled_length, spelled_magic, spelled_middle, parts_of}
use Rattle.package_join.proofs.ValidJoins.{valid_law}
use Rattle.package_join.proofs.ValidRooms.{valid_room}

-- ---- cases

abbrev by_digest : Bool → Option Joined → Result Joined DamageKind
by_digest d o = cond d (form_of o) (Err Digest)

abbrev by_magic : Bool → Bool → Option Joined → Result Joined DamageKind
by_magic m d o = cond m (by_digest d o) (Err Magic)

abbrev read_as : {E : Type 0} → Joined → Result Joined E
read_as j = Ok j

ok_is : (j k : Joined) → read_as {E = DamageKind} j ≡ read_as {E = DamageKind} k → j ≡ k
ok_is j k e = cc

ok_tests : (m d : Bool) (o : Option Joined) (j : Joined) → by_magic m d o ≡ Ok j → (m ≡ true) × (d ≡ true) × (o ≡ Some j)
ok_tests true true (Some k) j e = (refl, refl, ap just (ok_is k j e))
ok_tests true true None j e = absurd cc
ok_tests true false o j e = absurd cc
ok_tests false d o j e = absurd cc

form_tests : (m d : Bool) (o : Option Joined) → by_magic m d o ≡ Err Form → d ≡ true
form_tests true true o e = refl
form_tests true false o e = absurd cc
form_tests false d o e = absurd cc

magic_tests : (m d : Bool) (o : Option Joined) → by_magic m d o ≡ Err Magic → m ≡ false
magic_tests true true (Some j) e = absurd cc
magic_tests true true None e = absurd cc
magic_tests true false o e = absurd cc
magic_tests false d o e = refl

digest_tests : (m d : Bool) (o : Option Joined) → by_magic m d o ≡ Err Digest → (m ≡ true) × (d ≡ false)
digest_tests true true (Some j) e = absurd cc
digest_tests true true None e = absurd cc
digest_tests true false o e = (refl, refl)
digest_tests false d o e = absurd cc

-- ---- what is spelled is read

eight : 8 ≡ length joined_magic
eight = refl

anew_again : (j : Joined) → IsValidJoined j → joined_anew j ≡ Some j
anew_again j v =
    let one : valid_test (run_package First j) ≡ true = v.first in
    let two : valid_test (run_package Second j) ≡ true = v.second in
    λ i. cond (one i && two i) (if_joined (v.same i)) None

in_again : (j : Joined) → IsTypedJoined j → IsValidJoined j → IsCountedJoined j → joined_in (joined_sections j) ≡ Some j
in_again j t v n =
    let bytes : List ℕ = joined_sections j in
    let read : all_of_joined bytes ≡ Some j = all_again j t (valid_room j v) n in
    let anew : joined_anew j ≡ Some j = anew_again j v in
    ap (λ (o : Option Joined). o >>= λ k. joined_anew k >>= if_spelling_is bytes) read
    ∙ ap (λ (o : Option Joined). o >>= if_spelling_is bytes) anew
    ∙ ap (λ (b : Bool). cond b (Some j) None) (bytes_eq-itself bytes)

pub read_again : (j : Joined) → IsTypedJoined j → IsValidJoined j → IsCountedJoined j → joined_reading (joined_spelling j) ≡ Ok j
read_again j t v n =
    let bytes : List ℕ = joined_spelling j in
    let m : has_joined_magic bytes ≡ true =
    ap (λ (l : List ℕ). bytes_eq l joined_magic) (spelled_magic joined_magic (joined_sections j) eight) ∙ bytes_eq-itself joined_magic in
    let d : has_digest bytes ≡ true = digest_test bytes (spelled_digest joined_magic (joined_sections j) eight) in
    let o : joined_in (middle bytes) ≡ Some j = ap joined_in (spelled_middle joined_magic (joined_sections j) eight) ∙ in_again j t v n in
    λ i. by_magic (m i) (d i) (o i)

counted_within : (j : Joined) → length (joined_spelling j) ≤ 67108864 → IsCountedJoined j
counted_within j within =
    sections_law.short j
    (omega (arith, within, spelled_length joined_magic (joined_sections j) eight, length-append joined_magic (joined_sections j)))

pub round_trip_law : RoundTripLaw
round_trip_law j t v within = read_again j t v (counted_within j within)

pub one_spelling_law : OneSpellingLaw
one_spelling_law j k t u v w within same =
    let also : length (joined_spelling k) ≤ 67108864 = subst (λ (l : List ℕ). length l ≤ 67108864) same within in
    ok_is j k (sym (read_again j t v (counted_within j within)) ∙ ap joined_reading same ∙ read_again k u w (counted_within k also))

-- ---- what is read was spelled so

so_spelled : (b : Bool) (k j : Joined) → cond b (Some k) None ≡ Some j → (b ≡ true) × (k ≡ j)
so_spelled true k j e = (refl, same-some k j e)
so_spelled false k j e = absurd cc

if_tested : (t : Bool) (o : Option Joined) (k : Joined) → cond t o None ≡ Some k → (t ≡ true) × (o ≡ Some k)
if_tested true o k e = (refl, e)
if_tested false o k e = absurd cc

ok_joined : (r : Result Joined Clash) (k : Joined) → if_joined r ≡ Some k → r ≡ Ok k
ok_joined (Ok j) k e = ap Ok (same-some j k e)
ok_joined (Err clash) k e = absurd cc

read_sections : (bytes : List ℕ) (j : Joined) → joined_in bytes ≡ Some j → IsValidJoined j × (joined_sections j ≡ bytes)
read_sections bytes j e =
    let one = bind-some (all_of_joined bytes) (λ k. joined_anew k >>= if_spelling_is bytes) j e in
    let a : Package = run_package First one.0 in
    let b : Package = run_package Second one.0 in
    let two = bind-some (joined_anew one.0) (if_spelling_is bytes) j one.2 in
    let three = so_spelled (bytes_eq (joined_sections two.0) bytes) two.0 j two.2 in
    let four = if_tested (valid_test a && valid_test b) (if_joined (joined_of a b)) two.0 two.1 in
    let both = and-parts (valid_test a) (valid_test b) four.0 in
    let valid : IsValidJoined two.0 = valid_law a b two.0 both.0 both.1 refl refl (ok_joined (joined_of a b) two.0 four.1) in
    let same : joined_sections two.0 ≡ bytes = (bytes_eq-Decides (joined_sections two.0) bytes).0 three.0 in
    subst (λ (k : Joined). IsValidJoined k × (joined_sections k ≡ bytes)) three.1 (valid, same)

pub ok_read : (bytes : List ℕ) (j : Joined) → joined_reading bytes ≡ Ok j → IsJoinedRead bytes j
ok_read bytes j e =
    let tests = ok_tests (has_joined_magic bytes) (has_digest bytes) (joined_in (middle bytes)) j e in
    let read = read_sections (middle bytes) j tests.2 in
    let m : take 8 bytes ≡ joined_magic = (bytes_eq-Decides (take 8 bytes) joined_magic).0 tests.0 in
    let whole : bytes ≡ joined_spelling j =
    parts_of joined_magic bytes m (digest_fact bytes tests.1) ∙ ap (λ (s : List ℕ). (joined_magic ++ s) ++ sha256 (joined_magic ++ s)) (sym read.1) in
    (read.0, sym whole)

pub form_read : (bytes : List ℕ) → joined_reading bytes ≡ Err Form → HasDigest bytes × IsNoJoined bytes
form_read bytes e = (
  digest_fact bytes (form_tests (has_joined_magic bytes) (has_digest bytes) (joined_in (middle bytes)) e),
  λ j t v is.
      let no : read_as j ≡ Err Form = sym (read_again j t v is.counted) ∙ ap joined_reading is.same ∙ e in
      cc,
)

-- ---- what an answer says, which tells what reading gives

abbrev seen : Bool → Bool → Option DamageKind
seen m d = cond m (cond d None (Some Digest)) (Some Magic)

module _ (bytes : List ℕ) (r : Result Joined PackageStop) (due : JoinedReadsAs r (joined_reading bytes)) (once : IfSome (joined_damage_before bytes) (λ kind. r ≡ damaged kind)) where
  says : (kind : DamageKind) → r ≡ damaged kind → joined_reading bytes ≡ Err kind
  says kind e = subst (λ z. JoinedReadsAs z (joined_reading bytes)) e due

  at_once : (m d : Bool) (kind : DamageKind) → has_joined_magic bytes ≡ m → has_digest bytes ≡ d → seen m d ≡ Some kind → r ≡ damaged kind
  at_once m d kind e f is =
      let all : joined_damage_before bytes ≡ Some kind = (λ i. seen (e i) (f i)) ∙ is in
      subst (λ (o : Option DamageKind). IfSome o (λ kind. r ≡ damaged kind)) all once

  pub magic_is : (r ≡ damaged Magic) ↔ (has_joined_magic bytes ≡ false)
  magic_is = (
    λ e. magic_tests (has_joined_magic bytes) (has_digest bytes) (joined_in (middle bytes)) (says Magic e),
    λ none. at_once false (has_digest bytes) Magic none refl refl,
  )

  pub digest_is : (r ≡ damaged Digest) ↔ ((has_joined_magic bytes ≡ true) × (¬ HasDigest bytes))
  digest_is = (
    λ e.
        let tests = digest_tests (has_joined_magic bytes) (has_digest bytes) (joined_in (middle bytes)) (says Digest e) in
        (tests.0, λ h. true_not_false (has_digest bytes) (digest_test bytes h) tests.1),
    λ no. at_once true false Digest no.0 (not_true (has_digest bytes) (λ d. no.1 (digest_fact bytes d))) refl,
  )

  pub form_is : r ≡ damaged Form → HasDigest bytes × IsNoJoined bytes
  form_is e = form_read bytes (says Form e)

pub IfOk-joined_reading : (bytes : List ℕ) (r : Result Joined PackageStop) → JoinedReadsAs r (joined_reading bytes) → IfOk r (IsJoinedRead bytes)
IfOk-joined_reading bytes (Ok j) due = ok_read bytes j due
IfOk-joined_reading bytes (Err stop) due = tt

pub parsed_found : (bytes : List ℕ) (r : Result ParsedJoined PackageStop) → CompactJoinedReadsAs (cut_of r) (joined_reading bytes)
    → IfOk r (λ (p : ParsedJoined). IsJoinedRead bytes (whole_join p.cut))
parsed_found bytes (Ok p) due = ok_read bytes (whole_join p.cut) due
parsed_found bytes (Err stop) due = tt

-- ---- the answers

pub middle_ok : (bytes m : List ℕ) (r : CompactJoined) → IsBytes bytes → has_digest bytes ≡ true → m ≡ middle bytes → compact_joined_in m ≡ Some r
    → digested_reading bytes ≡ Ok (whole_join r)
middle_ok bytes m r h d is e =
    let o : joined_in (middle bytes) ≡ Some (whole_join r) =
    same_joined (middle bytes) (clean bytes h) ∙ ap (option_map whole_join) (ap compact_joined_in (sym is) ∙ e) in
    λ i. by_digest (d i) (o i)

pub middle_form : (bytes m : List ℕ) (e : DecodeStop) → IsBytes bytes → has_digest bytes ≡ true → m ≡ middle bytes → e ≡ Malformed
    → Makes {X = CompactJoined} (Err e) (compact_joined_in m) → digested_reading bytes ≡ Err Form
middle_form bytes m e h d is form none =
    let no : compact_joined_in m ≡ None = subst (λ (e : DecodeStop). Makes {X = CompactJoined} (Err e) (compact_joined_in m)) form none in
    let o : joined_in (middle bytes) ≡ None =
    same_joined (middle bytes) (clean bytes h) ∙ ap (option_map whole_join) (ap compact_joined_in (sym is) ∙ no) in
    λ i. by_digest (d i) (o i)

pub middle_first : (m : List ℕ) (r : CompactJoined) → compact_joined_in m ≡ Some r → are_runs r.first.runs ≡ true
middle_first m r e = (cuts_are_runs m r e).0

pub middle_second : (m : List ℕ) (r : CompactJoined) → compact_joined_in m ≡ Some r → are_runs r.second.runs ≡ true
middle_second m r e = (cuts_are_runs m r e).1

-- ---- the answer with all events

pub whole_due : (bytes : List ℕ) (r : CompactJoined) (o : Result Joined PackageStop) → joined_reading bytes ≡ Ok (whole_join r)
    → IfOk o (λ j. j ≡ whole_join r) → ((stop : PackageStop) → o ≡ Err stop → stop ≡ NoMemory) → JoinedReadsAs o (joined_reading bytes)
whole_due bytes r (Ok j) due is none = due ∙ (λ i. Ok (sym is i))
whole_due bytes r (Err NoMemory) due is none = tt
whole_due bytes r (Err (Damaged kind)) due is none = let no : Damaged kind ≡ NoMemory = none (Damaged kind) refl in absurd cc

pub not_damaged : (bytes : List ℕ) (r : CompactJoined) (o : Result Joined PackageStop) → IfSome (joined_damage_before bytes) (λ kind. Ok r ≡ damaged {X = CompactJoined} kind)
    → IfSome (joined_damage_before bytes) (λ kind. o ≡ damaged kind)
not_damaged bytes r o once = by (joined_damage_before bytes) once
  where
    by : (d : Option DamageKind) → IfSome d (λ kind. Ok r ≡ damaged {X = CompactJoined} kind) → IfSome d (λ kind. o ≡ damaged kind)
    by None h = tt
    by (Some kind) h = absurd cc

same_stop : (stop other : PackageStop) → stopped {X = CompactJoined} stop ≡ stopped {X = CompactJoined} other → stop ≡ other
same_stop stop other e = cc

pub stop_once : (bytes : List ℕ) (stop : PackageStop) (o : Result Joined PackageStop) → o ≡ Err stop
    → IfSome (joined_damage_before bytes) (λ kind. Err stop ≡ damaged {X = CompactJoined} kind) → IfSome (joined_damage_before bytes) (λ kind. o ≡ damaged kind)
stop_once bytes stop o is once = by (joined_damage_before bytes) once
  where
    by : (d : Option DamageKind) → IfSome d (λ kind. Err stop ≡ damaged {X = CompactJoined} kind) → IfSome d (λ kind. o ≡ damaged kind)
    by None h = tt
    by (Some kind) h = is ∙ ap (stopped {X = Joined}) (same_stop stop (Damaged kind) h)

pub stop_due : (bytes : List ℕ) (stop : PackageStop) → CompactJoinedReadsAs (Err stop) (joined_reading bytes) → JoinedReadsAs (Err stop) (joined_reading bytes)
stop_due bytes (Damaged kind) due = due
stop_due bytes NoMemory due = tt

-- ---- the answer with the scripts of both runs

abbrev whole_of : Result ParsedJoined PackageStop → Result Joined PackageStop
whole_of (Ok p) = Ok (whole_join p.cut)
whole_of (Err stop) = Err stop

whole_says : (r : Result ParsedJoined PackageStop) (due : Result Joined DamageKind) → CompactJoinedReadsAs (cut_of r) due → JoinedReadsAs (whole_of r) due
whole_says (Ok p) due h = h
whole_says (Err (Damaged kind)) due h = h
whole_says (Err NoMemory) due h = tt

whole_once : (r : Result ParsedJoined PackageStop) (o : Option DamageKind) → IfSome o (λ kind. cut_of r ≡ damaged kind) → IfSome o (λ kind. whole_of r ≡ damaged kind)
whole_once r None h = tt
whole_once (Ok p) (Some kind) h = absurd cc
whole_once (Err stop) (Some kind) h = ap (stopped {X = Joined}) (same_stop stop (Damaged kind) h)

parsed_err : (r : Result ParsedJoined PackageStop) (kind : DamageKind) → whole_of r ≡ damaged kind → r ≡ damaged kind
parsed_err (Ok p) kind e = absurd cc
parsed_err (Err stop) kind e = ap (stopped {X = ParsedJoined}) (whole_stop stop (Damaged kind) e)
  where
    whole_stop : (stop other : PackageStop) → stopped {X = Joined} stop ≡ stopped {X = Joined} other → stop ≡ other
    whole_stop stop other e = cc

module _ (bytes : List ℕ) (r : Result ParsedJoined PackageStop) (due : CompactJoinedReadsAs (cut_of r) (joined_reading bytes)) (once : IfSome (joined_damage_before bytes) (λ kind. cut_of r ≡ damaged kind)) where
  says_whole : JoinedReadsAs (whole_of r) (joined_reading bytes)
  says_whole = whole_says r (joined_reading bytes) due

  at_once_whole : IfSome (joined_damage_before bytes) (λ kind. whole_of r ≡ damaged kind)
  at_once_whole = whole_once r (joined_damage_before bytes) once

  pub parsed_magic : (r ≡ damaged Magic) ↔ (has_joined_magic bytes ≡ false)
  parsed_magic =
      let both = magic_is bytes (whole_of r) says_whole at_once_whole in
      (λ e. both.0 (ap whole_of e), λ none. parsed_err r Magic (both.1 none))

  pub parsed_digest : (r ≡ damaged Digest) ↔ ((has_joined_magic bytes ≡ true) × (¬ HasDigest bytes))
  parsed_digest =
      let both = digest_is bytes (whole_of r) says_whole at_once_whole in
      (λ e. both.0 (ap whole_of e), λ no. parsed_err r Digest (both.1 no))

  pub parsed_form : r ≡ damaged Form → HasDigest bytes × IsNoJoined bytes
  parsed_form e = form_is bytes (whole_of r) says_whole at_once_whole (ap whole_of e)
