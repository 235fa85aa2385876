-- Packages and their bytes.
use Rattle.std.proofs.Common.{◌≡◌, ℕ, ◌+◌, ◌-◌, ◌<◌, ◌≤◌, Bool, true, false, cond, List, ◌++◌, length, take, drop, Option, Some, None, Result, Ok, Err, refl, sym, ap, subst, ◌∙◌, arith, IsSome}
use Rattle.std.specs.Prelude.{bytes_eq, nat_le, IfOk, IfSome, IsTrue, ◌↔◌, ◌&&◌}
use Rattle.std.specs.List.{list_all}
use Rattle.std.proofs.lemmas.Bool.{leb-true, le-leb}
use Rattle.std.proofs.lemmas.Slice.Eq.{bytes_eq-Decides}
use Rattle.std.proofs.lemmas.List.{take_at, drop_at, take-append-drop, take-take, length-append}
use Rattle.ldv_value.proofs.Booleans.{and-parts, and-from}
use Rattle.ldv_value.proofs.Lists.{list_all-weaker}
use Rattle.ldv_value.proofs.Options.{bind-some, same-some}
use Rattle.sha2.specs.Sha256.{sha256}
use Rattle.sha2.proofs.Facts256.{length-sha256}
use Rattle.run_model.specs.declared.package.Package.{Package}
use Rattle.package_layout.specs.declared.damage.DamageKind.{DamageKind}
use Rattle.package_layout.specs.declared.damage.DamageKind.TheVariants.{Magic, Digest, Form}
use Rattle.package_layout.specs.declared.layout.PackageStop.{PackageStop}
use Rattle.package_layout.specs.declared.layout.PackageStop.TheVariants.{Damaged, NoMemory}
use Rattle.package_codec.specs.declared.compact_package.ParsedPackage.{ParsedPackage}
use Rattle.package_codec.specs.declared.compact_package.CompactPackage.{CompactPackage}
use Rattle.package_layout.specs.Counted.{IsCounted}
use Rattle.package_codec.specs.Plain.{has_no_foreign, is_plain_row, is_plain_table, is_plain_log, is_plain_event, has_tables, fits_version}
use Rattle.package_layout.specs.ReadResult.{ReadsAs, CompactReadsAs, damage_by, damage_before}
use Rattle.package_codec.specs.CompactPackages.{expanded_package}
use Rattle.package_codec.specs.Runs.{IsCut, are_runs}
use Rattle.package_layout.specs.StartScript.{cut_of}
use Rattle.package_layout.specs.Valid.{rules, IsValidPackage, HasDigest, IsSpelling, IsSpelled, IsNoSpelling, IsUnspelled, before_digest, middle, kept_if, package_in, has_digest, form_of, reading_as, reading_by, reading}
use Rattle.package_codec.specs.declared.version.Version.{Version}
use Rattle.package_codec.specs.declared.version.Version.TheVariants.{One, Two}
use Rattle.package_codec.specs.Version.{magic, HasMagic, version_of}
use Rattle.package_layout.specs.Whole.{sections, body, spelling_as, IsTyped, has_room, all_of}
use Rattle.package_codec.proofs.Laws.{IsBytes, IsBytes-take, IsBytes-drop, just}
use Rattle.package_codec.proofs.Runs.{is_cut}
use Rattle.package_codec.proofs.Versions.{magic_length, version_is, version_fact}
use Rattle.package_layout.proofs.Whole.{sections_law, all_again, all_took}

-- ---- tests

pub digest_fact : (bytes : List ℕ) → has_digest bytes ≡ true → HasDigest bytes
digest_fact bytes h =
    let same_test = bytes_eq (drop (length bytes - 32) bytes) (sha256 (before_digest bytes)) in
    let both = and-parts (nat_le 40 (length bytes)) same_test h in
    record { long = leb-true 40 (length bytes) both.0; same = (bytes_eq-Decides (drop (length bytes - 32) bytes) (sha256 (before_digest bytes))).0 both.1 }

pub digest_test : (bytes : List ℕ) → HasDigest bytes → has_digest bytes ≡ true
digest_test bytes h = and-from (nat_le 40 (length bytes)) (bytes_eq (drop (length bytes - 32) bytes) (sha256 (before_digest bytes))) (le-leb 40 (length bytes) h.long) ((bytes_eq-Decides (drop (length bytes - 32) bytes) (sha256 (before_digest bytes))).1 h.same)

pub true_not_false : {Z : Type 0} (b : Bool) → b ≡ true → b ≡ false → Z
true_not_false b h k = let e : true ≡ false = sym h ∙ k in cc

pub not_true : (b : Bool) → ¬ (b ≡ true) → b ≡ false
not_true true h = absurd (h refl)
not_true false h = refl

-- ---- cases

abbrev cases_of : Bool → Option Package → Result Package DamageKind
cases_of d o = cond d (form_of o) (Err Digest)

from_tests : (d : Bool) (o : Option Package) (p : Package) → d ≡ true → o ≡ Some p → cases_of d o ≡ Ok p
from_tests d o p b c = rw (b, c) refl

abbrev read_as : {E : Type 0} → Package → Result Package E
read_as p = Ok p

ok_is : (p q : Package) → read_as {E = DamageKind} p ≡ read_as {E = DamageKind} q → p ≡ q
ok_is p q e = cc

kept : (b : Bool) (p : Package) → b ≡ true → kept_if b p ≡ Some p
kept b p h = rw h refl

kept_is : (b : Bool) (p q : Package) → kept_if b p ≡ Some q → (b ≡ true) × (p ≡ q)
kept_is true p q e = (refl, same-some p q e)
kept_is false p q e = absurd cc

-- what the tests were where a package was read, and where none was
ok_tests : (d : Bool) (o : Option Package) (p : Package) → cases_of d o ≡ Ok p → (d ≡ true) × (o ≡ Some p)
ok_tests true (Some q) p e = (refl, ap just (ok_is q p e))
ok_tests true None p e = absurd cc
ok_tests false o p e = absurd cc

form_tests : (d : Bool) (o : Option Package) → cases_of d o ≡ Err Form → d ≡ true
form_tests true o e = refl
form_tests false o e = absurd cc

no_magic : {Z : Type 0} (d : Bool) (o : Option Package) → cases_of d o ≡ Err Magic → Z
no_magic true (Some p) e = absurd cc
no_magic true None e = absurd cc
no_magic false o e = absurd cc

digest_seen : (d : Bool) (o : Option Package) → cases_of d o ≡ Err Digest → d ≡ false
digest_seen true (Some p) e = absurd cc
digest_seen true None e = absurd cc
digest_seen false o e = refl

-- what a version has of tables, where it has all that is in the package
pub fit_tables : (v : Version) (p : Package) → fits_version v p ≡ true → has_tables v p ≡ true
fit_tables One p h =
    let a = and-parts (list_all is_plain_table p.tables && list_all is_plain_log p.logs) (list_all is_plain_event p.events) h in
    let b = and-parts (list_all is_plain_table p.tables) (list_all is_plain_log p.logs) a.0 in
    list_all-weaker is_plain_table has_no_foreign (λ t met. (and-parts (has_no_foreign t) (list_all is_plain_row t.rows) met).0) p.tables b.0
fit_tables Two p h = refl

-- ---- a package that was read

pub record IsRead (v : Version) (bytes : List ℕ) (p : Package) : Type 0 where
  pub is_typed : IsTyped p
  pub is_valid : IsValidPackage p
  pub spells : IsSpelling v p bytes

-- ---- each version

module _ (version : Version) where
  -- ---- a spelling and its parts

  long_body : (p : Package) → 8 ≤ length (body version p)
  long_body p = omega (arith, magic_length version, length-append (magic version) (sections version p))

  spelling_length : (p : Package) → length (spelling_as version p) ≡ length (body version p) + 32
  spelling_length p = length-append (body version p) (sha256 (body version p)) ∙ ap (λ n. length (body version p) + n) (length-sha256 (body version p))

  body_before : (p : Package) → before_digest (spelling_as version p) ≡ body version p
  body_before p = let e : length (body version p) ≡ length (spelling_as version p) - 32 = omega (arith, spelling_length p) in take_at (body version p) (sha256 (body version p)) (length (spelling_as version p) - 32) e

  digest_after : (p : Package) → drop (length (spelling_as version p) - 32) (spelling_as version p) ≡ sha256 (body version p)
  digest_after p = let e : length (body version p) ≡ length (spelling_as version p) - 32 = omega (arith, spelling_length p) in drop_at (body version p) (sha256 (body version p)) (length (spelling_as version p) - 32) e

  spelled_digest : (p : Package) → HasDigest (spelling_as version p)
  spelled_digest p = record { long = omega (arith, spelling_length p, long_body p); same = digest_after p ∙ ap sha256 (sym (body_before p)) }

  spelled_magic : (p : Package) → HasMagic version (spelling_as version p)
  spelled_magic p =
      let one : take 8 (body version p) ≡ magic version = take_at (magic version) (sections version p) 8 (magic_length version) in
      let front : take 8 (before_digest (spelling_as version p)) ≡ magic version = ap (take 8) (body_before p) ∙ one in
      let shorter : 8 ≤ length (spelling_as version p) - 32 = omega (arith, spelling_length p, long_body p) in
      sym (take-take 8 (length (spelling_as version p) - 32) (spelling_as version p) shorter) ∙ front

  spelled_middle : (p : Package) → middle (spelling_as version p) ≡ sections version p
  spelled_middle p = ap (drop 8) (body_before p) ∙ drop_at (magic version) (sections version p) 8 (magic_length version)

  -- ---- what is spelled is read

  section_again : (p : Package) → IsTyped p → IsValidPackage p → fits_version version p ≡ true → IsCounted version p → package_in version (sections version p) ≡ Some p
  section_again p t v f n =
      let both = and-parts (has_room p) (rules p) v in
      let one : all_of version (sections version p) ≡ Some p = all_again version p t both.0 (fit_tables version p f) n in
      rw one (kept (rules p && fits_version version p) p (and-from (rules p) (fits_version version p) both.1 f))

  read_again : (p : Package) → IsTyped p → IsValidPackage p → fits_version version p ≡ true → IsCounted version p → reading_as version (spelling_as version p) ≡ Ok p
  read_again p t v f n =
      let d : has_digest (spelling_as version p) ≡ true = digest_test (spelling_as version p) (spelled_digest p) in
      let i : package_in version (middle (spelling_as version p)) ≡ Some p = ap (package_in version) (spelled_middle p) ∙ section_again p t v f n in
      from_tests (has_digest (spelling_as version p)) (package_in version (middle (spelling_as version p))) p d i

  pub reads_back : (p : Package) → IsTyped p → IsValidPackage p → IsTrue (fits_version version p) → IsCounted version p → reading (spelling_as version p) ≡ Ok p
  reads_back p t v f n =
      let bytes : List ℕ = spelling_as version p in
      ap (λ (o : Option Version). reading_by o bytes) (version_is version bytes (spelled_magic p)) ∙ read_again p t v f n

  -- the tables are what the version has, whatever rules and replies are
  pub one_spelling : (p q : Package) → IsTyped p → IsTyped q → IsValidPackage p → IsValidPackage q → IsTrue (has_tables version p) → IsTrue (has_tables version q) → IsCounted version p → IsCounted version q → spelling_as version p ≡ spelling_as version q → p ≡ q
  one_spelling p q t u v w f g n m e =
      let same : sections version p ≡ sections version q = sym (spelled_middle p) ∙ ap middle e ∙ spelled_middle q in
      let first : all_of version (sections version p) ≡ Some p = all_again version p t (and-parts (has_room p) (rules p) v).0 f n in
      let second : all_of version (sections version q) ≡ Some q = all_again version q u (and-parts (has_room q) (rules q) w).0 g m in
      same-some p q (sym first ∙ ap (all_of version) same ∙ second)

  -- each item has a byte at least, so that all counts of a short spelling fit
  pub counted_within : (p : Package) → length (spelling_as version p) ≤ 67108864 → IsCounted version p
  counted_within p within = (sections_law version).short p (omega (arith, spelling_length p, length-append (magic version) (sections version p)))

  -- ---- what is read was spelled so

  parts_of : (bytes : List ℕ) → HasMagic version bytes → HasDigest bytes → bytes ≡ (magic version ++ middle bytes) ++ sha256 (magic version ++ middle bytes)
  parts_of bytes m d =
      let shorter : 8 ≤ length bytes - 32 = omega (arith, d.long) in
      let front : take 8 (before_digest bytes) ≡ magic version = take-take 8 (length bytes - 32) bytes shorter ∙ m in
      let whole : before_digest bytes ≡ magic version ++ middle bytes = sym (take-append-drop 8 (before_digest bytes)) ∙ ap (λ (l : List ℕ). l ++ middle bytes) front in
      sym (take-append-drop (length bytes - 32) bytes) ∙ ap (λ (l : List ℕ). before_digest bytes ++ l) d.same ∙ ap (λ (l : List ℕ). l ++ sha256 l) whole

  read_is : (bytes : List ℕ) (p : Package) → IsBytes bytes → HasMagic version bytes → reading_as version bytes ≡ Ok p → IsRead version bytes p
  read_is bytes p h m e =
      let tests = ok_tests (has_digest bytes) (package_in version (middle bytes)) p e in
      let first = bind-some (all_of version (middle bytes)) (λ q. kept_if (rules q && fits_version version q) q) p tests.1 in
      let q = first.0 in
      let clean : IsBytes (middle bytes) = IsBytes-drop 8 (before_digest bytes) (IsBytes-take (length bytes - 32) bytes h) in
      let k = all_took version (middle bytes) q clean first.1 in
      let l = kept_is (rules q && fits_version version q) q p first.2 in
      let met = and-parts (rules q) (fits_version version q) l.0 in
      let whole : bytes ≡ spelling_as version q = parts_of bytes m (digest_fact bytes tests.0) ∙ ap (λ (s : List ℕ). (magic version ++ s) ++ sha256 (magic version ++ s)) k.0 in
      subst (IsRead version bytes) l.1 (record { is_typed = k.1; is_valid = and-from (has_room q) (rules q) k.2 met.0; spells = record { room = k.2; fits = met.1; counted = k.3; same = sym whole } })

  no_form : (bytes : List ℕ) → reading_as version bytes ≡ Err Form → HasDigest bytes × IsNoSpelling version bytes
  no_form bytes e = (
    digest_fact bytes (form_tests (has_digest bytes) (package_in version (middle bytes)) e),
    λ p t v is.
        let no : read_as p ≡ Err Form = sym (read_again p t v is.fits is.counted) ∙ ap (reading_as version) is.same ∙ e in
        cc,
  )

-- ---- both versions

-- no bytes have both magics
pub no_both : (p q : Package) → ¬ (spelling_as One p ≡ spelling_as Two q)
no_both p q e =
    let two : HasMagic Two (spelling_as One p) = ap (take 8) e ∙ spelled_magic Two q in
    let same : Some One ≡ Some Two = sym (version_is One (spelling_as One p) (spelled_magic One p)) ∙ version_is Two (spelling_as One p) two in
    cc

-- ---- what reading says of bytes

module _ (bytes : List ℕ) where
  read_as_is : (o : Option Version) (p : Package) → version_of bytes ≡ o → IsBytes bytes → reading_by o bytes ≡ Ok p → IsTyped p × IsValidPackage p × IsSpelled bytes p
  read_as_is (Some v) p is h e = let k = read_is v bytes p h (version_fact v bytes is) e in (k.is_typed, k.is_valid, (v, is, k.spells))
  read_as_is None p is h e = absurd cc

  ok_read : (p : Package) → IsBytes bytes → reading bytes ≡ Ok p → IsTyped p × IsValidPackage p × IsSpelled bytes p
  ok_read p h e = read_as_is (version_of bytes) p refl h e

  form_by : (o : Option Version) → version_of bytes ≡ o → reading_by o bytes ≡ Err Form → HasDigest bytes × IsUnspelled bytes
  form_by (Some v) is e = let k = no_form v bytes e in (k.0, (v, is, k.1))
  form_by None is e = absurd cc

  magic_by : (o : Option Version) → reading_by o bytes ≡ Err Magic → o ≡ None
  magic_by (Some v) e = no_magic (has_digest bytes) (package_in v (middle bytes)) e
  magic_by None e = refl

  digest_by : (o : Option Version) → reading_by o bytes ≡ Err Digest → IsSome o × (¬ HasDigest bytes)
  digest_by (Some v) e =
      (refl, λ h. true_not_false (has_digest bytes) (digest_test bytes h) (digest_seen (has_digest bytes) (package_in v (middle bytes)) e))
  digest_by None e = absurd cc

  some_damage : (o : Option Version) → IsSome o → ¬ HasDigest bytes → damage_by o bytes ≡ Some Digest
  some_damage (Some v) some h = rw (not_true (has_digest bytes) (λ d. h (digest_fact bytes d))) refl
  some_damage None some h = let no : false ≡ true = some in absurd cc

-- ---- what an answer says, which tells what reading gives

abbrev pub damaged : {X : Type 0} → DamageKind → Result X PackageStop
damaged kind = Err (Damaged kind)

module _ {X : Type 0} (bytes : List ℕ) (r : Result X PackageStop) (says : (kind : DamageKind) → r ≡ damaged kind → reading bytes ≡ Err kind) (once : IfSome (damage_before bytes) (λ kind. r ≡ damaged kind)) where
  at_once : (kind : DamageKind) → damage_before bytes ≡ Some kind → r ≡ damaged kind
  at_once kind is = subst (λ (o : Option DamageKind). IfSome o (λ kind. r ≡ damaged kind)) is once

  magic_answer : (r ≡ damaged Magic) ↔ (version_of bytes ≡ None)
  magic_answer = (λ e. magic_by bytes (version_of bytes) (says Magic e), λ none. at_once Magic (ap (λ (o : Option Version). damage_by o bytes) none))

  digest_answer : (r ≡ damaged Digest) ↔ (IsSome (version_of bytes) × (¬ HasDigest bytes))
  digest_answer = (λ e. digest_by bytes (version_of bytes) (says Digest e), λ no. at_once Digest (some_damage bytes (version_of bytes) no.0 no.1))

  form_answer : r ≡ damaged Form → HasDigest bytes × IsUnspelled bytes
  form_answer e = form_by bytes (version_of bytes) refl (says Form e)

read_says : (bytes : List ℕ) (r : Result Package PackageStop) → ReadsAs r (reading bytes) → (kind : DamageKind) → r ≡ damaged kind → reading bytes ≡ Err kind
read_says bytes r due kind e = subst (λ z. ReadsAs z (reading bytes)) e due

runs_say : (bytes : List ℕ) (r : Result CompactPackage PackageStop) → CompactReadsAs r (reading bytes) → (kind : DamageKind) → r ≡ damaged kind → reading bytes ≡ Err kind
runs_say bytes r due kind e = subst (λ z. CompactReadsAs z (reading bytes)) e due

pub IfOk-reading : (bytes : List ℕ) (r : Result Package PackageStop) → IsBytes bytes → ReadsAs r (reading bytes) → IfOk r (λ p. IsTyped p × IsValidPackage p × IsSpelled bytes p)
IfOk-reading bytes (Ok p) h due = ok_read bytes p h due
IfOk-reading bytes (Err stop) h due = tt

pub magic_is : (bytes : List ℕ) (r : Result Package PackageStop) → ReadsAs r (reading bytes) → IfSome (damage_before bytes) (λ kind. r ≡ damaged kind) → (r ≡ damaged Magic) ↔ (version_of bytes ≡ None)
magic_is bytes r due once = magic_answer bytes r (read_says bytes r due) once

pub digest_is : (bytes : List ℕ) (r : Result Package PackageStop) → ReadsAs r (reading bytes) → IfSome (damage_before bytes) (λ kind. r ≡ damaged kind) → (r ≡ damaged Digest) ↔ (IsSome (version_of bytes) × (¬ HasDigest bytes))
digest_is bytes r due once = digest_answer bytes r (read_says bytes r due) once

pub form_is : (bytes : List ℕ) (r : Result Package PackageStop) → ReadsAs r (reading bytes) → IfSome (damage_before bytes) (λ kind. r ≡ damaged kind) → r ≡ damaged Form → HasDigest bytes × IsUnspelled bytes
form_is bytes r due once = form_answer bytes r (read_says bytes r due) once

pub runs_found : (bytes : List ℕ) (r : Result CompactPackage PackageStop) → IsBytes bytes → CompactReadsAs r (reading bytes) → IfOk r (λ r. IsTyped (expanded_package r) × IsValidPackage (expanded_package r) × IsSpelled bytes (expanded_package r))
runs_found bytes (Ok r) h due = ok_read bytes (expanded_package r) h due
runs_found bytes (Err stop) h due = tt

pub parsed_found : (bytes : List ℕ) (r : Result ParsedPackage PackageStop) → IsBytes bytes → CompactReadsAs (cut_of r) (reading bytes)
    → IfOk r (λ (p : ParsedPackage). IsTyped (expanded_package p.cut) × IsValidPackage (expanded_package p.cut) × IsSpelled bytes (expanded_package p.cut))
parsed_found bytes (Ok p) h due = ok_read bytes (expanded_package p.cut) h due
parsed_found bytes (Err stop) h due = tt

pub runs_magic : (bytes : List ℕ) (r : Result CompactPackage PackageStop) → CompactReadsAs r (reading bytes) → IfSome (damage_before bytes) (λ kind. r ≡ damaged kind) → (r ≡ damaged Magic) ↔ (version_of bytes ≡ None)
runs_magic bytes r due once = magic_answer bytes r (runs_say bytes r due) once

pub runs_digest : (bytes : List ℕ) (r : Result CompactPackage PackageStop) → CompactReadsAs r (reading bytes) → IfSome (damage_before bytes) (λ kind. r ≡ damaged kind) → (r ≡ damaged Digest) ↔ (IsSome (version_of bytes) × (¬ HasDigest bytes))
runs_digest bytes r due once = digest_answer bytes r (runs_say bytes r due) once

pub runs_form : (bytes : List ℕ) (r : Result CompactPackage PackageStop) → CompactReadsAs r (reading bytes) → IfSome (damage_before bytes) (λ kind. r ≡ damaged kind) → r ≡ damaged Form → HasDigest bytes × IsUnspelled bytes
runs_form bytes r due once = form_answer bytes r (runs_say bytes r due) once

-- ---- the answer by the version

by_digest : (d : Bool) (r : Result CompactPackage PackageStop) → (d ≡ false → r ≡ damaged Digest) → IfSome (cond d None (Some Digest)) (λ kind. r ≡ damaged kind)
by_digest true r h = tt
by_digest false r h = h refl

pub some_due : (bytes : List ℕ) (v : Version) (r : Result CompactPackage PackageStop) → Some v ≡ version_of bytes → CompactReadsAs r (reading_as v bytes) → CompactReadsAs r (reading bytes)
some_due bytes v r is due = subst (λ (o : Option Version). CompactReadsAs r (reading_by o bytes)) is due

pub some_once : (bytes : List ℕ) (v : Version) (r : Result CompactPackage PackageStop) → Some v ≡ version_of bytes → (has_digest bytes ≡ false → r ≡ damaged Digest)
    → IfSome (damage_before bytes) (λ kind. r ≡ damaged kind)
some_once bytes v r is h = subst (λ (o : Option Version). IfSome (damage_by o bytes) (λ kind. r ≡ damaged kind)) is (by_digest (has_digest bytes) r h)

pub none_due : (bytes : List ℕ) → None ≡ version_of bytes → reading bytes ≡ Err Magic
none_due bytes is = ap (λ (o : Option Version). reading_by o bytes) (sym is)

pub none_once : (bytes : List ℕ) (r : Result CompactPackage PackageStop) → None ≡ version_of bytes → r ≡ damaged Magic → IfSome (damage_before bytes) (λ kind. r ≡ damaged kind)
none_once bytes r is e = subst (λ (o : Option Version). IfSome (damage_by o bytes) (λ kind. r ≡ damaged kind)) is e

-- ---- the answer with all events

pub whole_due : (bytes : List ℕ) (r : CompactPackage) (o : Result Package PackageStop) → reading bytes ≡ Ok (expanded_package r) → IfOk o (λ p. p ≡ expanded_package r) → ((stop : PackageStop) → o ≡ Err stop → stop ≡ NoMemory)
    → ReadsAs o (reading bytes)
whole_due bytes r (Ok p) due is none = due ∙ (λ j. Ok (sym is j))
whole_due bytes r (Err NoMemory) due is none = tt
whole_due bytes r (Err (Damaged kind)) due is none = let no : Damaged kind ≡ NoMemory = none (Damaged kind) refl in absurd cc

-- nothing was seen before where a package was read
pub not_damaged : (bytes : List ℕ) (r : CompactPackage) (o : Result Package PackageStop) → IfSome (damage_before bytes) (λ kind. Ok r ≡ damaged {X = CompactPackage} kind) → IfSome (damage_before bytes) (λ kind. o ≡ damaged kind)
not_damaged bytes r o once = by (damage_before bytes) once
  where
    by : (d : Option DamageKind) → IfSome d (λ kind. Ok r ≡ damaged {X = CompactPackage} kind) → IfSome d (λ kind. o ≡ damaged kind)
    by None h = tt
    by (Some kind) h = absurd cc

abbrev pub stopped : {X : Type 0} → PackageStop → Result X PackageStop
stopped stop = Err stop

same_stop : (stop other : PackageStop) → stopped {X = CompactPackage} stop ≡ stopped {X = CompactPackage} other → stop ≡ other
same_stop stop other e = cc

pub stop_once : (bytes : List ℕ) (stop : PackageStop) (o : Result Package PackageStop) → o ≡ Err stop → IfSome (damage_before bytes) (λ kind. Err stop ≡ damaged {X = CompactPackage} kind) → IfSome (damage_before bytes) (λ kind. o ≡ damaged kind)
stop_once bytes stop o is once = by (damage_before bytes) once
  where
    by : (d : Option DamageKind) → IfSome d (λ kind. Err stop ≡ damaged {X = CompactPackage} kind) → IfSome d (λ kind. o ≡ damaged kind)
    by None h = tt
    by (Some kind) h = is ∙ ap (stopped {X = Package}) (same_stop stop (Damaged kind) h)

pub stop_due : (bytes : List ℕ) (stop : PackageStop) → CompactReadsAs (Err stop) (reading bytes) → ReadsAs (Err stop) (reading bytes)
stop_due bytes (Damaged kind) due = due
stop_due bytes NoMemory due = tt

-- ---- how long a spelling is

pub too_long_is : (b : List ℕ) (n : ℕ) → n ≡ length b → 67108832 < n → 67108864 < length (b ++ sha256 b)
too_long_is b n len lt = omega (arith, length-append b (sha256 b), length-sha256 b)

pub within_limit : (b d : List ℕ) (n : ℕ) → n ≡ length b → n ≤ 67108832 → d ≡ b ++ sha256 b → length d ≤ 67108864
within_limit b d n len le e = omega (arith, ap length e, length-append b (sha256 b), length-sha256 b)

pub runs_cut : (r : Result CompactPackage PackageStop) → IfOk r (λ r. are_runs r.runs ≡ true) → IfOk r (λ r. IsCut r.runs)
runs_cut (Ok r) h = is_cut r.runs h
runs_cut (Err stop) h = tt

-- ---- the same of what was read with its script

pub parsed_cut : (r : Result ParsedPackage PackageStop) → IfOk r (λ p. are_runs p.cut.runs ≡ true) → IfOk r (λ p. IsCut p.cut.runs)
parsed_cut (Ok p) h = is_cut p.cut.runs h
parsed_cut (Err stop) h = tt

parsed_err : (r : Result ParsedPackage PackageStop) (kind : DamageKind) → cut_of r ≡ damaged kind → r ≡ damaged kind
parsed_err (Ok p) kind e = absurd cc
parsed_err (Err stop) kind e = ap (stopped {X = ParsedPackage}) (same_stop stop (Damaged kind) e)

module _ (bytes : List ℕ) (r : Result ParsedPackage PackageStop) (due : CompactReadsAs (cut_of r) (reading bytes)) (once : IfSome (damage_before bytes) (λ kind. cut_of r ≡ damaged kind)) where
  pub parsed_magic : (r ≡ damaged Magic) ↔ (version_of bytes ≡ None)
  parsed_magic =
      let both = runs_magic bytes (cut_of r) due once in
      (λ e. both.0 (ap cut_of e), λ none. parsed_err r Magic (both.1 none))

  pub parsed_digest : (r ≡ damaged Digest) ↔ (IsSome (version_of bytes) × (¬ HasDigest bytes))
  parsed_digest =
      let both = runs_digest bytes (cut_of r) due once in
      (λ e. both.0 (ap cut_of e), λ no. parsed_err r Digest (both.1 no))

  pub parsed_form : r ≡ damaged Form → HasDigest bytes × IsUnspelled bytes
  parsed_form e = runs_form bytes (cut_of r) due once (ap cut_of e)
