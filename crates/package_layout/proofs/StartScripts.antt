-- The first script of a package: when there is one, and that its own world starts with it.
use Rattle.std.proofs.Common.{◌≡◌, ℕ, List, [], ◌∷◌, length, map, find, Bool, true, false, if◌then◌else◌, Option, Some, None, is_some, refl, sym, ap, ◌∙◌}
use Rattle.std.specs.Prelude.{◌&&◌, nat_le, bytes_eq, option_map, Result, Ok, Err, IfOk}
use Rattle.ldv_value.proofs.Booleans.{and-true, and-false, and-parts}
use Rattle.ldv_value.specs.Limits.{file_limit}
use Rattle.script_parse.specs.Script.{script_of}
use Rattle.script_parse.specs.declared.script.Instr.{Instr}
use Rattle.run_model.proofs.StartScripts.{first_script, own_at, world_script}
use Rattle.run_model.specs.Package.{or_empty, own_file, own_world}
use Rattle.run_model.specs.Start.{start_script}
use Rattle.run_model.specs.declared.package.Package.{Package}
use Rattle.run_model.specs.declared.package.PackedFile.{PackedFile}
use Rattle.package_codec.specs.declared.decode_stop.DecodeStop.{DecodeStop}
use Rattle.package_codec.specs.declared.compact_package.ParsedPackage.{ParsedPackage}
use Rattle.package_codec.specs.declared.compact_package.CompactPackage.{CompactPackage}
use Rattle.package_codec.specs.Fields.{◌>>=◌}
use Rattle.package_codec.specs.Plain.{fits_version}
use Rattle.package_codec.specs.CompactPackages.{expanded_package}
use Rattle.package_layout.specs.CompactReading.{compact_rules, compact_sections_of, compact_in}
use Rattle.package_codec.specs.Runs.{are_runs}
use Rattle.package_layout.specs.StartScript.{StartsWith, file_script, package_if, packed_script, ruled_script, script_in, valid_script}
use Rattle.package_layout.specs.Valid.{is_script, is_script_file, parts_rule, rules, script_rule, whole_rule}
use Rattle.package_codec.specs.declared.version.Version.{Version}

-- ---- there is one exactly where the rules are met

by_limit : (b : Bool) (o : Option (List Instr)) → is_some (if b then o else None) ≡ (b && is_some o)
by_limit true o = refl
by_limit false o = refl

content_there : (o : Option (List ℕ)) → is_some (script_in o) ≡ is_script o
content_there None = refl
content_there (Some bytes) = by_limit (nat_le (length bytes) file_limit) (script_of bytes)

file_there : (o : Option PackedFile) → is_some (file_script o) ≡ is_script_file o
file_there None = refl
file_there (Some file) = content_there file.content

pub script_there : (start : List (List ℕ)) (files : List PackedFile) → is_some (packed_script start files) ≡ script_rule start files
script_there [] files = refl
script_there (word ∷ words) files = file_there (find (λ f. bytes_eq word f.path) files)

by_tests : (a f p w s : Bool) (o : Option (List Instr)) → is_some o ≡ s
    → is_some (if a then (if f then (if p then (if w then o else None) else None) else None) else None) ≡ (a && ((p && w && s) && f))
by_tests false f p w s o is = refl
by_tests true false p w s o is = sym (and-false (p && w && s))
by_tests true true false w s o is = refl
by_tests true true true false s o is = refl
by_tests true true true true s o is = is ∙ sym (and-true s)

pub valid_rules : (v : Version) (r : CompactPackage) → is_some (valid_script v r) ≡ compact_rules v r
valid_rules v r =
    let p : Package = expanded_package r in
    by_tests (are_runs r.runs) (fits_version v p) (parts_rule p) (whole_rule p) (script_rule p.start p.files) (packed_script p.start p.files)
    (script_there p.start p.files)

-- and the rules are met
pub script_ruled : (v : Version) (r : CompactPackage) (script : List Instr) → valid_script v r ≡ Some script
    → rules (expanded_package r) ≡ true
script_ruled v r script is =
    let p : Package = expanded_package r in
    let met : compact_rules v r ≡ true = sym (valid_rules v r) ∙ ap (λ (o : Option (List Instr)). is_some o) is in
    let all = and-parts (are_runs r.runs) (rules p && fits_version v p) met in
    (and-parts (rules p) (fits_version v p) all.1).0

-- ---- what is kept of what was read

abbrev tested : Version → CompactPackage → Option CompactPackage
tested v r = if compact_rules v r then Some r else None

package_there : (o : Option (List Instr)) (r : CompactPackage) → package_if o r ≡ (if is_some o then Some r else None)
package_there None r = refl
package_there (Some script) r = refl

package_rules : (v : Version) (r : CompactPackage) → package_if (valid_script v r) r ≡ tested v r
package_rules v r = package_there (valid_script v r) r ∙ ap (λ (b : Bool). if b then Some r else None) (valid_rules v r)

pub made_in : (v : Version) (bytes : List ℕ) (r : CompactPackage) → compact_sections_of v bytes ≡ Some r → package_if (valid_script v r) r ≡ compact_in v bytes
made_in v bytes r is = package_rules v r ∙ sym (ap (λ (o : Option CompactPackage). o >>= tested v) is)

pub none_in : (v : Version) (bytes : List ℕ) → compact_sections_of v bytes ≡ None → compact_in v bytes ≡ None
none_in v bytes is = ap (λ (o : Option CompactPackage). o >>= tested v) is

-- ---- the own world starts with it

pub unwrapped : (b : Bool) (o : Option (List Instr)) (script : List Instr) → (if b then o else None) ≡ Some script → o ≡ Some script
unwrapped true o script is = is
unwrapped false o script is = cc

content_own : (o : Option (List ℕ)) (script : List Instr) → script_in o ≡ Some script → script_of (or_empty o) ≡ Some script
content_own None script is = cc
content_own (Some bytes) script is = unwrapped (nat_le (length bytes) file_limit) (script_of bytes) script is

file_own : (o : Option PackedFile) (script : List Instr) → file_script o ≡ Some script → world_script (option_map own_file o) ≡ Some script
file_own None script is = cc
file_own (Some file) script is = content_own file.content script is

own_start : (start : List (List ℕ)) (files : List PackedFile) (script : List Instr) → packed_script start files ≡ Some script
    → first_script start (map own_file files) ≡ Some script
own_start [] files script is = cc
own_start (word ∷ words) files script is =
    ap world_script (own_at word files) ∙ file_own (find (λ f. bytes_eq word f.path) files) script is

-- it is that of the file that the first start word names
pub packed_starts : (v : Version) (r : CompactPackage) (script : List Instr) → valid_script v r ≡ Some script
    → packed_script r.bare.start r.bare.files ≡ Some script
packed_starts v r script is =
    let p : Package = expanded_package r in
    let fits = unwrapped (are_runs r.runs) (if fits_version v p then ruled_script p else None) script is in
    let ruled = unwrapped (fits_version v p) (ruled_script p) script fits in
    let parts = unwrapped (parts_rule p) (if whole_rule p then packed_script p.start p.files else None) script ruled in
    unwrapped (whole_rule p) (packed_script p.start p.files) script parts

pub starts_with : (v : Version) (r : CompactPackage) (script : List Instr) → valid_script v r ≡ Some script
    → start_script (own_world r.bare) ≡ Some script
starts_with v r script is = own_start r.bare.start r.bare.files script (packed_starts v r script is)

pub with_start : (v : Version) (r : CompactPackage) (o : Option (List Instr)) (result : Result ParsedPackage DecodeStop) → o ≡ valid_script v r
    → IfOk result (λ (p : ParsedPackage). (p.cut ≡ r) × (o ≡ Some p.script.instructions)) → IfOk result StartsWith
with_start v r o (Ok p) is parts = starts_with v p.cut p.script.instructions (ap (valid_script v) parts.0 ∙ sym is ∙ parts.1)
with_start v r o (Err stop) is parts = tt
