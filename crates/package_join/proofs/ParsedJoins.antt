-- Reading with the scripts of the runs gives the same joined package, and the worlds of its runs start with
-- these scripts.
use Rattle.std.proofs.Common.{◌≡◌, ℕ, Bool, true, false, List, Option, Some, None, is_some, Result, Ok, Err, refl, sym, ap, subst, ◌∙◌, ◌&&◌}
use Rattle.std.specs.Prelude.{bytes_eq, if◌then◌else◌, option_map, IfOk}
use Rattle.ldv_value.proofs.Options.{bind-some, same-some}
use Rattle.script_parse.specs.declared.script.Instr.{Instr}
use Rattle.script_parse.specs.declared.script.Script.{Script}
use Rattle.run_model.specs.Start.{start_script}
use Rattle.package_codec.specs.declared.compact_package.CompactPackage.{CompactPackage}
use Rattle.package_codec.specs.declared.decode_stop.DecodeStop.{DecodeStop}
use Rattle.package_codec.specs.declared.decode_stop.DecodeStop.TheVariants.{Malformed, NoMemory}
use Rattle.package_codec.specs.declared.version.Version.TheVariants.{Two}
use Rattle.package_codec.specs.CompactPackages.{expanded_package}
use Rattle.package_codec.specs.Fields.{◌>>=◌, Makes}
use Rattle.package_layout.specs.StartScript.{valid_script}
use Rattle.package_layout.proofs.StartScripts.{packed_starts, script_ruled, valid_rules}
use Rattle.package_join.specs.Types.{Included, Package}
use Rattle.joined_data.specs.declared.compact_joined.CompactJoined.{CompactJoined}
use Rattle.joined_data.specs.declared.compact_joined.ParsedJoined.{ParsedJoined}
use Rattle.joined_data.specs.declared.joined.Which.{Which}
use Rattle.joined_data.specs.declared.joined.Which.TheVariants.{First, Second}
use Rattle.package_join.specs.CompactValid.{compact_anew, compact_joined_in, compact_spelled_so, join_of_valid_packages}
use Rattle.joined_data.specs.CompactJoins.{compact_joined_of, compact_sections, join_of_packages, picked_runs, whole_join}
use Rattle.joined_data.specs.Joined.{joined_of}
use Rattle.package_join.specs.Laws.{IsIncluded}
use Rattle.package_join.specs.ParsedJoins.{StartRuns, as_script, cut_of, parsed_anew, parsed_join, parsed_joined_in, if_sections_are, parsed_with, script_by}
use Rattle.package_join.specs.Worlds.{joined_world}
use Rattle.package_join.proofs.CutLaws.{cuts_joined}
use Rattle.package_join.proofs.RunsOfJoins.{first_starts, second_starts}
use Rattle.package_join.proofs.ValidJoins.{included_by}

-- ---- the script that was found

instructions_again : (o : Option Script) → option_map as_script (option_map (λ (s : Script). s.instructions) o) ≡ o
instructions_again None = refl
instructions_again (Some script) = refl

pub found_again : (o : Option Script) (due : Option (List Instr)) → option_map (λ (s : Script). s.instructions) o ≡ due
    → o ≡ option_map as_script due
found_again o due is = sym (instructions_again o) ∙ ap (λ (d : Option (List Instr)). option_map as_script d) is

-- ---- without the scripts it is what is read

abbrev its_cut : Option ParsedJoined → Option CompactJoined
its_cut o = option_map (λ (p : ParsedJoined). p.cut) o

-- by the scripts of both and by what they are joined to
abbrev parsed_by : Option (List Instr) → Option (List Instr) → Option CompactJoined → Option ParsedJoined
parsed_by x y o =
    option_map as_script x >>= λ (first : Script). option_map as_script y >>= λ (second : Script). o >>= λ (cut : CompactJoined). Some (parsed_with first second cut)

cut_by : (x y : Option (List Instr)) (o : Option CompactJoined) → its_cut (parsed_by x y o) ≡ (if is_some x && is_some y then o else None)
cut_by None y o = refl
cut_by (Some first) None o = refl
cut_by (Some first) (Some second) None = refl
cut_by (Some first) (Some second) (Some cut) = refl

join_same : (a b : CompactPackage) → its_cut (parsed_join a b) ≡ join_of_valid_packages a b
join_same a b =
    cut_by (valid_script Two a) (valid_script Two b) (join_of_packages a b)
    ∙ (λ i. if valid_rules Two a i && valid_rules Two b i then join_of_packages a b else None)

if_spelled : (b : Bool) (p : ParsedJoined) → its_cut (if b then Some p else None) ≡ (if b then Some p.cut else None)
if_spelled true p = refl
if_spelled false p = refl

by_anew : (bytes : List ℕ) (o : Option ParsedJoined) → its_cut (o >>= if_sections_are bytes) ≡ (its_cut o >>= compact_spelled_so bytes)
by_anew bytes None = refl
by_anew bytes (Some p) = if_spelled (bytes_eq (compact_sections p.cut) bytes) p

abbrev parsed_later : List ℕ → CompactJoined → Option ParsedJoined
parsed_later bytes r = parsed_anew r >>= if_sections_are bytes

abbrev compact_later : List ℕ → CompactJoined → Option CompactJoined
compact_later bytes r = compact_anew r >>= compact_spelled_so bytes

by_read : (bytes : List ℕ) (o : Option CompactJoined) → its_cut (o >>= parsed_later bytes) ≡ (o >>= compact_later bytes)
by_read bytes None = refl
by_read bytes (Some r) =
    by_anew bytes (parsed_anew r)
    ∙ ap (λ (o : Option CompactJoined). o >>= compact_spelled_so bytes) (join_same (picked_runs First r) (picked_runs Second r))

cut_same : (bytes : List ℕ) → its_cut (parsed_joined_in bytes) ≡ compact_joined_in bytes
cut_same bytes = by_read bytes (compact_joined_of bytes)

pub cuts_made : (bytes : List ℕ) (result : Result ParsedJoined DecodeStop) → Makes result (parsed_joined_in bytes)
    → Makes (cut_of result) (compact_joined_in bytes)
cuts_made bytes (Ok p) made = sym (cut_same bytes) ∙ ap its_cut made
cuts_made bytes (Err NoMemory) made = tt
cuts_made bytes (Err Malformed) made = sym (cut_same bytes) ∙ ap its_cut made

-- ---- the worlds of its runs start with them

module _ (a b : CompactPackage) (r : CompactJoined) (first second : List Instr) (ma : a.bare.mode ≡ Included) (mb : b.bare.mode ≡ Included)
    (one : valid_script Two a ≡ Some first) (two : valid_script Two b ≡ Some second) (is : join_of_packages a b ≡ Some r) where
  abbrev whole_a : Package
  whole_a = expanded_package a

  abbrev whole_b : Package
  whole_b = expanded_package b

  joined_whole : joined_of whole_a whole_b ≡ Ok (whole_join r)
  joined_whole = cuts_joined a b (Ok r) is

  included_a : IsIncluded whole_a
  included_a = included_by whole_a (script_ruled Two a first one) ma

  included_b : IsIncluded whole_b
  included_b = included_by whole_b (script_ruled Two b second two) mb

  starts_by : (which : Which) → start_script (joined_world which (whole_join r)) ≡ Some (script_by which (as_script first) (as_script second)).instructions
  starts_by First = first_starts whole_a whole_b (whole_join r) included_a included_b joined_whole first (packed_starts Two a first one)
  starts_by Second = second_starts whole_a whole_b (whole_join r) included_a included_b joined_whole second (packed_starts Two b second two)

by_parts : (x y : Option (List Instr)) (o : Option CompactJoined) (p : ParsedJoined) → parsed_by x y o ≡ Some p
    → ((first second : List Instr) (cut : CompactJoined) → x ≡ Some first → y ≡ Some second → o ≡ Some cut → StartRuns (parsed_with (as_script first) (as_script second) cut))
    → StartRuns p
by_parts None y o p is start = absurd cc
by_parts (Some first) None o p is start = absurd cc
by_parts (Some first) (Some second) None p is start = absurd cc
by_parts (Some first) (Some second) (Some cut) p is start =
    subst StartRuns (same-some (parsed_with (as_script first) (as_script second) cut) p is) (start first second cut refl refl refl)

join_starts : (a b : CompactPackage) (p : ParsedJoined) → a.bare.mode ≡ Included → b.bare.mode ≡ Included → parsed_join a b ≡ Some p → StartRuns p
join_starts a b p ma mb is =
    by_parts (valid_script Two a) (valid_script Two b) (join_of_packages a b) p is
    (λ first second cut one two made. starts_by a b cut first second ma mb one two made)

so_spelled : (b : Bool) (p q : ParsedJoined) → (if b then Some p else None) ≡ Some q → p ≡ q
so_spelled true p q is = same-some p q is
so_spelled false p q is = absurd cc

read_starts : (bytes : List ℕ) (p : ParsedJoined) → parsed_joined_in bytes ≡ Some p → StartRuns p
read_starts bytes p is =
    let one = bind-some (compact_joined_of bytes) (parsed_later bytes) p is in
    let two = bind-some (parsed_anew one.0) (if_sections_are bytes) p one.2 in
    let same : two.0 ≡ p = so_spelled (bytes_eq (compact_sections two.0.cut) bytes) two.0 p two.2 in
    subst StartRuns same (join_starts (picked_runs First one.0) (picked_runs Second one.0) two.0 refl refl two.1)

pub starts_made : (bytes : List ℕ) (result : Result ParsedJoined DecodeStop) → Makes result (parsed_joined_in bytes) → IfOk result StartRuns
starts_made bytes (Ok p) made = read_starts bytes p made
starts_made bytes (Err stop) made = tt
