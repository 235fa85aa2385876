-- Reading a package with its trace kept as runs: no list of events is made.
use Rattle.std.specs.Prelude.{ℕ, List, length, Bool, ◌&&◌, ◌==◌, Option, Some, None, if◌then◌else◌}
use Rattle.package_codec.specs.declared.compact_package.CompactPackage.{CompactPackage}
use Rattle.package_codec.specs.CompactPackages.{expanded_package, cut_at}
use Rattle.package_codec.specs.Fields.{DecodeResult, ◌>>=◌, both_at, made_at}
use Rattle.package_codec.specs.Plain.{fits_version}
use Rattle.package_codec.specs.Runs.{are_runs}
use Rattle.package_codec.specs.declared.version.Version.{Version}
use Rattle.package_layout.specs.Valid.{rules}
use Rattle.package_layout.specs.Whole.{bare_at}

abbrev pub compact_sections_at : Version → List ℕ → DecodeResult CompactPackage
compact_sections_at version =
    made_at (λ p. Some (record { bare = p.0; runs = p.1 })) (both_at (bare_at version) (cut_at version))

-- all of the bytes
abbrev pub compact_sections_of : Version → List ℕ → Option CompactPackage
compact_sections_of version bytes = do
  r ← compact_sections_at version bytes
  if length r.1 == 0 then Some r.0 else None

abbrev pub compact_rules : Version → CompactPackage → Bool
compact_rules version r = are_runs r.runs
    && (rules (expanded_package r) && fits_version version (expanded_package r))

-- the valid package whose sections these bytes are
abbrev pub compact_in : Version → List ℕ → Option CompactPackage
compact_in version bytes = do
  r ← compact_sections_of version bytes
  if compact_rules version r then Some r else None
