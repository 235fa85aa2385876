use Rattle.std.proofs.Common.{ℕ, List, IfOk, subst}
use Rattle.package_codec.specs.CompactPackages.{expanded_package}
use Rattle.package_codec.specs.declared.compact_package.ParsedPackage.{ParsedPackage}
use Rattle.package_layout.specs.Valid.{IsSpelled, IsValidPackage}
use Rattle.package_layout.specs.Whole.{IsTyped}
use Rattle.ldv_top.proofs.reading.read_parsed_of.Goals as goal

pub returns-clause-found : goal.returns-clause-found
returns-clause-found c =
    subst (λ (bytes : List ℕ). IfOk c.read_parsed.result (λ (p : ParsedPackage). IsTyped (expanded_package p.cut) × IsValidPackage (expanded_package p.cut) × IsSpelled bytes (expanded_package p.cut)))
    c.as_slice.ensures c.read_parsed.ensures.found
