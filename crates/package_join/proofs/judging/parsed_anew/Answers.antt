use Rattle.std.proofs.Common.{◌≡◌, ◌∙◌, ap, subst}
use Rattle.std.specs.Prelude.{Option}
use Rattle.package_codec.specs.Fields.{Makes}
use Rattle.package_codec.specs.declared.compact_package.CompactPackage.{CompactPackage}
use Rattle.joined_data.specs.declared.compact_joined.ParsedJoined.{ParsedJoined}
use Rattle.joined_data.specs.declared.joined.Which.TheVariants.{First, Second}
use Rattle.joined_data.specs.CompactJoins.{picked_runs}
use Rattle.package_join.specs.ParsedJoins.{parsed_join}
use Rattle.package_join.proofs.judging.parsed_anew.Goals as goal

pub returns : goal.returns
returns c =
    let pair = c.in_ok-first.field-0 in
    let first : pair.first ≡ picked_runs First c.args.joined = c.in_ok-first.ensures.first in
    let second : pair.second ≡ picked_runs Second c.args.joined = c.in_ok-first.ensures.second in
    subst (λ (made : Option ParsedJoined). Makes c.parsed_join.result made)
    (ap (λ (a : CompactPackage). parsed_join a pair.second) first ∙ ap (λ (b : CompactPackage). parsed_join (picked_runs First c.args.joined) b) second)
    c.parsed_join.ensures
