use Rattle.std.proofs.Common.{Option, subst}
use Rattle.std.specs.Prelude.{Err}
use Rattle.package_codec.specs.declared.decode_stop.DecodeStop.{DecodeStop}
use Rattle.package_codec.specs.declared.compact_package.CompactPackage.{CompactPackage}
use Rattle.package_codec.specs.Fields.{Makes}
use Rattle.package_layout.specs.CompactReading.{compact_sections_of}
use Rattle.package_layout.specs.StartScript.{cut_of}
use Rattle.package_layout.proofs.StartScripts.{made_in, none_in}
use Rattle.package_layout.proofs.layout.parsed_in.Goals as goal

pub returns-in-Ok-clause-made : goal.returns-in-Ok-clause-made
returns-in-Ok-clause-made c =
    subst (λ (o : Option CompactPackage). Makes (cut_of c.judged_package.result) o)
    (made_in c.args.version c.args.middle.now c.in-Ok.package c.in-Ok.ensures) c.judged_package.ensures.made

pub returns-in-Err-Malformed-clause-made : goal.returns-in-Err-Malformed-clause-made
returns-in-Err-Malformed-clause-made c =
    none_in c.args.version c.args.middle.now
    (subst (λ (e : DecodeStop). Makes {X = CompactPackage} (Err e) (compact_sections_of c.args.version c.args.middle.now))
    c.in-Err-Malformed.field-0-is c.in-Err-Malformed.ensures)
