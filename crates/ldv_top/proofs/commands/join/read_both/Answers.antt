use Rattle.std.proofs.Common.{subst, sym, Result}
use Rattle.run_model.specs.declared.package.Package.{Package}
use Rattle.package_layout.specs.declared.damage.DamageKind.{DamageKind}
use Rattle.package_layout.specs.Valid.{reading}
use Rattle.ldv_top.specs.DueOfJoins.{PairReadsAs, both_read}
use Rattle.ldv_top.proofs.commands.join.read_both.Goals as goal

pub returns-in-Ok-clause-due : goal.returns-in-Ok-clause-due
returns-in-Ok-clause-due c =
    subst (λ (first : Result Package DamageKind). PairReadsAs c.read_second.result (both_read first (reading c.args.second.now)))
    (sym c.in-Ok.ensures.reading) c.read_second.ensures.due
