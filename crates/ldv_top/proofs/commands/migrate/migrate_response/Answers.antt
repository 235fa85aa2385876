use Rattle.std.proofs.Common.{◌≡◌, subst}
use Rattle.std.specs.Prelude.{IfOk}
use Rattle.package_codec.specs.CompactPackages.{expanded_package}
use Rattle.ldv_top.specs.declared.response.Response.{Response}
use Rattle.ldv_top.specs.Due.{DueOutput, response_due}
use Rattle.ldv_top.proofs.BareLaws.{migrate_read}
use Rattle.ldv_top.proofs.RecordLaws.{whatever}
use Rattle.ldv_top.proofs.commands.migrate.migrate_response.Goals as goal

pub returns-in-Ok-clause-due : goal.returns-in-Ok-clause-due
returns-in-Ok-clause-due c =
    subst (λ (d : DueOutput). IfOk c.spelled_response.result (λ (response : Response). response_due response ≡ d))
    (migrate_read c.in-Ok.package c.args.input c.requires.short c.in-Ok.ensures.reading)
    c.spelled_response.ensures

pub returns-in-Ok-clause-migrated : goal.returns-in-Ok-clause-migrated
returns-in-Ok-clause-migrated c =
    let found = c.in-Ok.ensures.found in
    whatever c.spelled_response.result
    (c.migration_law.ensures c.args.input (expanded_package c.in-Ok.package) c.requires.short found.0 found.1 found.2 c.in-Ok.ensures.reading)
