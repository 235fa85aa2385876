use Rattle.std.proofs.Common.{◌≡◌, subst}
use Rattle.std.specs.Prelude.{IfOk}
use Rattle.package_codec.specs.CompactPackages.{expanded_package}
use Rattle.ldv_top.specs.declared.response.Response.{Response}
use Rattle.ldv_top.specs.Due.{DueOutput, response_due}
use Rattle.ldv_top.proofs.BareLaws.{table_read}
use Rattle.ldv_top.proofs.commands.table.table_response.Goals as goal

pub tabled_response-requires-clause-can_run : goal.tabled_response-requires-clause-can_run
tabled_response-requires-clause-can_run c =
    c.package_law.ensures.own_runs (expanded_package c.in-Ok.parsed.cut) c.in-Ok.ensures.found.0 c.in-Ok.ensures.found.1

pub returns-in-Ok : goal.returns-in-Ok
returns-in-Ok c =
    subst (λ (d : DueOutput). IfOk c.tabled_response.result (λ (response : Response). response_due response ≡ d))
    (table_read c.in-Ok.parsed.cut c.args.input c.requires.short c.in-Ok.ensures.reading c.args.name.now c.args.step c.args.budget)
    c.tabled_response.ensures
