use Rattle.std.proofs.Common.{◌≡◌, subst}
use Rattle.std.specs.Prelude.{IfOk}
use Rattle.package_codec.specs.CompactPackages.{expanded_package}
use Rattle.ldv_top.specs.declared.response.Response.{Response}
use Rattle.ldv_top.specs.Due.{DueOutput, response_due}
use Rattle.ldv_top.proofs.AuditResponses.{is_versioned, has_tables_read}
use Rattle.ldv_top.proofs.BareLaws.{audit_read}
use Rattle.ldv_top.proofs.commands.audit.bytes_response.Goals as goal

pub audited_response-requires-clause-can_run : goal.audited_response-requires-clause-can_run
audited_response-requires-clause-can_run c =
    c.package_law.ensures.own_runs (expanded_package c.in-Ok.parsed.cut) c.in-Ok.ensures.found.0 c.in-Ok.ensures.found.1

pub audited_response-requires-clause-versioned : goal.audited_response-requires-clause-versioned
audited_response-requires-clause-versioned c = is_versioned c.args.input.now (expanded_package c.in-Ok.parsed.cut) c.in-Ok.ensures.found.2

pub audited_response-requires-clause-fits : goal.audited_response-requires-clause-fits
audited_response-requires-clause-fits c =
    has_tables_read c.package_law.ensures.own_tables c.args.input.now (expanded_package c.in-Ok.parsed.cut) c.in-Ok.ensures.found.2

pub returns-in-Ok : goal.returns-in-Ok
returns-in-Ok c =
    subst (λ (d : DueOutput). IfOk c.audited_response.result (λ (response : Response). response_due response ≡ d))
    (audit_read c.in-Ok.parsed.cut c.args.input.now c.requires.short c.in-Ok.ensures.reading c.args.budget)
    c.audited_response.ensures
