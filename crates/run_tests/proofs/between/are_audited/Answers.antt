use Rattle.ldv_top.proofs.AuditResponses.{has_tables_read}
use Rattle.run_tests.proofs.between.are_audited.Goals as goal

pub is_audited-requires-clause-fits : goal.is_audited-requires-clause-fits
is_audited-requires-clause-fits g c =
    has_tables_read c.package_law.ensures.own_tables c.args.bytes.now c.package_from-package.result
    c.package_from-package.ensures.spelled
