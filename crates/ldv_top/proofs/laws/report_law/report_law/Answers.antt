use Rattle.ldv_top.proofs.ReportLaws.{depends_reported}
use Rattle.ldv_top.proofs.laws.report_law.report_law.Goals as goal

pub returns : goal.returns
returns c = depends_reported c.depends_law.ensures
