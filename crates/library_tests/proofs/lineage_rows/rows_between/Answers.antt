use Rattle.std.proofs.Common.{sym, subst}
use Rattle.lineage.specs.Lineage.{IsNamed}
use Rattle.lineage.proofs.Laws.{IsNamed-empty}
use Rattle.library_tests.proofs.lineage_rows.rows_between.Goals as goal

pub loop-row-init : goal.loop-row-init
loop-row-init c = subst (IsNamed c.args.names.now) (sym c.empty-list.ensures) (IsNamed-empty c.args.names.now)
