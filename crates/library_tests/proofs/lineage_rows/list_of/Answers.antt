use Rattle.std.proofs.Common.{sym, subst}
use Rattle.lineage.specs.Lineage.{IsNamed}
use Rattle.lineage.proofs.Laws.{IsNamed-empty}
use Rattle.library_tests.proofs.lineage_rows.list_of.Goals as goal

pub loop-entry-init : goal.loop-entry-init
loop-entry-init g c = subst (IsNamed c.args.names.now) (sym c.empty-list.ensures) (IsNamed-empty c.args.names.now)
