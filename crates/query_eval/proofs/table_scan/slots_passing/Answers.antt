use Rattle.lanes.specs.Sets.{member}
use Rattle.query_eval.specs.inner.TableScan.{slot_at}
use Rattle.query_eval.proofs.TableScanLaws.{tested_alike}
use Rattle.query_eval.proofs.table_scan.slots_passing.Goals as goal

pub choose_slots-requires : goal.choose_slots-requires
choose_slots-requires c = c.requires

pub returns-clause-members : goal.returns-clause-members
returns-clause-members c = λ n.
    tested_alike c.args.masks.now (slot_at c.args.table.now.slots n) (member c.in_ok-words.words.items n) (c.in_ok-words.ensures.members n)
