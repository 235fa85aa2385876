use Rattle.std.proofs.Common.{subst}
use Rattle.std.specs.List.{AllByRecursion}
use Rattle.lineage.specs.Flat.{SlotRows, HasLength}
use Rattle.lineage.proofs.FlatLaws.{rows_wide}
use Rattle.lineage.proofs.flat_rows.FlatRows.tell_width.Goals as goal

pub returns : goal.returns
returns c =
    let a = c.self.inside in
    subst (λ (r : SlotRows). AllByRecursion (HasLength r.width) r.rows) c.self.view_is (rows_wide a.count a.width a.slots.items c.self.invariant.long)
