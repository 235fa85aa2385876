use Rattle.std.proofs.Common.{◌∙◌, ◌&&◌, ap, sym, get_or}
use Rattle.std.specs.Prelude.{None}
use Rattle.lanes.specs.Sets.{member}
use Rattle.ldv_value.specs.Cells.{int_value}
use Rattle.table_store.specs.Scans.{null_passes}
use Rattle.table_store.proofs.ScanLaws.{nulls_kept, some_passes}
use Rattle.table_store.proofs.rows.scan.keep_null_numbers.Goals as goal

pub returns-then-is_null : goal.returns-then-is_null
returns-then-is_null c = λ n.
    let cells = c.args.ints.now.items in
    let mask = c.args.mask.now in
    c.and_into.ensures n ∙ nulls_kept cells mask c.nulls.result.now mask c.nulls.ensures.bits c.requires.clear n
    ∙ (λ j. member mask n && null_passes (sym c.if-is_null.true j) (int_value (get_or cells n None)))

pub returns-else-is_null : goal.returns-else-is_null
returns-else-is_null c = λ n.
    let cells = c.args.ints.now.items in
    let mask = c.args.mask.now in
    c.drop_nulls.ensures n ∙ ap (λ b. member mask n && b) (some_passes (get_or cells n None))
    ∙ (λ j. member mask n && null_passes (sym c.if-is_null.false j) (int_value (get_or cells n None)))
