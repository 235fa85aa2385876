use Rattle.std.proofs.Common.{◌∙◌, sym}
use Rattle.std.specs.BTreeMap.{get}
use Rattle.std.specs.Ordering.{nat_cmp}
use Rattle.ldv_value.proofs.Options.{is_some-false}
use Rattle.run_model.proofs.ReasonLaws.{put_row}
use Rattle.run_model.proofs.first_reasons.note_row.Goals as goal

pub returns-clause-noted : goal.returns-clause-noted
returns-clause-noted c =
    put_row c.args.rows.now c.insert.new.self c.args.row c.args.why
    (is_some-false (get nat_cmp c.args.rows.now c.args.row) (sym c.contains_key.ensures ∙ c.if-contains_key.false))
    c.in_ok-insert.ensures.updates
