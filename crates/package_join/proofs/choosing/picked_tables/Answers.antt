use Rattle.std.proofs.Common.{◌∙◌}
use Rattle.std.proofs.lemmas.Result.{IfOk-weaker}
use Rattle.run_model.specs.Packing.{tables_because}
use Rattle.package_join.proofs.PickedBy.{tables_as_picked}
use Rattle.package_join.proofs.choosing.picked_tables.Goals as goal

pub returns : goal.returns
returns c =
    IfOk-weaker c.pack_tables.result _ _
    (λ picked is. is
    ∙ (λ i. tables_because (λ table row. c.in_ok-reasons.ensures table row i) (λ name. c.in_ok-names.ensures name i) (c.items.ensures i))
    ∙ tables_as_picked c.args.run.now c.args.tables.now)
    c.pack_tables.ensures
