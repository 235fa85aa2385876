use Rattle.std.proofs.Common.{◌≡◌, ◌∙◌, List, ℕ, ap}
use Rattle.std.proofs.lemmas.Result.{IfOk-weaker}
use Rattle.ldv_value.specs.Options.{only_if}
use Rattle.run_model.specs.Slice.{first_reason}
use Rattle.run_model.specs.Packing.{reason_at, tables_because}
use Rattle.slicer.specs.inner.Rows.{graph_reason}
use Rattle.slicer.proofs.tables.needed_tables.Goals as goal

pub returns : goal.returns
returns c =
    let reasons : (table : List ℕ) (row : ℕ) → reason_at c.in_ok-reasons.reasons table row ≡ graph_reason c.args.events.now c.args.graph.now table row =
    λ table row. c.in_ok-reasons.ensures table row ∙ ap (λ b. only_if b (first_reason table row c.args.events.now)) (c.in_ok-initial.ensures table row) in
    IfOk-weaker c.pack_tables.result _ _
    (λ packed is. is ∙ (λ i. tables_because (λ table row. reasons table row i) (λ name. c.in_ok-names.ensures name i) c.args.tables.now))
    c.pack_tables.ensures
