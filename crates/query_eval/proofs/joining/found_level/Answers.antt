use Rattle.std.proofs.Common.{◌≡◌, ◌∙◌, ◌<◌, ◌-◌, ◌++◌, ◌∷◌, ap, length, List, ℕ, Bool, append_assoc, rules}
use Rattle.lineage.specs.Flat.{rows_in}
use Rattle.lineage.proofs.FlatLaws.{rows_joined, rest_long}
use Rattle.ldv_value.specs.declared.refs_by.RefsBy.{RefsBy}
use Rattle.query_eval.specs.declared.probe.Probe.{Probe}
use Rattle.query_eval.specs.declared.source.Source.{Source}
use Rattle.query_eval.specs.inner.Joining.{TieValues}
use Rattle.query_eval.specs.inner.Slots.{extended_by, extended_by_index, slots_found, values_at}
use Rattle.query_eval.proofs.joining.found_level.Goals as goal

pub rows-preserved : goal.rows-preserved
rows-preserved g c =
    let w : ℕ = c.width-width.result in
    let n : ℕ = c.rows.count in
    let left : List ℕ = c.rows.left.now in
    let front : List ℕ = c.split_row.result.0.now in
    let back : List ℕ = c.split_row.result.1.now in
    let sources : List Source = c.args.sources.now in
    let index : RefsBy TieValues ℕ = c.args.index.now.map in
    let ties : List Probe = c.args.ties.now in
    let t : List ℕ → Bool = g.T.SlotTest.test c.args.test.now in
    let old : List (List ℕ) = c.rows.made.rows in
    let more : 0 < n = search rules in
    let joined : front ∷ rows_in (n - 1) w back ≡ rows_in n w left = rows_joined n w left front back more c.split_row.ensures.row c.split_row.ensures.rest in
    record {
      width = c.extend_found.ensures.width ∙ c.rows.invariant.width;
      same = c.rows.invariant.same;
      long = ap length c.split_row.ensures.rest ∙ rest_long n w left more c.rows.invariant.long;
      rows = ap (λ (l : List (List ℕ)). l ++ extended_by_index t sources index ties (rows_in (n - 1) w back)) c.in_ok-extend_found.ensures.rows
          ∙ append_assoc old (extended_by t front (slots_found index ties (values_at sources front))) (extended_by_index t sources index ties (rows_in (n - 1) w back))
          ∙ ap (λ (rs : List (List ℕ)). old ++ extended_by_index t sources index ties rs) joined ∙ c.rows.invariant.rows;
    }
