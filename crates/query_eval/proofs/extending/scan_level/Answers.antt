use Rattle.std.proofs.Common.{◌≡◌, ◌∙◌, ◌<◌, ◌-◌, ◌++◌, ◌∷◌, ap, length, List, ℕ, Bool, append_assoc, rules}
use Rattle.lineage.specs.Flat.{rows_in}
use Rattle.lineage.proofs.FlatLaws.{rows_joined, rest_long}
use Rattle.query_eval.specs.inner.Slots.{extended_by, extended_by_all}
use Rattle.query_eval.proofs.extending.scan_level.Goals as goal

pub rows-preserved : goal.rows-preserved
rows-preserved g c =
    let w : ℕ = c.width-width.result in
    let n : ℕ = c.rows.count in
    let left : List ℕ = c.rows.left.now in
    let front : List ℕ = c.split_row.result.0.now in
    let back : List ℕ = c.split_row.result.1.now in
    let slots : List ℕ = c.args.slots.now in
    let t : List ℕ → Bool = g.T.SlotTest.test c.args.test.now in
    let old : List (List ℕ) = c.rows.made.rows in
    let more : 0 < n = search rules in
    let joined : front ∷ rows_in (n - 1) w back ≡ rows_in n w left = rows_joined n w left front back more c.split_row.ensures.row c.split_row.ensures.rest in
    record {
      width = c.extend_prefix.ensures.width ∙ c.rows.invariant.width;
      same = c.rows.invariant.same;
      long = ap length c.split_row.ensures.rest ∙ rest_long n w left more c.rows.invariant.long;
      rows = ap (λ (l : List (List ℕ)). l ++ extended_by_all t (rows_in (n - 1) w back) slots) c.in_ok-extend_prefix.ensures.rows
          ∙ append_assoc old (extended_by t front slots) (extended_by_all t (rows_in (n - 1) w back) slots)
          ∙ ap (λ (rs : List (List ℕ)). old ++ extended_by_all t rs slots) joined ∙ c.rows.invariant.rows;
    }
