use Rattle.std.proofs.Common.{◌≡◌, ◌∙◌, ◌<◌, ◌-◌, ◌++◌, ◌∷◌, ap, length, List, ℕ, Bool, rules}
use Rattle.std.specs.Prelude.{filter}
use Rattle.lineage.specs.Flat.{rows_in}
use Rattle.lineage.proofs.FlatLaws.{rows_joined, rest_long}
use Rattle.query_eval.specs.inner.Slots.{slots_meet}
use Rattle.query_eval.proofs.joining.keep_matching.Goals as goal

pub rows-preserved : goal.rows-preserved
rows-preserved c =
    let w : ℕ = c.width-width.result in
    let n : ℕ = c.rows.count in
    let left : List ℕ = c.rows.left.now in
    let front : List ℕ = c.split_row.result.0.now in
    let back : List ℕ = c.split_row.result.1.now in
    let t : List ℕ → Bool = slots_meet c.args.conds.now c.args.sources.now in
    let old : List (List ℕ) = c.rows.made.rows in
    let more : 0 < n = search rules in
    let joined : front ∷ rows_in (n - 1) w back ≡ rows_in n w left = rows_joined n w left front back more c.split_row.ensures.row c.split_row.ensures.rest in
    record {
      width = c.keep_one.ensures.width ∙ c.rows.invariant.width;
      same = c.rows.invariant.same;
      long = ap length c.split_row.ensures.rest ∙ rest_long n w left more c.rows.invariant.long;
      rows = c.in_ok-keep_one.ensures.rows (rows_in (n - 1) w back)
          ∙ ap (λ (rs : List (List ℕ)). old ++ filter t rs) joined ∙ c.rows.invariant.rows;
    }
