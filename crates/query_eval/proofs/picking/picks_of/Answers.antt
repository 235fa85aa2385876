use Rattle.std.proofs.Common.{◌≡◌, ◌∙◌, ◌<◌, ◌-◌, ◌++◌, ◌∷◌, [], ap, length, map, List, ℕ, append_assoc, rules}
use Rattle.lineage.specs.Flat.{rows_in}
use Rattle.lineage.specs.declared.answer.Pick.{Pick}
use Rattle.lineage.proofs.FlatLaws.{rows_joined, rest_long}
use Rattle.query_eval.specs.inner.Slots.{pick_at}
use Rattle.query_eval.proofs.picking.picks_of.Goals as goal

pub rows-preserved : goal.rows-preserved
rows-preserved c =
    let w : ℕ = c.width-width.result in
    let n : ℕ = c.rows.count in
    let left : List ℕ = c.rows.left.now in
    let front : List ℕ = c.split_row.result.0.now in
    let back : List ℕ = c.split_row.result.1.now in
    let p : List ℕ → Pick = pick_at c.args.keep c.args.sources.now in
    let old : List Pick = c.rows.picks in
    let more : 0 < n = search rules in
    let joined : front ∷ rows_in (n - 1) w back ≡ rows_in n w left = rows_joined n w left front back more c.split_row.ensures.row c.split_row.ensures.rest in
    record {
      same = c.rows.invariant.same;
      long = ap length c.split_row.ensures.rest ∙ rest_long n w left more c.rows.invariant.long;
      picks = ap (λ (l : List Pick). l ++ map p (rows_in (n - 1) w back)) c.in_ok-push.ensures.ok
          ∙ append_assoc old (c.in_ok-pick_at.field-0 ∷ []) (map p (rows_in (n - 1) w back))
          ∙ ap (λ (x : Pick). old ++ x ∷ map p (rows_in (n - 1) w back)) c.in_ok-pick_at.ensures
          ∙ ap (λ (rs : List (List ℕ)). old ++ map p rs) joined ∙ c.rows.invariant.picks;
    }
