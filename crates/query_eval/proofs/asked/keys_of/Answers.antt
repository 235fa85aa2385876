use Rattle.std.proofs.Common.{◌≡◌, ◌∙◌, ◌<◌, ◌-◌, ◌*◌, ◌∷◌, ap, subst, sym, length, List, ℕ, Some, rules}
use Rattle.std.specs.BTreeSet.{BTreeSet}
use Rattle.lineage.specs.Flat.{rows_in}
use Rattle.lineage.proofs.FlatLaws.{rows_joined, rest_long}
use Rattle.query_eval.proofs.Asks.{asked_more}
use Rattle.query_eval.specs.declared.probe.Probe.{Probe}
use Rattle.query_eval.specs.declared.source.Source.{Source}
use Rattle.query_eval.specs.inner.Asked.{AreAsked}
use Rattle.query_eval.specs.inner.Joining.{key_of, TieValues, values_before}
use Rattle.query_eval.specs.inner.Slots.{values_at}
use Rattle.query_eval.proofs.asked.keys_of.Goals as goal

pub rows-init : goal.rows-init
rows-init c =
    let count : c.len-count.result ≡ length c.args.prefixes.now.rows = c.len-count.ensures in
    let width : c.width-width.result ≡ c.args.prefixes.now.width = c.width-width.ensures in
    record {
      same = width;
      long = c.slots-left.ensures.long ∙ (λ j. sym count j * sym width j);
      all = λ final keep are.
          subst (AreAsked (Some final) c.args.sources.now c.args.ties.now)
          ((λ j. rows_in (count j) (width j) c.slots-left.result.now) ∙ sym c.slots-left.ensures.rows) are;
    }

pub rows-preserved : goal.rows-preserved
rows-preserved c =
    let w : ℕ = c.width-width.result in
    let n : ℕ = c.rows.count in
    let left : List ℕ = c.rows.left.now in
    let front : List ℕ = c.split_row.result.0.now in
    let back : List ℕ = c.split_row.result.1.now in
    let sources : List Source = c.args.sources.now in
    let ties : List Probe = c.args.ties.now in
    let new : BTreeSet TieValues = c.ask_for.new.keys in
    let more : 0 < n = search rules in
    let joined : front ∷ rows_in (n - 1) w back ≡ rows_in n w left = rows_joined n w left front back more c.split_row.ensures.row c.split_row.ensures.rest in
    record {
      same = c.rows.invariant.same;
      long = ap length c.split_row.ensures.rest ∙ rest_long n w left more c.rows.invariant.long;
      all = λ final keep rest.
          c.rows.invariant.all final (λ key had. keep key (c.in_ok-ask_for.ensures.kept key had))
          (subst (AreAsked (Some final) sources ties) joined
          (asked_more new final keep (key_of (values_before ties (values_at sources front))) c.in_ok-ask_for.ensures.asked, rest));
    }

pub returns : goal.returns
returns c =
    let none : 0 ≡ c.rows.count = search rules in
    c.rows.invariant.all c.rows.keys (λ key had. had)
    (subst (λ (n : ℕ). AreAsked (Some c.rows.keys) c.args.sources.now c.args.ties.now (rows_in n c.width-width.result c.rows.left.now)) none tt)
