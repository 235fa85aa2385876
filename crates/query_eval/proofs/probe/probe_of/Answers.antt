use Rattle.std.proofs.Common.{rules, ◌≡◌, ◌∷◌, ◌∙◌, ap, List, ℕ, drop, true}
use Rattle.query_eval.specs.inner.Joining.{IsBetween, IsEquality, IsProbeOf}
use Rattle.predicates.proofs.Lists.{IfSome-weaker}
use Rattle.query_eval.proofs.Probes.{probe-is}
use Rattle.query_eval.proofs.probe.probe_of.Goals as goal

pub returns : goal.returns
returns c =
    let cond = c.args.cond.now in
    let is : c.is_equality.result ≡ true = search rules in
    let equality : IsEquality cond.expr = c.is_equality.ensures is in
    let places : cond.places ≡ c.in-Some.a.now ∷ c.in-Some-get.b.now ∷ drop 2 cond.places =
    c.in-Some.ensures.rest ∙ ap (λ (l : List ℕ). c.in-Some.a.now ∷ l) c.in-Some-get.ensures.rest in
    IfSome-weaker c.probe_between.result (IsBetween c.in-Some.a.now c.in-Some-get.b.now c.args.width) (IsProbeOf cond c.args.width)
    (λ probe between. probe-is cond c.in-Some.a.now c.in-Some-get.b.now c.args.width (drop 2 cond.places) probe equality places between) c.probe_between.ensures
