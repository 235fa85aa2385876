use Rattle.std.proofs.Common.{rules, ◌≡◌, ◌∙◌, ap}
use Rattle.std.specs.Cmp.{IsStrictWeakOrder, IsTotalOrder}
use Rattle.std.specs.Ordering.{is_lt}
use Rattle.std.proofs.lemmas.List.MinMax.{ranks_by}
use Rattle.std.proofs.lemmas.Fn.{always_returns_same}
use Rattle.query_eval.proofs.Abbreviations.{by_keys_total}
use Rattle.query_eval.specs.declared.abbreviated.KeyedAnswer.{KeyedAnswer}
use Rattle.query_eval.specs.inner.Abbreviating.{by_keys}
use Rattle.sql_model.proofs.StableSorting.{sorted-is}
use Rattle.query_eval.proofs.sort.sort_keyed.Goals as goal

pub returns : goal.returns
returns c =
    let by = by_keys c.args.columns.now in
    let total : IsTotalOrder by = by_keys_total c.args.columns.now in
    let less = λ (a b : KeyedAnswer). is_lt (by a b) in
    let weak : IsStrictWeakOrder less = ranks_by total (λ (each : KeyedAnswer). each) in
    sorted-is by total c.args.keyed.items c.sort_by.new.self.items
    (c.in_ok-sort_by.ensures.sorted less weak (always_returns_same _ _ _ (λ a r q k. let o : r ≡ by a.0.now a.1.0.now = search rules in (ap is_lt o, search rules))))
    (c.in_ok-sort_by.ensures.stable less weak (always_returns_same _ _ _ (λ a r q k. let o : r ≡ by a.0.now a.1.0.now = search rules in (ap is_lt o, search rules))))
