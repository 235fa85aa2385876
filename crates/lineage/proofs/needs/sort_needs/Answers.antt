use Rattle.std.proofs.Common.{rules, ◌≡◌, ◌∙◌, ap}
use Rattle.std.specs.Cmp.{IsStrictWeakOrder}
use Rattle.std.specs.Ordering.{is_lt}
use Rattle.std.proofs.lemmas.List.MinMax.{ranks_by}
use Rattle.std.proofs.lemmas.Fn.{always_returns_same}
use Rattle.lineage.proofs.OnceLaws.{member_total, need_total}
use Rattle.lineage.specs.Needing.{need_order}
use Rattle.sql_model.specs.declared.need.Need.{Need}
use Rattle.sql_model.specs.Sorting.{sorted_by}
use Rattle.sql_model.proofs.StableSorting.{sorted-is}
use Rattle.lineage.proofs.needs.sort_needs.Goals as goal

pub returns : goal.returns
returns c =
    let less = λ (a b : Need). is_lt (need_order a b) in
    let weak : IsStrictWeakOrder less = ranks_by member_total (λ (n : Need). n.member) in
    c.of_vec.ensures
    ∙ sorted-is need_order need_total c.into_vec-items.result.items c.sort_by.new.self.items
    (c.in_ok-sort_by.ensures.sorted less weak (always_returns_same _ _ _ (λ a r q k. let o : r ≡ need_order a.0.now a.1.0.now = search rules in (ap is_lt o, search rules))))
    (c.in_ok-sort_by.ensures.stable less weak (always_returns_same _ _ _ (λ a r q k. let o : r ≡ need_order a.0.now a.1.0.now = search rules in (ap is_lt o, search rules))))
    ∙ ap (sorted_by need_order) c.into_vec-items.ensures
