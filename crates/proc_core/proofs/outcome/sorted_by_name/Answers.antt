use Rattle.std.proofs.Common.{rules, ◌≡◌, ◌∙◌, ap}
use Rattle.std.specs.Cmp.{IsStrictWeakOrder}
use Rattle.std.specs.Ordering.{is_lt}
use Rattle.std.proofs.lemmas.Cmp.{nat_list_cmp_total}
use Rattle.std.proofs.lemmas.List.MinMax.{ranks_by}
use Rattle.std.proofs.lemmas.Fn.{always_returns_same}
use Rattle.run_model.specs.declared.outcome.ProcOutcome.{ProcOutcome}
use Rattle.sql_model.proofs.StableSorting.{sorted-is}
use Rattle.proc_core.specs.inner.SlotOutcome.{name_cmp}
use Rattle.proc_core.proofs.Outcomes.{name_total}
use Rattle.proc_core.proofs.outcome.sorted_by_name.Goals as goal

pub returns : goal.returns
returns c =
    let less = λ (a b : ProcOutcome). is_lt (name_cmp a b) in
    let weak : IsStrictWeakOrder less = ranks_by nat_list_cmp_total (λ (o : ProcOutcome). o.name.parts) in
    c.in_ok-named.ensures
    ∙ sorted-is name_cmp name_total c.args.outcomes.items c.sort_by.new.self.items
    (c.in_ok-sort_by.ensures.sorted less weak (always_returns_same _ _ _ (λ a r q k. let o : r ≡ name_cmp a.0.now a.1.0.now = search rules in (ap is_lt o, search rules))))
    (c.in_ok-sort_by.ensures.stable less weak (always_returns_same _ _ _ (λ a r q k. let o : r ≡ name_cmp a.0.now a.1.0.now = search rules in (ap is_lt o, search rules))))
