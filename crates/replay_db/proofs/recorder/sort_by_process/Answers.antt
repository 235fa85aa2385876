use Rattle.std.proofs.Common.{rules, ◌≡◌, ◌∙◌, ap}
use Rattle.std.specs.Cmp.{IsStrictWeakOrder}
use Rattle.std.specs.Ordering.{is_lt}
use Rattle.std.specs.Cmp.Lexicographic.{nat_list_cmp_total}
use Rattle.std.proofs.lemmas.List.MinMax.{ranks_by}
use Rattle.std.proofs.lemmas.Fn.{always_returns_same}
use Rattle.sql_model.specs.Sorting.{sorted_by}
use Rattle.sql_model.proofs.StableSorting.{sorted-is}
use Rattle.run_laws.specs.declared.kept.Kept.{Kept}
use Rattle.replay_db.specs.inner.KeptGroups.{kept_cmp}
use Rattle.replay_db.proofs.KeptLogs.{kept_total}
use Rattle.replay_db.proofs.recorder.sort_by_process.Goals as goal

pub returns : goal.returns
returns c =
    let less = λ (a b : Kept). is_lt (kept_cmp a b) in
    let weak : IsStrictWeakOrder less = ranks_by nat_list_cmp_total (λ (k : Kept). k.process.parts) in
    sorted-is kept_cmp kept_total _ c.sort_by.new.self.items
    (c.in_ok-sort_by.ensures.sorted less weak (always_returns_same _ _ _ (λ a r q k. let o : r ≡ kept_cmp a.0.now a.1.0.now = search rules in (ap is_lt o, search rules))))
    (c.in_ok-sort_by.ensures.stable less weak (always_returns_same _ _ _ (λ a r q k. let o : r ≡ kept_cmp a.0.now a.1.0.now = search rules in (ap is_lt o, search rules))))
    ∙ ap (sorted_by kept_cmp) c.into_vec-items.ensures
