use Rattle.std.proofs.Common.{rules, ◌≡◌, ◌∙◌, ap, sym, refl, ℕ, List, [], ◌∷◌, ◌++◌, None}
use Rattle.std.specs.Prelude.{ℤ}
use Rattle.std.specs.Ordering.{int_cmp, eq_by_cmp}
use Rattle.std.proofs.lemmas.Map.{update_all_push}
use Rattle.table_store.specs.KeyIndex.{last_under}
use Rattle.table_store.proofs.keys.index.add_int.Goals as goal

pub returns : goal.returns
returns c = λ n.
    let old : List (ℤ × ℕ) = c.args.ints.now.items in
    let new : List (ℤ × ℕ) = c.push.new.self.items in
    let pushed : new ≡ old ++ (c.args.int, c.args.number) ∷ [] = search rules in
    ap (λ (l : List (ℤ × ℕ)). last_under l n) pushed
    ∙ sym (update_all_push (eq_by_cmp int_cmp) (λ key. None) (last_under old) old (c.args.int, c.args.number) n refl)
