use Rattle.std.proofs.Common.{rules, ◌≡◌, ◌+◌, ◌∷◌, ap, ◌∙◌, sym, drop, arith, ◌+ℤ◌, w64, SFits}
use Rattle.std.proofs.lemmas.Int.{ints}
use Rattle.ldv_value.proofs.Places.{drop_item}
use Rattle.sql_model.specs.Meaning.{total}
use Rattle.group_eval.proofs.folds.total.Goals as goal

pub loop-value-preserved : goal.loop-value-preserved
loop-value-preserved c =
    let values = c.args.values.now in
    let i = c.loop-value.value-index in
    let value = c.value-item.result in
    let split : drop i values ≡ value ∷ drop (i + 1) values = drop_item values i value c.loop-value-test.true c.value-item.is in
    let fits : SFits w64 c.number_in.result = search rules in
    let more : total (drop i values) ≡ c.number_in.result +ℤ total (drop (i + 1) values) =
    ap total split ∙ ap (λ n. n +ℤ total (drop (i + 1) values)) (sym c.number_in.ensures) in
    record { sum = omega (arith, ints); above = omega (arith, ints); below = omega (arith, ints) }
