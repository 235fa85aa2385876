use Rattle.std.proofs.Common.{rules, ◌||◌, ap, sym, refl, List, ℕ, []}
use Rattle.std.specs.Prelude.{Option, unwrap_or}
use Rattle.std.proofs.lemmas.Result.{on_ok_weaker}
use Rattle.slicer.proofs.RowSetLaws.{numbers_written}
use Rattle.slicer.proofs.row_set.add_number.Goals as goal

pub returns-in-Some : goal.returns-in-Some
returns-in-Some c =
    on_ok_weaker c.set_bit.result
    (numbers_written c.args.numbers.now (c.get_mut.follows.lender c.set_bit.new.words) c.args.number c.in-Some.words.now c.set_bit.new.words
    (ap (λ (o : Option (List ℕ)). unwrap_or o []) (sym c.in-Some.ensures.value))
    ((c.get_mut.follows.holds c.set_bit.new.words).3 (search rules))
    (λ a b. a || b) (λ b. refl))
    c.set_bit.ensures
