use Rattle.std.proofs.Common.{rules, ◌&&◌, not, ap, sym, refl, List, ℕ, []}
use Rattle.std.specs.Prelude.{Option, unwrap_or}
use Rattle.slicer.proofs.RowSetLaws.{numbers_written}
use Rattle.slicer.proofs.row_set.remove_number.Goals as goal

pub returns-in-Some : goal.returns-in-Some
returns-in-Some c =
    numbers_written c.args.numbers.now (c.get_mut.follows.lender c.clear_bit.new.words) c.args.number c.in-Some.words.now c.clear_bit.new.words
    (ap (λ (o : Option (List ℕ)). unwrap_or o []) (sym c.in-Some.ensures.value))
    ((c.get_mut.follows.holds c.clear_bit.new.words).3 (search rules))
    (λ a b. not a && b) (λ b. refl) c.clear_bit.ensures
