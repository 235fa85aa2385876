use Rattle.std.proofs.Common.{◌∙◌, ◌||◌, ap, refl, List, ℕ, [], ◌%◌, ◌==◌}
use Rattle.std.specs.Prelude.{Option, unwrap_or}
use Rattle.lanes.specs.Sets.{member}
use Rattle.slicer.proofs.RowSetLaws.{numbers_written}
use Rattle.slicer.proofs.row_set.add_block.Goals as goal

pub returns : goal.returns
returns c =
    numbers_written c.args.numbers.now c.insert.new.self c.args.number [] c.set_bit.new.words
    (ap (λ (o : Option (List ℕ)). unwrap_or o []) c.requires)
    c.in_ok-insert.ensures.updates
    (λ a b. a || b) (λ b. refl)
    (λ k. c.in_ok-set_bit.ensures k ∙ ap (λ (ws : List ℕ). (k == c.args.number % 4096) || member ws k) c.new-words.ensures)
