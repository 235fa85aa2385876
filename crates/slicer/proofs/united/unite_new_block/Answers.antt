use Rattle.std.proofs.Common.{◌≡◌, ◌∙◌, ◌&&◌, ◌||◌, not, ap, sym, refl, List, ℕ, []}
use Rattle.std.specs.Prelude.{Option, unwrap_or}
use Rattle.lanes.specs.Sets.{member}
use Rattle.slicer.specs.inner.Rows.{words_at}
use Rattle.slicer.proofs.RowSetLaws.{block_written}
use Rattle.slicer.proofs.united.unite_new_block.Goals as goal

pub returns-clause-fresh : goal.returns-clause-fresh
returns-clause-fresh c =
    let none : words_at c.args.numbers.now c.args.block ≡ [] = ap (λ (o : Option (List ℕ)). unwrap_or o []) c.requires in
    λ n. c.in_ok-unite_words.ensures.fresh n
    ∙ ap (λ (w : List ℕ). member c.args.fresh.now n && not (member w n)) (c.new-words.ensures ∙ sym none)

pub returns-clause-numbers : goal.returns-clause-numbers
returns-clause-numbers c =
    block_written c.args.numbers.now c.insert.new.self c.args.block [] c.unite_words.new.known
    (ap (λ (o : Option (List ℕ)). unwrap_or o []) c.requires)
    c.in_ok-insert.ensures.updates
    (λ a b. a || b) (λ b. refl) (member c.args.fresh.now)
    (λ k. c.in_ok-unite_words.ensures.known k ∙ ap (λ (w : List ℕ). member c.args.fresh.now k || member w k) c.new-words.ensures)
