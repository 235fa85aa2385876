use Rattle.std.proofs.Common.{◌≡◌, ◌∙◌, ap, length, ℕ, List}
use Rattle.std.proofs.lemmas.List.{length-replicate}
use Rattle.library_tests.proofs.StoreFacts.{words_due}
use Rattle.table_store.specs.Histories.{history_at}
use Rattle.library_tests.proofs.times.mask_for.Goals as goal

pub returns : goal.returns
returns c = words_due (history_at c.args.name.now c.args.store.now) c.slots.result (length c.in_ok-mask.mask.items)
    c.slots.ensures (ap (λ (l : List ℕ). length l) (c.in_ok-mask.ensures.items_if_clones_equal (λ y e. e))
    ∙ length-replicate c.words_for-count.result 0 ∙ c.words_for-count.ensures)
