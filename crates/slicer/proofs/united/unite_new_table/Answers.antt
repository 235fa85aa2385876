use Rattle.std.proofs.Common.{◌≡◌, ◌∙◌, ◌&&◌, ◌||◌, not, ap, sym, refl, List, ℕ}
use Rattle.std.specs.Prelude.{Option}
use Rattle.std.specs.BTreeMap.{BTreeMap}
use Rattle.std.proofs.lemmas.Result.{on_ok_weaker}
use Rattle.lanes.specs.Sets.{member}
use Rattle.slicer.specs.inner.Rows.{has_number, has_among, has_row, is_in, words_among}
use Rattle.slicer.proofs.RowSetLaws.{rows_written, no_numbers, no_words}
use Rattle.slicer.proofs.united.unite_new_table.Goals as goal

pub returns-clause-fresh : goal.returns-clause-fresh
returns-clause-fresh c =
    on_ok_weaker c.put_table.result
    (λ updates n. c.in_ok-unite_block.ensures.fresh n
    ∙ ap (λ (w : List ℕ). member c.args.fresh.now n && not (member w n))
    (no_words c.new-numbers.result c.new-numbers.ensures.empty c.args.block
    ∙ ap (λ (o : Option (BTreeMap ℕ (List ℕ))). words_among o c.args.block) (sym c.requires)))
    c.put_table.ensures

pub returns-clause-rows : goal.returns-clause-rows
returns-clause-rows c =
    let old = c.args.rows.now in
    let numbers = c.unite_block.new.numbers in
    let table = c.args.table.now in
    let steps : (r : ℕ) → has_number numbers r ≡ (is_in c.args.block c.args.fresh.now r || has_row old table r) =
    λ r. c.in_ok-unite_block.ensures.numbers r
    ∙ ap (λ b. is_in c.args.block c.args.fresh.now r || b)
    (no_numbers c.new-numbers.result c.new-numbers.ensures.empty r ∙ ap (λ (o : Option (BTreeMap ℕ (List ℕ))). has_among o r) (sym c.requires)) in
    on_ok_weaker c.put_table.result
    (λ updates. rows_written old c.put_table.new.rows table (is_in c.args.block c.args.fresh.now) numbers updates (λ a b. a || b) (λ b. refl) steps)
    c.put_table.ensures
