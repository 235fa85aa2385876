use Rattle.std.proofs.Common.{rules, ◌≡◌, ◌∙◌, ◌&&◌, ◌||◌, not, ap, sym, refl, List, ℕ, []}
use Rattle.std.specs.Prelude.{Option, unwrap_or}
use Rattle.std.proofs.lemmas.Result.{on_ok_weaker}
use Rattle.lanes.specs.Sets.{member}
use Rattle.slicer.specs.inner.Rows.{words_at}
use Rattle.slicer.proofs.RowSetLaws.{block_written}
use Rattle.slicer.proofs.united.unite_block.Goals as goal

pub returns-in-Some-clause-fresh : goal.returns-in-Some-clause-fresh
returns-in-Some-clause-fresh c =
    let was : c.in-Some.words.now ≡ words_at c.args.numbers.now c.args.block = ap (λ (o : Option (List ℕ)). unwrap_or o []) c.in-Some.ensures.value in
    on_ok_weaker c.unite_words.result
    (λ taken n. taken n ∙ ap (λ (w : List ℕ). member c.args.fresh.now n && not (member w n)) was)
    c.unite_words.ensures.fresh

pub returns-in-Some-clause-numbers : goal.returns-in-Some-clause-numbers
returns-in-Some-clause-numbers c =
    on_ok_weaker c.unite_words.result
    (block_written c.args.numbers.now (c.get_mut.follows.lender c.unite_words.new.known) c.args.block c.in-Some.words.now c.unite_words.new.known
    (ap (λ (o : Option (List ℕ)). unwrap_or o []) (sym c.in-Some.ensures.value))
    ((c.get_mut.follows.holds c.unite_words.new.known).3 (search rules))
    (λ a b. a || b) (λ b. refl) (member c.args.fresh.now))
    c.unite_words.ensures.known
