use Rattle.std.proofs.Common.{rules, ◌≡◌, ◌∙◌, ◌&&◌, ◌||◌, not, ap, refl, cond, List, ℕ}
use Rattle.std.specs.Prelude.{Option, Some, bytes_eq}
use Rattle.std.specs.BTreeMap.{BTreeMap, get_by_text}
use Rattle.std.proofs.lemmas.Result.{on_ok_weaker}
use Rattle.std.proofs.lemmas.Map.Text.{btree_map_updates_text}
use Rattle.lanes.specs.Sets.{member}
use Rattle.slicer.specs.inner.Rows.{has_among, is_in, words_among}
use Rattle.slicer.proofs.RowSetLaws.{rows_written}
use Rattle.slicer.proofs.united.unite_rows.Goals as goal

pub returns-in-Some-clause-fresh : goal.returns-in-Some-clause-fresh
returns-in-Some-clause-fresh c =
    let was : Some c.in-Some.numbers.now ≡ get_by_text c.args.rows.now c.args.table.now = c.in-Some.ensures.value ∙ ap (get_by_text c.args.rows.now) c.as_str.ensures in
    on_ok_weaker c.unite_block.result
    (λ taken n. taken n
    ∙ ap (λ (o : Option (BTreeMap ℕ (List ℕ))). member c.args.fresh.now n && not (member (words_among o c.args.block) n)) was)
    c.unite_block.ensures.fresh

pub returns-in-Some-clause-rows : goal.returns-in-Some-clause-rows
returns-in-Some-clause-rows c =
    let old = c.args.rows.now in
    let made = c.unite_block.new.numbers in
    let new = c.get_mut.follows.lender made in
    let table = c.args.table.now in
    let text = c.as_str.result.now in
    let is : text ≡ table = c.as_str.ensures in
    let was : Some c.in-Some.numbers.now ≡ get_by_text old table = c.in-Some.ensures.value ∙ ap (get_by_text old) is in
    let updates : (q : List ℕ) → get_by_text new q ≡ cond (bytes_eq table q) (Some made) (get_by_text old q) =
    λ q. btree_map_updates_text text old new (Some made) ((c.get_mut.follows.holds made).3 (search rules)) q
    ∙ ap (λ (k : List ℕ). cond (bytes_eq k q) (Some made) (get_by_text old q)) is in
    on_ok_weaker c.unite_block.result
    (λ steps. rows_written old new table (is_in c.args.block c.args.fresh.now) made updates (λ a b. a || b) (λ b. refl)
    (λ r. steps r ∙ ap (λ (o : Option (BTreeMap ℕ (List ℕ))). is_in c.args.block c.args.fresh.now r || has_among o r) was))
    c.unite_block.ensures.numbers
