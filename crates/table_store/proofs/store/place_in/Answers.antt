use Rattle.std.proofs.Common.{◌≡◌, ◌∙◌, ◌<◌, ◌≤◌, ap, sym, subst, ℕ, List, true, false, length, get_or, arith}
use Rattle.std.proofs.lemmas.List.{get_or_read}
use Rattle.ldv_value.specs.Sorted.{text_precedes}
use Rattle.table_store.specs.Histories.{TableHistory, is_history}
use Rattle.table_store.specs.StoreView.{no_table}
use Rattle.table_store.proofs.NamedLaws.{all_before, not_at}
use Rattle.table_store.proofs.store.place_in.Goals as goal

pub returns-then-place-len-clause-absent : goal.returns-then-place-len-clause-absent
returns-then-place-len-clause-absent c = λ none.
    let tables = c.args.tables.now.items in
    let name = c.args.name.now in
    let place = c.place_of-place.result in
    let before = subst (λ (l : List TableHistory). (k : ℕ) → k < place → text_precedes (get_or l k no_table).name name ≡ true) c.deref.ensures.value c.place_of-place.ensures.before in
    all_before (λ (t : TableHistory). t.name) no_table name tables (λ k below. before k (omega arith))

pub returns-else-is_named-clause-absent : goal.returns-else-is_named-clause-absent
returns-else-is_named-clause-absent c = λ none.
    let tables = c.args.tables.now.items in
    let name = c.args.name.now in
    let place = c.place_of-place.result in
    let before = subst (λ (l : List TableHistory). (k : ℕ) → k < place → text_precedes (get_or l k no_table).name name ≡ true) c.deref.ensures.value c.place_of-place.ensures.before in
    let after = subst (λ (l : List TableHistory). (k : ℕ) → place ≤ k → k < length l → text_precedes (get_or l k no_table).name name ≡ false) c.deref.ensures.value c.place_of-place.ensures.after in
    let within : place < length tables = omega arith in
    let held : c.index-held.result.now ≡ get_or tables place no_table = get_or_read tables _ _ within c.index-held.ensures no_table in
    let other : is_history name (get_or tables place no_table) ≡ false = ap (is_history name) (sym held) ∙ sym c.is_named.ensures ∙ c.if-is_named.false in
    not_at (λ (t : TableHistory). t.name) no_table name tables place c.requires within before (after place (omega arith) within) other
