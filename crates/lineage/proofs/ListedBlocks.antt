-- Blocks, listed in turn.
use Rattle.std.proofs.Common.{◌≡◌, ◌∙◌, sym, ap, refl, ℕ, ◌+◌, ◌-◌, ◌*◌, ◌/◌, ◌%◌, ◌<◌, inl, inr, true, false, cond, List, [], ◌∷◌, ◌++◌, map, length, Option, Some, None, is_some, arith, append_assoc, append-nil}
use Rattle.std.specs.Prelude.{IsTrue}
use Rattle.std.specs.BTreeMap as tree
use Rattle.std.specs.BTreeMap.{BTreeMap}
use Rattle.std.specs.Map.{keys_of}
use Rattle.std.proofs.lemmas.Bool.{cases_lt}
use Rattle.std.proofs.lemmas.List.{map-append}
use Rattle.lanes.specs.Sets.{member as has_member, IsNext}
use Rattle.lanes.proofs.SetLaws.{no_member}
use Rattle.lineage.specs.inner.Blocks.{row_in, row_at, version_of, rows_from, rows_of_block, rows_under}
use Rattle.lineage.specs.inner.Blocks.{found_at}
use Rattle.lineage.specs.Lineage.{Row, row_cmp, member}
use Rattle.lineage.specs.declared.blocks.Block.{Block}
use Rattle.lineage.proofs.BlockOrder.{next_row, no_row}
use Rattle.lineage.proofs.Lent.{is_member}
use Rattle.ldv_value.proofs.Booleans.{true≢false}
use Rattle.sql_model.specs.declared.need.Member.{Member}

pub within_words : (words : List ℕ) (n : ℕ) → length words ≡ 1024 → has_member words n ≡ true → n < 65536
within_words words n long is = elim (cases_lt (n / 64) (length words)) [
  | inl below ↦ omega (arith, below, long)
  | inr past ↦ absurd (true≢false (sym is ∙ no_member words n past))
]

gone : (b : Block) (n : ℕ) → has_member b.words.items n ≡ false → row_in b n ≡ None
gone b n is = ap (λ t. cond t (Some (version_of b.versions n)) None) is

-- a row more is listed
pub one_listed : (names : List (List ℕ)) (table base end n least : ℕ) (b : Block) (before after : List Member) → length b.words.items ≡ 1024 → end ≡ 65536
    → IsNext b.words.items n (Some least) → after ≡ before ++ member names ((table, base + least), version_of b.versions least) ∷ []
    → after ++ map (member names) (rows_from (row_in b) table base (end - (least + 1)) (least + 1))
    ≡ before ++ map (member names) (rows_from (row_in b) table base (end - n) n)
one_listed names table base end n least b before after long all next is =
    let below : least < end = omega (arith, all, within_words b.words.items least long next.1) in
    let here : row_in b least ≡ Some (version_of b.versions least) = ap (λ t. cond t (Some (version_of b.versions least)) None) next.1 in
    let rest : List Member = map (member names) (rows_from (row_in b) table base (end - (least + 1)) (least + 1)) in
    ap (λ (ms : List Member). ms ++ rest) is
    ∙ append_assoc before (member names ((table, base + least), version_of b.versions least) ∷ []) rest
    ∙ ap (λ (rows : List (Row × ℕ)). before ++ map (member names) rows)
    (sym (next_row (row_in b) table base end n least (version_of b.versions least) next.0 below here (λ i on early. gone b i (next.2 i on early))))

-- no row is left
pub all_listed : (names : List (List ℕ)) (table base count n : ℕ) (b : Block) (ms : List Member) → IsNext b.words.items n None
    → ms ++ map (member names) (rows_from (row_in b) table base count n) ≡ ms
all_listed names table base count n b ms none =
    ap (λ (rows : List (Row × ℕ)). ms ++ map (member names) rows) (no_row (row_in b) table base count n (λ i on. gone b i (none i on))) ∙ append-nil ms

pub block_listed : (names : List (List ℕ)) (place : Row) (end : ℕ) (b : Block) → end ≡ 65536
    → map (member names) (rows_from (row_in b) place.0 (65536 * place.1) end 0) ≡ map (member names) (rows_of_block (Some b) place)
unfolding rows_of_block
block_listed names place end b is = ap (λ (k : ℕ). map (member names) (rows_from (row_in b) place.0 (65536 * place.1) k 0)) is

pub none_of_block : (place : Row) → rows_of_block None place ≡ []
unfolding rows_of_block
none_of_block place = no_row (row_at None) place.0 (65536 * place.1) 65536 0 (λ i on. refl)

-- the block at a place is listed
pub place_listed : (names : List (List ℕ)) (at : Row → Option Block) (es rest : List (Row × Block)) (place : Row) (b : Block) (before after : List Member)
    → es ≡ (place, b) ∷ rest → after ≡ before ++ map (member names) (rows_of_block (at place) place)
    → after ++ map (member names) (rows_under at (keys_of rest)) ≡ before ++ map (member names) (rows_under at (keys_of es))
place_listed names at es rest place b before after split is =
    ap (λ (ms : List Member). ms ++ map (member names) (rows_under at (keys_of rest))) is
    ∙ append_assoc before (map (member names) (rows_of_block (at place) place)) (map (member names) (rows_under at (keys_of rest)))
    ∙ ap (λ (ms : List Member). before ++ ms) (sym (map-append (member names) (rows_of_block (at place) place) (rows_under at (keys_of rest))))
    ∙ ap (λ (fs : List (Row × Block)). before ++ map (member names) (rows_under at (keys_of fs))) (sym split)

-- the tables of the rows of a block are named
pub named_in : (names : List (List ℕ)) (m : BTreeMap Row Block) (place : Row) (b : Block) → tree.get row_cmp m place ≡ Some b → length b.words.items ≡ 1024
    → ((row : Row) → IsTrue (is_some (found_at m row)) → row.0 < length names) → (n : ℕ) → has_member b.words.items n ≡ true → place.0 < length names
named_in names m place b is long named n there =
    let below : n < 65536 = within_words b.words.items n long there in
    let part : (65536 * place.1 + n) / 65536 ≡ place.1 = omega (arith, below) in
    let at : (65536 * place.1 + n) % 65536 ≡ n = omega (arith, below) in
    named (place.0, 65536 * place.1 + n)
    ((λ j. is_some (row_at (tree.get row_cmp m (place.0, part j)) (at j))) ∙ ap (λ (o : Option Block). is_some (row_at o n)) is ∙ is_member b n ∙ there)
