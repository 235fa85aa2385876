-- Words that are borrowed from a set.
use Rattle.std.proofs.Common.{◌≡◌, ◌∙◌, sym, ap, subst, ℕ, ◌+◌, ◌*◌, ◌/◌, ◌%◌, ◌<◌, inl, inr, true, false, List, length, Option, Some, None, is_some, arith, Bor}
use Rattle.std.specs.Prelude.{MatchOption, IfSome}
use Rattle.std.specs.BTreeMap as tree
use Rattle.std.specs.BTreeMap.{BTreeMap}
use Rattle.std.specs.FinMap.{from_entries}
use Rattle.std.proofs.lemmas.Bool.{cases_lt}
use Rattle.lanes.specs.Sets.{member}
use Rattle.lanes.proofs.SetLaws.{no_member}
use Rattle.lineage.specs.inner.Blocks.{all_rows, row_at, row_in, version_of}
use Rattle.lineage.specs.RowBlock.{has_in_block, HasNone, IsBlock}
use Rattle.lineage.specs.Lineage.{Row, row_cmp, Lineage}
use Rattle.lineage.specs.declared.blocks.Block.{Block}
use Rattle.lineage.proofs.Seen.{seen_in}
use Rattle.lineage.proofs.Laws.{has_alone}
use Rattle.ldv_value.proofs.Booleans.{true≢false}

pub is_member : (b : Block) (n : ℕ) → is_some (row_in b n) ≡ member b.words.items n
is_member b n = has_alone (member b.words.items n) (version_of b.versions n)

-- a row of a block is told by its place in it
pub in_block_seen : (m : BTreeMap Row Block) (set : Lineage) → from_entries (all_rows m) ≡ set → (table block n : ℕ) → n < 65536
    → has_in_block set table block n ≡ is_some (row_at (tree.get row_cmp m (table, block)) n)
in_block_seen m set seen table block n within =
    let part : (65536 * block + n) / 65536 ≡ block = omega (arith, within) in
    let place : (65536 * block + n) % 65536 ≡ n = omega (arith, within) in
    ap is_some (sym (seen_in m set seen (table, 65536 * block + n)))
    ∙ (λ j. is_some (row_at (tree.get row_cmp m (table, part j)) (place j)))

pub none_in_block : (m : BTreeMap Row Block) (set : Lineage) → from_entries (all_rows m) ≡ set → (table block : ℕ) → tree.get row_cmp m (table, block) ≡ None → HasNone set table block
none_in_block m set seen table block none n within =
    in_block_seen m set seen table block n within ∙ ap (λ (o : Option Block). is_some (row_at o n)) none

pub same_in_block : (m : BTreeMap Row Block) (set : Lineage) → from_entries (all_rows m) ≡ set → (table block : ℕ) (b : Block) → tree.get row_cmp m (table, block) ≡ Some b
    → (n : ℕ) → n < 65536 → member b.words.items n ≡ has_in_block set table block n
same_in_block m set seen table block b is n within =
    sym (is_member b n) ∙ ap (λ (o : Option Block). is_some (row_at o n)) (sym is) ∙ sym (in_block_seen m set seen table block n within)

-- ---- words that are lent

module _ (set : Lineage) (table block : ℕ) (words : List ℕ) (long : length words ≡ 1024)
    (same : (n : ℕ) → n < 65536 → member words n ≡ has_in_block set table block n) where
  within_block : (n : ℕ) → member words n ≡ true → n < 65536
  within_block n is = elim (cases_lt (n / 64) (length words)) [
    | inl below ↦ omega (arith, below, long)
    | inr past ↦ absurd (true≢false (sym is ∙ no_member words n past))
  ]

  pub lent_none : {X : Type 0} (o : Option X) → MatchOption o ((n : ℕ) → member words n ≡ false) (λ _. (n : ℕ) × (member words n ≡ true))
      → MatchOption o (HasNone set table block) (λ _. ¬ HasNone set table block)
  lent_none None none = λ n within. sym (same n within) ∙ none n
  lent_none (Some x) (n, is) = λ none. true≢false (sym is ∙ same n (within_block n is) ∙ none n (within_block n is))

  pub lent_words : (o : Option (Bor (List ℕ))) → MatchOption o (Unit {0}) (λ lent. lent.now ≡ words) → IfSome o (λ lent. IsBlock set table block lent.now)
  lent_words None is = tt
  lent_words (Some lent) is = subst (IsBlock set table block) (sym is) (record { long = long; bits = same })
