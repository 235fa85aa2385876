-- The rows of a block of a table as bits of words.
use Rattle.std.specs.Prelude.{◌≡◌, ℕ, ◌+◌, ◌*◌, ◌<◌, List, length, Bool, false}
use Rattle.lanes.specs.Sets.{member}
use Rattle.lineage.specs.Lineage.{Lineage, has_row}

-- whether the row n of a block of a table is in the set
abbrev pub has_in_block : Lineage → ℕ → ℕ → ℕ → Bool
has_in_block set table block n = has_row set (table, 65536 * block + n)

-- no row of the block is in the set
abbrev pub HasNone : Lineage → ℕ → ℕ → Type 0
HasNone set table block = (n : ℕ) → n < 65536 → has_in_block set table block n ≡ false

-- 1,024 words: bit i of word j is set exactly where the row 64 * j + i of the block is in the set
pub record IsBlock (set : Lineage) (table block : ℕ) (words : List ℕ) : Type 0 where
  pub long : length words ≡ 1024
  pub bits : (n : ℕ) → n < 65536 → member words n ≡ has_in_block set table block n
