-- The rows of a table in blocks of 65,536, each block as a set of words.
use Rattle.std.specs.Prelude.{◌≡◌, ℕ, zero, suc, ◌+◌, ◌-◌, ◌*◌, ◌/◌, ◌%◌, ◌<◌, ◌≤◌, List, [], ◌∷◌, ◌++◌}
use Rattle.std.specs.Prelude.{length, false, cond}
use Rattle.std.specs.Prelude.{Option, Some, None, nat_lt, if◌then◌else◌, get_or}
use Rattle.std.specs.Option.{option_or}
use Rattle.std.specs.BTreeMap as tree
use Rattle.std.specs.BTreeMap.{BTreeMap}
use Rattle.std.specs.Map.{keys_of}
use Rattle.lanes.specs.Sets.{member}
use Rattle.lineage.specs.Lineage.{Row, row_cmp}
use Rattle.lineage.specs.declared.blocks.Block.{Block}
use Rattle.lineage.specs.declared.versions.Versions.{Versions}

-- ---- how a set keeps them

-- the table and the block of a row
abbrev pub block_of : Row → Row
block_of row = (row.0, row.1 / 65536)

-- the version of the row n of a block, from the first that is noted on; 0 where none is noted
abbrev pub version_of : Versions → ℕ → ℕ
version_of versions n = cond (nat_lt n versions.first) 0 (get_or versions.numbers (n - versions.first) 0)

-- a version of the row n can be noted without memory
abbrev pub HasPlace : Versions → ℕ → Type 0
HasPlace versions n = (versions.first ≤ n) × (n < versions.first + length versions.numbers)

-- the version of the row n of a block, where it is in the set
abbrev pub row_in : Block → ℕ → Option ℕ
row_in block n = if member block.words.items n then Some (version_of block.versions n) else None

abbrev pub row_at : Option Block → ℕ → Option ℕ
row_at None n = None
row_at (Some block) n = row_in block n

abbrev pub found_at : BTreeMap Row Block → Row → Option ℕ
found_at blocks row = row_at (tree.get row_cmp blocks (block_of row)) (row.1 % 65536)

-- a version above 0 can be noted
abbrev pub HasRoomIn : Versions → ℕ → ℕ → Type 0
HasRoomIn versions n version = 0 < version → HasPlace versions n

-- there is a block, with room for the version of the row n
abbrev pub RoomAt : Option Block → ℕ → ℕ → Type 0
RoomAt None n version = ⊥
RoomAt (Some block) n version = HasRoomIn block.versions n version

abbrev pub HasRoom : BTreeMap Row Block → Row → ℕ → Type 0
HasRoom blocks row version = RoomAt (tree.get row_cmp blocks (block_of row)) (row.1 % 65536) version

abbrev pub AllRoom : BTreeMap Row Block → List (Row × ℕ) → Type 0
AllRoom blocks [] = Unit {0}
AllRoom blocks (row ∷ rows) = HasRoom blocks row.0 row.1 × AllRoom blocks rows

-- where there is another block, there is one with room for all its versions
abbrev pub IsRoomy : Option Block → Option Block → Type 0
IsRoomy block None = Unit {0}
IsRoomy None (Some other) = ⊥
IsRoomy (Some block) (Some other) = (n : ℕ) → HasRoomIn block.versions n (version_of other.versions n)

abbrev pub AreRoomy : BTreeMap Row Block → BTreeMap Row Block → Type 0
AreRoomy blocks others =
    (place : Row) → IsRoomy (tree.get row_cmp blocks place) (tree.get row_cmp others place)

-- a block has 1,024 words, and no version of a row that isn't in the set
pub record IsKept (place : Row) (block : Block) : Type 0 where
  pub within : place.1 < 65536
  pub long : length block.words.items ≡ 1024
  pub clear : (n : ℕ) → member block.words.items n ≡ false → version_of block.versions n ≡ 0

abbrev pub AreKept : BTreeMap Row Block → Type 0
AreKept blocks =
    (place : Row) (block : Block) → tree.get row_cmp blocks place ≡ Some block → IsKept place block

-- all room of a block is there afterwards
abbrev pub StaysAt : Option Block → Option Block → Type 0
StaysAt None new = Unit {0}
StaysAt (Some old) None = ⊥
StaysAt (Some old) (Some new) = (n : ℕ) → HasPlace old.versions n → HasPlace new.versions n

abbrev pub Stays : BTreeMap Row Block → BTreeMap Row Block → Type 0
Stays old new = (place : Row) → StaysAt (tree.get row_cmp old place) (tree.get row_cmp new place)

-- a block with the same rows, and with room for as many versions or more
pub record IsRoomier (old new : Block) : Type 0 where
  pub words : new.words.items ≡ old.words.items
  pub same : (n : ℕ) → version_of new.versions n ≡ version_of old.versions n
  pub stays : (n : ℕ) → HasPlace old.versions n → HasPlace new.versions n

-- blocks with the same rows, and with room for as many rows or more
pub record AreRoomier (old new : BTreeMap Row Block) : Type 0 where
  pub kept : AreKept old → AreKept new
  pub same : (place : Row) (n : ℕ)
      → row_at (tree.get row_cmp new place) n ≡ row_at (tree.get row_cmp old place) n
  pub stays : Stays old new

-- the row n of one block, or else of another
abbrev pub row_of_both : Option Block → Option Block → ℕ → Option ℕ
row_of_both one other n = option_or (row_at one n) (row_at other n)

-- ---- the rows of all blocks

abbrev pub with_row : Row → Option ℕ → List (Row × ℕ) → List (Row × ℕ)
with_row row None rows = rows
with_row row (Some version) rows = (row, version) ∷ rows

-- a number of rows of a table, from the row n of a block on
abbrev pub rows_from : (ℕ → Option ℕ) → ℕ → ℕ → ℕ → ℕ → List (Row × ℕ)
rows_from found table base zero n = []
rows_from found table base (suc count) n =
    with_row (table, base + n) (found n) (rows_from found table base count (suc n))

-- the rows of a block, in their order
unfoldable pub rows_of_block : Option Block → Row → List (Row × ℕ)
rows_of_block block place = rows_from (row_at block) place.0 (65536 * place.1) 65536 0

-- the rows of the blocks at some places
abbrev pub rows_under : (Row → Option Block) → List Row → List (Row × ℕ)
rows_under at [] = []
rows_under at (place ∷ places) = rows_of_block (at place) place ++ rows_under at places

abbrev pub all_rows : BTreeMap Row Block → List (Row × ℕ)
all_rows blocks = rows_under (tree.get row_cmp blocks) (keys_of blocks.entries)
