-- The ids of nodes in a document, and the nodes that ids name.
--
-- Other ids may name the same node, as one with zeros before its number. So reading a document writes the
-- graph anew and compares.
use Rattle.std.specs.Prelude.{ℕ, ◌+◌, ◌-◌, ◌*◌, List, [], ◌∷◌, ◌++◌, take, drop, position, codes}
use Rattle.std.specs.Prelude.{Bool, true, false, ◌&&◌, ◌==◌, nat_le, if◌then◌else◌}
use Rattle.std.specs.Prelude.{Option, Some, None, option_map, option_and_then}
use Rattle.std.specs.Fmt.{decimal}
use Rattle.ldv_value.specs.Texts.{text_of}
use Rattle.sql_model.specs.TextBytes.{is_digit}
use Rattle.prov_export.specs.Types.{Member, Node, Path, Process, Row, Ask, Reply}

-- paths, row versions and replies are entities; processes and statements are activities
abbrev pub is_entity : Node → Bool
is_entity (Path path) = true
is_entity (Process process) = false
is_entity (Row member) = true
is_entity (Ask statement) = false
is_entity (Reply statement) = true

-- ---- ids

abbrev pub member_id : Member → List ℕ
member_id member = member.table ++ 47 ∷ (decimal member.row ++ 47 ∷ decimal member.version)

abbrev pub node_id : Node → List ℕ
node_id (Path path) = codes "ldv:path/" ++ path
node_id (Process process) = codes "ldv:process/" ++ decimal process
node_id (Row member) = codes "ldv:row/" ++ member_id member
node_id (Ask statement) = codes "ldv:ask/" ++ decimal statement
node_id (Reply statement) = codes "ldv:reply/" ++ decimal statement

-- ---- what is read of an id

-- what follows a text at the front of another
abbrev pub after : List ℕ → List ℕ → Option (List ℕ)
after [] text = Some text
after (p ∷ ps) [] = None
after (p ∷ ps) (t ∷ ts) = if p == t then after ps ts else None

abbrev pub with_digit : ℕ → ℕ → Option ℕ
with_digit n byte =
    if is_digit byte && nat_le (n * 10 + (byte - 48)) 4294967295 then Some (n * 10 + (byte - 48)) else None

-- a number with more digits
abbrev pub with_digits : ℕ → List ℕ → Option ℕ
with_digits n [] = Some n
with_digits n (byte ∷ bytes) = option_and_then (λ m. with_digits m bytes) (with_digit n byte)

-- a number of four bytes
abbrev pub number_in : List ℕ → Option ℕ
number_in bytes = with_digits 0 bytes

abbrev pub is_slash : ℕ → Bool
is_slash byte = byte == 47

-- the parts before and after a place
abbrev pub cut_at : List ℕ → ℕ → List ℕ × List ℕ
cut_at text place = (take place text, drop (place + 1) text)

-- the parts before and after the first slash
abbrev pub parts_at_slash : List ℕ → Option (List ℕ × List ℕ)
parts_at_slash text = option_map (cut_at text) (position is_slash text)

-- `ROW/VERSION`
abbrev pub version_from : List ℕ × List ℕ → Option (ℕ × ℕ)
version_from p =
    option_and_then (λ row. option_map (λ version. (row, version)) (number_in p.1)) (number_in p.0)

abbrev pub version_in : List ℕ → Option (ℕ × ℕ)
version_in text = option_and_then version_from (parts_at_slash text)

abbrev pub row_of : List ℕ → ℕ × ℕ → Node
row_of table version = Row (record { table = table; row = version.0; version = version.1 })

-- `TABLE/ROW/VERSION`
abbrev pub row_from : List ℕ × List ℕ → Option Node
row_from p =
    option_and_then (λ version. option_map (λ table. row_of table version) (text_of p.0)) (version_in p.1)

abbrev pub row_in : List ℕ → Option Node
row_in text = option_and_then row_from (parts_at_slash text)

abbrev pub path_in : List ℕ → Option Node
path_in text = option_map Path (text_of text)

-- what is read of the rest, if there is one
abbrev pub rest_or : (List ℕ → Option Node) → Option (List ℕ) → Option Node → Option Node
rest_or read None other = other
rest_or read (Some rest) other = read rest

abbrev pub reply_in : List ℕ → Option Node
reply_in text = rest_or (λ rest. option_map Reply (number_in rest)) (after (codes "ldv:reply/") text) None

abbrev pub statement_in : List ℕ → Option Node
statement_in text =
    rest_or (λ rest. option_map Ask (number_in rest)) (after (codes "ldv:ask/") text) (reply_in text)

abbrev pub numbered_in : List ℕ → Option Node
numbered_in text =
    rest_or (λ rest. option_map Process (number_in rest)) (after (codes "ldv:process/") text)
    (statement_in text)

abbrev pub other_in : List ℕ → Option Node
other_in text = rest_or row_in (after (codes "ldv:row/") text) (numbered_in text)

abbrev pub node_in : List ℕ → Option Node
node_in text = rest_or path_in (after (codes "ldv:path/") text) (other_in text)
