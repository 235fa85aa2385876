-- All bytes of a joined package; the digest comes last.
use Rattle.std.specs.Prelude.{ℕ, List, ◌++◌, codes}
use Rattle.sha2.specs.Sha256.{sha256}
use Rattle.joined_data.specs.declared.joined.Joined.{Joined}
use Rattle.joined_data.specs.Layout.{joined_sections}

abbrev pub joined_magic : List ℕ
joined_magic = codes "LDVJOIN1"

abbrev pub joined_body : Joined → List ℕ
joined_body j = joined_magic ++ joined_sections j

abbrev pub joined_spelling : Joined → List ℕ
joined_spelling j = joined_body j ++ sha256 (joined_body j)
