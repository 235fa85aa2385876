-- Joining packages that are taken apart gives the same as joining them whole.
use Rattle.std.proofs.Common.{◌≡◌, ◌∙◌, refl, subst, Option, Some, None}
use Rattle.std.specs.Prelude.{Result, Err}
use Rattle.std.specs.Option.{option_or}
use Rattle.ldv_value.specs.Options.{first_some}
use Rattle.joined_data.specs.Types.{Package}
use Rattle.joined_data.specs.declared.joined.Clash.{Clash}
use Rattle.joined_data.specs.declared.joined.Joined.{Joined}
use Rattle.joined_data.specs.declared.joining.JoinStop.{JoinStop}
use Rattle.joined_data.specs.declared.parts.Parts.{Parts}
use Rattle.joined_data.specs.Joined.{joined_of, put_together, unless_clash, own_tables, merged_tables, file_cmp, file_clash, table_cmp, table_clash, rows_clash, keys_clash}
use Rattle.joined_data.specs.Merging.{first_clash}
use Rattle.joined_data.specs.Parts.{JoinsAs, joined_after, joined_parts, parts_in}

-- one clash after another
late : (files schemas rows keys : Option Clash) (j : Joined) (after : Option Clash → Result Joined Clash)
    → ((clash : Clash) → after (Some clash) ≡ Err clash) → after None ≡ unless_clash keys j
    → after (option_or files (option_or schemas rows)) ≡ unless_clash (option_or files (option_or schemas (option_or rows keys))) j
late (Some clash) schemas rows keys j after some none = some clash
late None (Some clash) rows keys j after some none = some clash
late None None (Some clash) keys j after some none = some clash
late None None None keys j after some none = none

same : (a b : Package) → joined_parts (parts_in a) (parts_in b) ≡ joined_of a b
same a b = late
    (first_clash file_cmp file_clash a.files b.files)
    (first_clash table_cmp table_clash (own_tables a) (own_tables b))
    (first_clash table_cmp rows_clash (own_tables a) (own_tables b))
    (first_some keys_clash (merged_tables (own_tables a) (own_tables b)))
    (put_together a b)
    (λ clash. joined_after clash (parts_in a) (parts_in b))
    (λ clash. refl) refl

pub parts_joined : (a b : Package) (first second : Parts) (result : Result Joined JoinStop) → first ≡ parts_in a → second ≡ parts_in b
    → JoinsAs result (joined_parts first second) → JoinsAs result (joined_of a b)
parts_joined a b first second result one two due =
    subst (JoinsAs result) ((λ j. joined_parts (one j) (two j)) ∙ same a b) due
