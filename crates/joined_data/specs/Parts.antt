-- The parts of a package, the joined parts of two, and the result of a call that joins two.
use Rattle.std.specs.Prelude.{◌≡◌, Option, Some, None, Result, Ok, Err}
use Rattle.std.specs.Option.{option_or}
use Rattle.ldv_value.specs.Options.{first_some}
use Rattle.joined_data.specs.Types.{Package}
use Rattle.joined_data.specs.declared.joined.Clash.{Clash as TheClash}
use Rattle.joined_data.specs.declared.joined.Joined.{Joined}
use Rattle.joined_data.specs.declared.joining.JoinStop.{JoinStop}
use Rattle.joined_data.specs.declared.joining.JoinStop.TheVariants.{Clash, NoMemory}
use Rattle.joined_data.specs.declared.parts.Parts.{Parts}
use Rattle.joined_data.specs.Joined.{run_in, own_tables, merged_files, merged_tables, unless_clash}
use Rattle.joined_data.specs.Joined.{file_cmp, file_clash, table_cmp, table_clash, rows_clash, keys_clash}
use Rattle.joined_data.specs.Merging.{first_clash}

abbrev pub parts_in : Package → Parts
parts_in p = record { run = run_in p; files = p.files; tables = own_tables p }

-- all but keys, which are judged over the rows of both
abbrev pub early_clash : Parts → Parts → Option TheClash
early_clash a b = option_or (first_clash file_cmp file_clash a.files b.files)
    (option_or (first_clash table_cmp table_clash a.tables b.tables)
    (first_clash table_cmp rows_clash a.tables b.tables))

abbrev pub parts_together : Parts → Parts → Joined
parts_together a b = record {
  files = merged_files a.files b.files;
  tables = merged_tables a.tables b.tables;
  first = a.run;
  second = b.run;
}

abbrev pub join_of_parts : Parts → Parts → Result Joined TheClash
join_of_parts a b =
    unless_clash (first_some keys_clash (merged_tables a.tables b.tables)) (parts_together a b)

abbrev pub joined_after : Option TheClash → Parts → Parts → Result Joined TheClash
joined_after None a b = join_of_parts a b
joined_after (Some clash) a b = Err clash

abbrev pub joined_parts : Parts → Parts → Result Joined TheClash
joined_parts a b = joined_after (early_clash a b) a b

-- the result is the one that is due, or memory ran out
abbrev pub JoinsAs : Result Joined JoinStop → Result Joined TheClash → Type 0
JoinsAs (Ok j) due = due ≡ Ok j
JoinsAs (Err (Clash clash)) due = due ≡ Err clash
JoinsAs (Err NoMemory) due = Unit {0}
