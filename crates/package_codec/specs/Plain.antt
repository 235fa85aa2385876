-- Packages that version 1 can write: they have no foreign key, and no rule or refusal of one.
use Rattle.std.specs.Prelude.{length, ◌==◌, Bool, true, false, ◌&&◌}
use Rattle.std.specs.List.{list_all}
use Rattle.sql_model.specs.declared.need.Need.{Need}
use Rattle.sql_model.specs.declared.need.Rule.{Rule}
use Rattle.sql_model.specs.declared.need.Rule.TheVariants.{L, H, K, P, C}
use Rattle.sql_model.specs.declared.reply.SqlRefusal.{SqlRefusal}
use Rattle.sql_model.specs.declared.reply.SqlRefusal.TheVariants.{Syntax, NoTable, NoColumn, TypeClash}
use Rattle.sql_model.specs.declared.reply.SqlRefusal.TheVariants.{NotNull, KeyTaken, Full, NoParent}
use Rattle.sql_model.specs.declared.reply.SqlRefusal.TheVariants.{HasChild}
use Rattle.sql_model.specs.declared.reply.Reply.{Reply}
use Rattle.sql_model.specs.declared.reply.Reply.TheVariants.{Rows, Changed, Refused}
use Rattle.run_model.specs.declared.event.Act.{Act}
use Rattle.run_model.specs.declared.event.Act.TheVariants as acts
use Rattle.run_model.specs.declared.event.Event.{Event}
use Rattle.run_model.specs.declared.package.Entry.{Entry}
use Rattle.run_model.specs.declared.package.Log.{Log}
use Rattle.run_model.specs.declared.package.Package.{Package}
use Rattle.run_model.specs.declared.package.PackedRow.{PackedRow}
use Rattle.run_model.specs.declared.package.PackedTable.{PackedTable}
use Rattle.package_codec.specs.Version.{Version, One, Two}

-- ---- rules: no parent and no child

abbrev pub is_plain_rule : Rule → Bool
is_plain_rule L = true
is_plain_rule H = true
is_plain_rule K = true
is_plain_rule P = false
is_plain_rule C = false

-- ---- tables: no foreign key

abbrev pub is_plain_row : PackedRow → Bool
is_plain_row r = is_plain_rule r.rule

abbrev pub has_no_foreign : PackedTable → Bool
has_no_foreign t = length t.schema.foreign == 0

abbrev pub is_plain_table : PackedTable → Bool
is_plain_table t = has_no_foreign t && list_all is_plain_row t.rows

-- ---- logs: no refusal by a reference

abbrev pub is_plain_refusal : SqlRefusal → Bool
is_plain_refusal Syntax = true
is_plain_refusal NoTable = true
is_plain_refusal NoColumn = true
is_plain_refusal TypeClash = true
is_plain_refusal NotNull = true
is_plain_refusal (KeyTaken table key) = true
is_plain_refusal Full = true
is_plain_refusal (NoParent table key) = false
is_plain_refusal (HasChild table key) = false

abbrev pub is_plain_reply : Reply → Bool
is_plain_reply (Rows rows) = true
is_plain_reply (Changed n) = true
is_plain_reply (Refused refusal) = is_plain_refusal refusal

abbrev pub is_plain_entry : Entry → Bool
is_plain_entry e = is_plain_reply e.reply

abbrev pub is_plain_log : Log → Bool
is_plain_log l = list_all is_plain_entry l.entries

-- ---- events

abbrev pub is_plain_need : Need → Bool
is_plain_need n = is_plain_rule n.rule

abbrev pub is_plain_act : Act → Bool
is_plain_act (acts.Started path) = true
is_plain_act (acts.Spawned path) = true
is_plain_act (acts.Unspawned path found) = true
is_plain_act (acts.OpenedRead path) = true
is_plain_act (acts.OpenedWrite path) = true
is_plain_act (acts.OpenedAppend path found) = true
is_plain_act (acts.OpenedNew path) = true
is_plain_act (acts.Unopened path found) = true
is_plain_act (acts.Read path) = true
is_plain_act (acts.Wrote path) = true
is_plain_act (acts.Removed path) = true
is_plain_act (acts.Tested path found) = true
is_plain_act (acts.Waited child) = true
is_plain_act (acts.Ended status) = true
is_plain_act (acts.Asked statement tables reads made) = list_all is_plain_need reads

abbrev pub is_plain_event : Event → Bool
is_plain_event e = is_plain_act e.act

-- ---- packages

abbrev pub is_plain : Package → Bool
is_plain p =
    list_all is_plain_table p.tables && list_all is_plain_log p.logs && list_all is_plain_event p.events

-- the version has the tables: version 1 has no foreign keys
abbrev pub has_tables : Version → Package → Bool
has_tables One p = list_all has_no_foreign p.tables
has_tables Two p = true

-- the version has all that is in the package
abbrev pub fits_version : Version → Package → Bool
fits_version One p = is_plain p
fits_version Two p = true
